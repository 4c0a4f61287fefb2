-- Calls within calls: at the same tokens and with the same budget a form reads only nonterminals of lower rank.
use Rattle.std.proofs.Common.{ℕ, suc, ◌<◌, arith}
use Rattle.mw_lex.specs.Tokens.{let_word, rec_word, if_word, run_word}
use Rattle.mw_lex.specs.Tokens.{kernel_word, main_word, int_word}
use Rattle.mw_lex.specs.Tokens.{comma, minus, arrow, equal, bracket_left, escape_mark, paren_left}
use Rattle.mw_lex.specs.Tokens.{word, number, PureToken, token}
use Rattle.mw_grammar.specs.SurfaceTrees.{SurfaceTree}
use Rattle.mw_grammar.specs.Grammar.{Mark, by_arrow, by_equal, Row, sum, expr, disjunction}
use Rattle.mw_grammar.specs.Grammar.{conjunction, comparison, row, head, atom, Nonterminal, program, item, parameter}
use Rattle.mw_grammar.specs.Grammar.{body, tree, kernel_type, ground, part, base, Meaning, right}
use Rattle.mw_grammar.specs.Forms.{Form, gives, refuses, skip, under, expect, reads, pick, option, more, form}
use Rattle.mw_grammar.specs.Forms.{program_by, rec_item, let_by, kernel_by, item_by, parameter_by, behind_mark, body_by}
use Rattle.mw_grammar.specs.Forms.{rec_by, let_in_by, expr_by, head_by, minus_by, behind_first, paren_by, atom_by}
use Rattle.mw_grammar.specs.Forms.{part_by, base_by}
use Rattle.mw_grammar.specs.Descent.{rank}

abbrev pub Ranked : {n : Nonterminal} → ℕ → Form n → Type 0
Ranked r (gives v) = Unit {0}
Ranked r refuses = Unit {0}
Ranked r (skip F) = Ranked (suc r) F
Ranked r (under F) = Ranked 12 F
Ranked r (expect k F) = Ranked (suc r) F
Ranked r (reads m go) = (rank m < r) × ((v : Meaning m) → Ranked r (go v))
Ranked r (pick f) = (t : PureToken) → Ranked r (f t)
Ranked r (option k F G) = Ranked 12 F × Ranked r G
Ranked r (more w l go) = (e : SurfaceTree) → Ranked r (go e)

ranked_program : (t : PureToken) → Ranked 11 (program_by t)
ranked_program (token a b main_word) = (omega arith, λ g. (omega arith, λ e. tt))
ranked_program (token a b let_word) = (omega arith, λ i. (omega arith, λ p. tt))
ranked_program (token a b kernel_word) = (omega arith, λ i. (omega arith, λ p. tt))
ranked_program (token a b _) = tt

ranked_rec_item : (t : PureToken) → Ranked 12 (rec_item t)
ranked_rec_item (token a b (word x)) = (omega arith, λ p. tt)
ranked_rec_item (token a b _) = tt

ranked_let : (t : PureToken) → Ranked 11 (let_by t)
ranked_let (token a b (word x)) = (omega arith, λ d. tt)
ranked_let (token a b rec_word) = ranked_rec_item
ranked_let (token a b _) = tt

ranked_kernel : (t : PureToken) → Ranked 11 (kernel_by t)
ranked_kernel (token a b (word x)) = (omega arith, λ k. (omega arith, λ e. tt))
ranked_kernel (token a b _) = tt

ranked_item : (t : PureToken) → Ranked 10 (item_by t)
ranked_item (token a b let_word) = ranked_let
ranked_item (token a b kernel_word) = ranked_kernel
ranked_item (token a b _) = tt

ranked_parameter : (m : Mark) (t : PureToken) → Ranked 0 (parameter_by m t)
ranked_parameter m (token a b (word x)) = (omega arith, λ d. tt)
ranked_parameter m (token a b _) = tt

ranked_mark : (m : Mark) (t : PureToken) → Ranked 10 (behind_mark m t)
ranked_mark m (token a b k) = (omega arith, λ e. tt)

ranked_body : (m : Mark) (t : PureToken) → Ranked 9 (body_by m t)
ranked_body m (token a b (word x)) = (omega arith, λ p. tt)
ranked_body by_arrow (token a b arrow) = ranked_mark by_arrow
ranked_body by_equal (token a b equal) = ranked_mark by_equal
ranked_body by_arrow (token a b _) = tt
ranked_body by_equal (token a b _) = tt

ranked_rec : (t : PureToken) → Ranked 13 (rec_by t)
ranked_rec (token a b (word x)) = (omega arith, λ d. (omega arith, λ e. tt))
ranked_rec (token a b _) = tt

ranked_let_in : (t : PureToken) → Ranked 12 (let_in_by t)
ranked_let_in (token a b (word x)) = (omega arith, λ d. (omega arith, λ e. tt))
ranked_let_in (token a b rec_word) = ranked_rec
ranked_let_in (token a b _) = tt

ranked_expr : (t : PureToken) → Ranked 8 (expr_by t)
ranked_expr (token a b let_word) = ranked_let_in
ranked_expr (token a b if_word) = (omega arith, λ c. (omega arith, λ d. (omega arith, λ e. tt)))
ranked_expr (token a b _) = (omega arith, λ e. tt)

ranked_head : (t : PureToken) → Ranked 1 (head_by t)
ranked_head (token a b run_word) = (omega arith, λ k. (omega arith, λ e. tt))
ranked_head (token a b _) = (omega arith, λ e. tt)

ranked_minus : (t : PureToken) → Ranked 13 (minus_by t)
ranked_minus (token a b (number n)) = tt
ranked_minus (token a b _) = tt

ranked_first : (d : SurfaceTree) (t : PureToken) → Ranked 12 (behind_first d t)
ranked_first d (token a b comma) = (omega arith, λ e. tt)
ranked_first d (token a b _) = tt

ranked_paren : (t : PureToken) → Ranked 12 (paren_by t)
ranked_paren (token a b minus) = ranked_minus
ranked_paren (token a b _) = (omega arith, λ d. ranked_first d)

ranked_atom : (t : PureToken) → Ranked 0 (atom_by t)
ranked_atom (token a b paren_left) = ranked_paren
ranked_atom (token a b bracket_left) = (omega arith, λ e. tt)
ranked_atom (token a b escape_mark) = (omega arith, λ e. tt)
ranked_atom (token a b _) = tt

ranked_part : (t : PureToken) → Ranked 1 (part_by t)
ranked_part (token a b paren_left) = (omega arith, λ g. tt)
ranked_part (token a b _) = (omega arith, λ g. tt)

ranked_base : (t : PureToken) → Ranked 0 (base_by t)
ranked_base (token a b int_word) = tt
ranked_base (token a b _) = tt

pub ranked : (n : Nonterminal) → Ranked (rank n) (form n)
ranked program = ranked_program
ranked item = ranked_item
ranked (parameter m) = ranked_parameter m
ranked (body m) = ranked_body m
ranked (tree expr) = ranked_expr
ranked (tree disjunction) = (omega arith, λ d. ((omega arith, λ e. tt), tt))
ranked (tree conjunction) = (omega arith, λ d. ((omega arith, λ e. tt), tt))
ranked (tree comparison) =
    (omega arith, λ d. ((omega arith, λ e. tt), ((omega arith, λ e. tt), ((omega arith, λ e. tt), tt))))
ranked (tree (row sum)) = (omega arith, λ l e. tt)
ranked (tree (row _)) = (omega arith, λ l e. tt)
ranked (tree head) = ranked_head
ranked (tree atom) = ranked_atom
ranked kernel_type = (omega arith, λ g. ((omega arith, λ h. tt), tt))
ranked ground = (omega arith, λ g. ((omega arith, λ h. tt), tt))
ranked part = ranked_part
ranked base = ranked_base

-- after an operator
pub rank_right : (w : Row) → rank (tree (right w)) < 12
rank_right sum = omega arith
rank_right _ = omega arith
