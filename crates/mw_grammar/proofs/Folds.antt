-- What a form reads the grammar reads.
use Rattle.std.proofs.Common.{ℕ, suc, List, ◌∷◌, length}
use Rattle.mw_lex.specs.Tokens.{let_word, rec_word, fun_word, if_word, not_word, fst_word, snd_word, run_word}
use Rattle.mw_lex.specs.Tokens.{close_word, open_word, lift_word, lift_b_word, kernel_word, main_word, int_word}
use Rattle.mw_lex.specs.Tokens.{bool_word, comma, minus, arrow, equal, bracket_left, escape_mark, paren_left}
use Rattle.mw_lex.specs.Tokens.{paren_right, word, number, true_word, false_word, PureToken, token}
use Rattle.mw_term.specs.Terms.{GroundType, base as ground_base}
use Rattle.mw_grammar.specs.SurfaceTrees.{SurfaceTree, PureItem, PureSurface}
use Rattle.mw_grammar.specs.SourceNodes.{Nodes, node}
use Rattle.mw_grammar.specs.Grammar
use Rattle.mw_grammar.specs.Grammar.{Mark, by_arrow, by_equal, Row, sum, product, application, Precedence, expr}
use Rattle.mw_grammar.specs.Grammar.{disjunction, conjunction, comparison, row, head, atom, Nonterminal, program, item}
use Rattle.mw_grammar.specs.Grammar.{parameter, body, tree, kernel_type, ground, part, base, Definition, define}
use Rattle.mw_grammar.specs.Grammar.{Abstraction, abstract, Meaning, Reads, More, right, operand, equal_sign, less_sign}
use Rattle.mw_grammar.specs.Grammar.{less_equal_sign, fst_head, snd_head, not_head, close_head, open_head, lift_head}
use Rattle.mw_grammar.specs.Grammar.{lift_b_head, r_main, r_program, r_let_item, r_rec_item, r_kernel, r_let, r_let_rec}
use Rattle.mw_grammar.specs.Grammar.{r_fun, r_if, r_expr, r_parameter, r_body, r_mark, r_or, r_disjunction, r_and}
use Rattle.mw_grammar.specs.Grammar.{r_conjunction, r_compare, r_comparison, r_row, r_head, r_run, r_atom, r_name}
use Rattle.mw_grammar.specs.Grammar.{r_number, r_true, r_false, r_minus, r_paren, r_pair, r_bracket, r_escape}
use Rattle.mw_grammar.specs.Grammar.{r_ground_kernel, r_arrow, r_star, r_part, r_base_part, r_ground_paren, r_int}
use Rattle.mw_grammar.specs.Grammar.{r_bool}
use Rattle.mw_grammar.specs.Forms.{gives, reads, pick, form, program_by, rec_item, let_by, kernel_by, item_by}
use Rattle.mw_grammar.specs.Forms.{parameter_by, behind_mark, body_by, rec_by, let_in_by, expr_by, head_by, minus_by}
use Rattle.mw_grammar.specs.Forms.{behind_first, paren_by, atom_by, part_by, base_by}
use Rattle.mw_grammar.proofs.Derivations.{empty, some}
use Rattle.mw_grammar.proofs.Samples.{Read, d_gives, d_skip, d_under, d_expect, d_reads, d_pick, d_yes, d_no, d_more}
use Rattle.mw_grammar.proofs.Samples.{no_refuses}

fold_program : (t : PureToken) {ts rest : List PureToken} {v : PureSurface} {s : Nodes}
    → Read program (program_by t) empty (t ∷ ts) v s rest → Reads program (t ∷ ts) v s rest
fold_program (token a a' main_word) (d_skip (d_expect (d_reads h (d_expect (d_reads i d_gives))))) = r_main h i
fold_program (token a a' let_word) (d_reads h (d_expect (d_reads i d_gives))) = r_program h i
fold_program (token a a' kernel_word) (d_reads h (d_expect (d_reads i d_gives))) = r_program h i
fold_program (token a a' _) h = absurd (no_refuses h)

fold_rec_item : (a a' b b' : ℕ) (t : PureToken) {ts rest : List PureToken} {v : PureItem} {s : Nodes}
    → Read item (rec_item t) empty (t ∷ ts) v s rest → Reads item (token a a' let_word ∷ token b b' rec_word ∷ t ∷ ts) v
    s rest
fold_rec_item a a' b b' (token c c' (word f)) (d_skip (d_reads {u = abstract x from e} h d_gives)) = r_rec_item h
fold_rec_item a a' b b' (token c c' _) h = absurd (no_refuses h)

fold_let : (a a' : ℕ) (t : PureToken) {ts rest : List PureToken} {v : PureItem} {s : Nodes}
    → Read item (let_by t) empty (t ∷ ts) v s rest → Reads item (token a a' let_word ∷ t ∷ ts) v s rest
fold_let a a' (token b b' (word x)) (d_skip (d_reads {u = define from e} h d_gives)) = r_let_item h
fold_let a a' (token b b' rec_word) (d_skip (d_pick {t = t} h)) = fold_rec_item a a' b b' t h
fold_let a a' (token b b' _) h = absurd (no_refuses h)

fold_kernel : (a a' : ℕ) (t : PureToken) {ts rest : List PureToken} {v : PureItem} {s : Nodes}
    → Read item (kernel_by t) empty (t ∷ ts) v s rest → Reads item (token a a' kernel_word ∷ t ∷ ts) v s rest
fold_kernel a a' (token b b' (word x)) (d_skip (d_expect (d_reads h (d_expect (d_reads i d_gives))))) = r_kernel h i
fold_kernel a a' (token b b' _) h = absurd (no_refuses h)

fold_item : (t : PureToken) {ts rest : List PureToken} {v : PureItem} {s : Nodes} → Read item (item_by t) empty (t ∷ ts)
    v s rest → Reads item (t ∷ ts) v s rest
fold_item (token a a' let_word) (d_skip (d_pick {t = t} h)) = fold_let a a' t h
fold_item (token a a' kernel_word) (d_skip (d_pick {t = t} h)) = fold_kernel a a' t h
fold_item (token a a' _) h = absurd (no_refuses h)

fold_parameter : (m : Mark) (t : PureToken) {ts rest : List PureToken} {v : Abstraction} {s : Nodes}
    → Read (parameter m) (parameter_by m t) empty (t ∷ ts) v s rest → Reads (parameter m) (t ∷ ts) v s rest
fold_parameter m (token a a' (word x)) (d_under (d_reads {u = define from e} h d_gives)) = r_parameter h
fold_parameter m (token a a' _) h = absurd (no_refuses h)

fold_mark : (m : Mark) (a a' : ℕ) (t : PureToken) {ts rest : List PureToken} {v : Definition} {s : Nodes}
    → Read (body m) (behind_mark m t) empty (t ∷ ts) v s rest → Reads (body m) (token a a' (Grammar.mark_of m) ∷ t ∷ ts)
    v s rest
fold_mark m a a' (token b b' k) (d_reads h d_gives) = r_mark {m = m} h

fold_body : (m : Mark) (t : PureToken) {ts rest : List PureToken} {v : Definition} {s : Nodes}
    → Read (body m) (body_by m t) empty (t ∷ ts) v s rest → Reads (body m) (t ∷ ts) v s rest
fold_body m (token a a' (word x)) (d_reads {u = abstract y from e} h d_gives) = r_body h
fold_body by_arrow (token a a' arrow) (d_skip (d_pick {t = t} h)) = fold_mark by_arrow a a' t h
fold_body by_equal (token a a' equal) (d_skip (d_pick {t = t} h)) = fold_mark by_equal a a' t h
fold_body by_arrow (token a a' _) h = absurd (no_refuses h)
fold_body by_equal (token a a' _) h = absurd (no_refuses h)

fold_rec : (a a' b b' : ℕ) (t : PureToken) {ts rest : List PureToken} {v : SurfaceTree} {s : Nodes}
    → Read (tree expr) (rec_by t) empty (t ∷ ts) v s rest
    → Reads (tree expr) (token a a' let_word ∷ token b b' rec_word ∷ t ∷ ts) v (node (suc (suc (suc (length ts)))) s)
    rest
fold_rec a a' b b' (token c c' (word f)) (d_skip (d_reads {u = abstract x from d} h (d_expect (d_reads i d_gives)))) =
    r_let_rec h i
fold_rec a a' b b' (token c c' _) h = absurd (no_refuses h)

fold_let_in : (a a' : ℕ) (t : PureToken) {ts rest : List PureToken} {v : SurfaceTree} {s : Nodes}
    → Read (tree expr) (let_in_by t) empty (t ∷ ts) v s rest → Reads (tree expr) (token a a' let_word ∷ t ∷ ts) v
    (node (suc (suc (length ts))) s) rest
fold_let_in a a' (token b b' (word x)) (d_skip (d_reads {u = define from d} h (d_expect (d_reads i d_gives)))) =
    r_let h i
fold_let_in a a' (token b b' rec_word) (d_skip (d_pick {t = t} h)) = fold_rec a a' b b' t h
fold_let_in a a' (token b b' _) h = absurd (no_refuses h)

passed : {l m : Precedence} {ts rest : List PureToken} {v : SurfaceTree} {s : Nodes}
    → Read (tree l) (reads (tree m) λ e. gives e) empty ts v s rest → Reads (tree m) ts v s rest
passed (d_reads h d_gives) = h

fold_expr : (t : PureToken) {ts rest : List PureToken} {v : SurfaceTree} {s : Nodes}
    → Read (tree expr) (expr_by t) empty (t ∷ ts) v s rest → Reads (tree expr) (t ∷ ts) v s rest
fold_expr (token a a' let_word) (d_under (d_pick {t = t} h)) = fold_let_in a a' t h
fold_expr (token a a' fun_word) (d_skip (d_reads {u = abstract x from e} h d_gives)) = r_fun h
fold_expr (token a a' if_word) (d_under (d_reads h (d_expect (d_reads i (d_expect (d_reads j d_gives)))))) = r_if h i j
fold_expr (token a a' _) h = r_expr (passed h)

fold_head : (t : PureToken) {ts rest : List PureToken} {v : SurfaceTree} {s : Nodes}
    → Read (tree head) (head_by t) empty (t ∷ ts) v s rest → Reads (tree head) (t ∷ ts) v s rest
fold_head (token a a' fst_word) (d_under (d_reads h d_gives)) = r_head fst_head h
fold_head (token a a' snd_word) (d_under (d_reads h d_gives)) = r_head snd_head h
fold_head (token a a' not_word) (d_under (d_reads h d_gives)) = r_head not_head h
fold_head (token a a' close_word) (d_under (d_reads h d_gives)) = r_head close_head h
fold_head (token a a' open_word) (d_under (d_reads h d_gives)) = r_head open_head h
fold_head (token a a' lift_word) (d_under (d_reads h d_gives)) = r_head lift_head h
fold_head (token a a' lift_b_word) (d_under (d_reads h d_gives)) = r_head lift_b_head h
fold_head (token a a' run_word) (d_under (d_expect (d_reads h (d_expect (d_reads i d_gives))))) = r_run h i
fold_head (token a a' _) h = r_atom (passed h)

fold_minus : (a a' b b' : ℕ) (t : PureToken) {ts rest : List PureToken} {v : SurfaceTree} {s : Nodes}
    → Read (tree atom) (minus_by t) empty (t ∷ ts) v s rest
    → Reads (tree atom) (token a a' paren_left ∷ token b b' minus ∷ t ∷ ts) v (node (suc (suc (suc (length ts)))) s)
    rest
fold_minus a a' b b' (token c c' (number n)) (d_skip (d_expect d_gives)) = r_minus
fold_minus a a' b b' (token c c' _) h = absurd (no_refuses h)

fold_first : (a a' : ℕ) {us : List PureToken} {d : SurfaceTree} {s : Nodes} (t : PureToken) {ts rest : List PureToken}
    {v : SurfaceTree} {r : Nodes} → Reads (tree expr) us d s (t ∷ ts) → Read (tree atom) (behind_first d t) (some s)
    (t ∷ ts) v r rest
    → Reads (tree atom) (token a a' paren_left ∷ us) v (node (suc (length us)) r) rest
fold_first a a' (token b b' paren_right) h (d_skip d_gives) = r_paren h
fold_first a a' (token b b' comma) h (d_skip (d_reads i (d_expect d_gives))) = r_pair h i
fold_first a a' (token b b' _) h i = absurd (no_refuses i)

fold_group : (a a' : ℕ) {us rest : List PureToken} {v : SurfaceTree} {s : Nodes}
    → Read (tree atom) (reads (tree expr) λ d. pick (behind_first d)) empty us v s rest
    → Reads (tree atom) (token a a' paren_left ∷ us) v (node (suc (length us)) s) rest
fold_group a a' (d_reads h (d_pick {t = t} i)) = fold_first a a' t h i

fold_paren : (a a' : ℕ) (t : PureToken) {ts rest : List PureToken} {v : SurfaceTree} {s : Nodes}
    → Read (tree atom) (paren_by t) empty (t ∷ ts) v s rest → Reads (tree atom) (token a a' paren_left ∷ t ∷ ts) v
    (node (suc (suc (length ts))) s) rest
fold_paren a a' (token b b' minus) (d_skip (d_pick {t = t} h)) = fold_minus a a' b b' t h
fold_paren a a' (token b b' _) h = fold_group a a' h

fold_atom : (t : PureToken) {ts rest : List PureToken} {v : SurfaceTree} {s : Nodes}
    → Read (tree atom) (atom_by t) empty (t ∷ ts) v s rest → Reads (tree atom) (t ∷ ts) v s rest
fold_atom (token a a' (word x)) (d_under d_gives) = r_name
fold_atom (token a a' (number n)) (d_under d_gives) = r_number
fold_atom (token a a' true_word) (d_under d_gives) = r_true
fold_atom (token a a' false_word) (d_under d_gives) = r_false
fold_atom (token a a' paren_left) (d_under (d_pick {t = t} h)) = fold_paren a a' t h
fold_atom (token a a' bracket_left) (d_under (d_reads h (d_expect d_gives))) = r_bracket h
fold_atom (token a a' escape_mark) (d_under (d_reads h d_gives)) = r_escape h
fold_atom (token a a' _) h = absurd (no_refuses h)

fold_base_part : {ts rest : List PureToken} {v : GroundType} {s : Nodes}
    → Read part (reads base λ b. gives (ground_base b)) empty ts v s rest → Reads part ts v s rest
fold_base_part (d_reads h d_gives) = r_base_part h

fold_part : (t : PureToken) {ts rest : List PureToken} {v : GroundType} {s : Nodes}
    → Read part (part_by t) empty (t ∷ ts) v s rest → Reads part (t ∷ ts) v s rest
fold_part (token a a' paren_left) (d_under (d_reads h (d_expect d_gives))) = r_ground_paren h
fold_part (token a a' _) h = fold_base_part h

fold_base : (t : PureToken) {ts rest : List PureToken} {v : _} {s : Nodes} → Read base (base_by t) empty (t ∷ ts) v s
    rest → Reads base (t ∷ ts) v s rest
fold_base (token a a' int_word) (d_under d_gives) = r_int
fold_base (token a a' bool_word) (d_under d_gives) = r_bool
fold_base (token a a' _) h = absurd (no_refuses h)

pub fold : (n : Nonterminal) {ts rest : List PureToken} {v : Meaning n} {s : Nodes} → Read n (form n) empty ts v s rest
    → Reads n ts v s rest
fold program (d_pick {t = t} h) = fold_program t h
fold item (d_pick {t = t} h) = fold_item t h
fold (parameter m) (d_pick {t = t} h) = fold_parameter m t h
fold (body m) (d_pick {t = t} h) = fold_body m t h
fold (tree expr) (d_pick {t = t} h) = fold_expr t h
fold (tree disjunction) (d_reads h (d_yes (d_reads i d_gives))) = r_or h i
fold (tree disjunction) (d_reads h (d_no d_gives)) = r_disjunction h
fold (tree conjunction) (d_reads h (d_yes (d_reads i d_gives))) = r_and h i
fold (tree conjunction) (d_reads h (d_no d_gives)) = r_conjunction h
fold (tree comparison) (d_reads h (d_yes (d_reads i d_gives))) = r_compare equal_sign h i
fold (tree comparison) (d_reads h (d_no (d_yes (d_reads i d_gives)))) = r_compare less_sign h i
fold (tree comparison) (d_reads h (d_no (d_no (d_yes (d_reads i d_gives))))) = r_compare less_equal_sign h i
fold (tree comparison) (d_reads h (d_no (d_no (d_no d_gives)))) = r_comparison h
fold (tree (row w)) (d_reads h (d_more m d_gives)) = r_row h m
fold (tree head) (d_pick {t = t} h) = fold_head t h
fold (tree atom) (d_pick {t = t} h) = fold_atom t h
fold kernel_type (d_reads h (d_yes (d_reads i d_gives))) = r_arrow h i
fold kernel_type (d_reads h (d_no d_gives)) = r_ground_kernel h
fold ground (d_reads h (d_yes (d_reads i d_gives))) = r_star h i
fold ground (d_reads h (d_no d_gives)) = r_part h
fold part (d_pick {t = t} h) = fold_part t h
fold base (d_pick {t = t} h) = fold_base t h
