-- Each nonterminal has some tokens, and so has each form with which one can still go on.
use Rattle.std.proofs.Common.{◌≡◌, refl, ℕ, suc, List, [], ◌∷◌, ◌++◌, length, append_assoc}
use Rattle.mw_lex.specs.Tokens.{Symbol, let_word, rec_word, if_word, run_word}
use Rattle.mw_lex.specs.Tokens.{kernel_word, main_word, int_word}
use Rattle.mw_lex.specs.Tokens.{comma, minus, arrow, equal, colon, bracket_left, escape_mark, paren_left}
use Rattle.mw_lex.specs.Tokens.{paren_right, word, number, PureToken, token}
use Rattle.mw_grammar.specs.SurfaceTrees.{SurfaceTree}
use Rattle.mw_grammar.specs.SourceNodes.{Nodes, node}
use Rattle.mw_grammar.specs.Grammar.{Mark, by_arrow, by_equal, Row, sum, product, application, expr, disjunction}
use Rattle.mw_grammar.specs.Grammar.{conjunction, comparison, row, head, atom, Nonterminal, program, item, parameter}
use Rattle.mw_grammar.specs.Grammar.{body, tree, kernel_type, ground, part, base, Meaning, Reads, More, m_end, r_main}
use Rattle.mw_grammar.specs.Grammar.{r_let_item, r_expr, r_parameter, r_mark, r_disjunction, r_conjunction}
use Rattle.mw_grammar.specs.Grammar.{r_comparison, r_row, r_atom, r_name, r_ground_kernel, r_part, r_base_part, r_int}
use Rattle.mw_grammar.specs.Forms.{Expected, symbol, Form, gives, refuses, skip, under, expect, reads, pick}
use Rattle.mw_grammar.specs.Forms.{option, more, form, program_by, rec_item, let_by, kernel_by, item_by, parameter_by}
use Rattle.mw_grammar.specs.Forms.{behind_mark, body_by, rec_by, let_in_by, expr_by, head_by, minus_by, behind_first}
use Rattle.mw_grammar.specs.Forms.{paren_by, atom_by, part_by, base_by}
use Rattle.mw_grammar.proofs.Derivations.{Before, empty, some, over, nodes}

-- Readings by forms, in which the parts are read by the grammar.
pub data Read : (n : Nonterminal) → Form n → Before → List PureToken → Meaning n → Nodes → List PureToken → Type 0 where
  d_gives : {n : Nonterminal} {v : Meaning n} {a : Before} {ts : List PureToken} → Read n (gives v) a ts v (nodes a) ts
  d_skip : {n : Nonterminal} {F : Form n} {a : Before} {t : PureToken} {ts rest : List PureToken} {v : Meaning n}
      {s : Nodes} → Read n F a ts v s rest → Read n (skip F) a (t ∷ ts) v s rest
  d_under : {n : Nonterminal} {F : Form n} {a : Before} {t : PureToken} {ts rest : List PureToken} {v : Meaning n}
      {s : Nodes} → Read n F empty ts v s rest
      → Read n (under F) a (t ∷ ts) v (node (suc (length ts)) (over a s)) rest
  d_expect : {n : Nonterminal} {k : Expected} {F : Form n} {a : Before} {p q : ℕ} {ts rest : List PureToken}
      {v : Meaning n} {s : Nodes} → Read n F a ts v s rest
      → Read n (expect k F) a (token p q (symbol k) ∷ ts) v s rest
  d_reads : {m n : Nonterminal} {go : Meaning m → Form n} {a : Before} {ts mid rest : List PureToken} {u : Meaning m}
      {v : Meaning n} {t s : Nodes} → Reads m ts u t mid
      → Read n (go u) (some (over a t)) mid v s rest → Read n (reads m go) a ts v s rest
  d_pick : {n : Nonterminal} {f : PureToken → Form n} {a : Before} {t : PureToken} {ts rest : List PureToken}
      {v : Meaning n} {s : Nodes} → Read n (f t) a (t ∷ ts) v s rest → Read n (pick f) a (t ∷ ts) v s rest
  d_yes : {n : Nonterminal} {k : Expected} {F G : Form n} {a : Before} {p q : ℕ} {ts rest : List PureToken}
      {v : Meaning n} {s : Nodes} → Read n F empty ts v s rest
      → Read n (option k F G) a (token p q (symbol k) ∷ ts) v (node (suc (length ts)) (over a s)) rest
  d_no : {n : Nonterminal} {k : Expected} {F G : Form n} {a : Before} {ts rest : List PureToken} {v : Meaning n}
      {s : Nodes} → Read n G a ts v s rest → Read n (option k F G) a ts v s rest
  d_more : {n : Nonterminal} {w : Row} {l e : SurfaceTree} {go : SurfaceTree → Form n} {a : Before}
      {ts mid rest : List PureToken} {v : Meaning n} {t s : Nodes} → More w l (nodes a) ts e t mid
      → Read n (go e) (some t) mid v s rest → Read n (more w l go) a ts v s rest

pub no_refuses : {n : Nonterminal} {a : Before} {ts rest : List PureToken} {v : Meaning n} {s : Nodes}
    → Read n refuses a ts v s rest → ⊥
no_refuses h = elim h [ ]

-- some tokens are of the nonterminal, whatever stands after
pub record Sample (n : Nonterminal) : Type 0 where
  pub more : List PureToken
  pub v : Meaning n
  pub ends : (x : List PureToken) → (s : Nodes) × Reads n (more ++ x) v s x

-- what is read of n after what S stands for
abbrev pub Relation : Nonterminal → Type 0 → Type 1
Relation n S = S → List PureToken → Meaning n → Nodes → List PureToken → Type 0

-- some tokens are read, whatever stands before and after
pub record Filled (n : Nonterminal) {S : Type 0} (R : Relation n S) : Type 0 where
  pub more : List PureToken
  pub v : Meaning n
  pub ends : (a : S) (x : List PureToken) → (s : Nodes) × R a (more ++ x) v s x

abbrev pub Fills : {n : Nonterminal} → Form n → Type 0
Fills {n = n} F = Filled n (Read n F)

abbrev t : Symbol → PureToken
t k = token 0 0 k

abbrev x : PureToken
x = token 0 0 (word [])

abbrev pub atom_sample : Sample (tree atom)
atom_sample = record { more = x ∷ []; v = _; ends = λ y. (_, r_name) }

abbrev head_sample : Sample (tree head)
head_sample = record { more = x ∷ []; v = _; ends = λ y. (_, r_atom (atom_sample.ends y).1) }

abbrev application_sample : Sample (tree (row application))
application_sample = record { more = x ∷ []; v = _; ends = λ y. (_, r_row (head_sample.ends y).1 m_end) }

abbrev product_sample : Sample (tree (row product))
product_sample = record { more = x ∷ []; v = _; ends = λ y. (_, r_row (application_sample.ends y).1 m_end) }

abbrev sum_sample : Sample (tree (row sum))
sum_sample = record { more = x ∷ []; v = _; ends = λ y. (_, r_row (product_sample.ends y).1 m_end) }

abbrev comparison_sample : Sample (tree comparison)
comparison_sample = record { more = x ∷ []; v = _; ends = λ y. (_, r_comparison (sum_sample.ends y).1) }

abbrev conjunction_sample : Sample (tree conjunction)
conjunction_sample = record { more = x ∷ []; v = _; ends = λ y. (_, r_conjunction (comparison_sample.ends y).1) }

abbrev disjunction_sample : Sample (tree disjunction)
disjunction_sample = record { more = x ∷ []; v = _; ends = λ y. (_, r_disjunction (conjunction_sample.ends y).1) }

abbrev pub expr_sample : Sample (tree expr)
expr_sample = record { more = x ∷ []; v = _; ends = λ y. (_, r_expr (disjunction_sample.ends y).1) }

abbrev arrow_sample : Sample (body by_arrow)
arrow_sample = record { more = t arrow ∷ x ∷ []; v = _; ends = λ y. (_, r_mark {m = by_arrow} (expr_sample.ends y).1) }

abbrev equal_sample : Sample (body by_equal)
equal_sample = record { more = t equal ∷ x ∷ []; v = _; ends = λ y. (_, r_mark {m = by_equal} (expr_sample.ends y).1) }

abbrev arrow_parameter : Sample (parameter by_arrow)
arrow_parameter = record { more = x ∷ t arrow ∷ x ∷ []; v = _; ends = λ y. (_, r_parameter (arrow_sample.ends y).1) }

abbrev equal_parameter : Sample (parameter by_equal)
equal_parameter = record { more = x ∷ t equal ∷ x ∷ []; v = _; ends = λ y. (_, r_parameter (equal_sample.ends y).1) }

abbrev base_sample : Sample base
base_sample = record { more = t int_word ∷ []; v = _; ends = λ y. (_, r_int) }

abbrev part_sample : Sample part
part_sample = record { more = t int_word ∷ []; v = _; ends = λ y. (_, r_base_part (base_sample.ends y).1) }

abbrev ground_sample : Sample ground
ground_sample = record { more = t int_word ∷ []; v = _; ends = λ y. (_, r_part (part_sample.ends y).1) }

abbrev kernel_sample : Sample kernel_type
kernel_sample = record { more = t int_word ∷ []; v = _; ends = λ y. (_, r_ground_kernel (ground_sample.ends y).1) }

abbrev item_sample : Sample item
item_sample =
    record { more = t let_word ∷ x ∷ t equal ∷ x ∷ []; v = _; ends = λ y. (_, r_let_item (equal_sample.ends y).1) }

abbrev program_sample : Sample program
program_sample = record {
  more = t main_word ∷ t colon ∷ t int_word ∷ t equal ∷ x ∷ [];
  v = _;
  ends = λ y. (_, r_main (ground_sample.ends (t equal ∷ x ∷ y)).1 (expr_sample.ends y).1);
}

abbrev pub sample : (m : Nonterminal) → Sample m
sample program = program_sample
sample item = item_sample
sample (parameter by_arrow) = arrow_parameter
sample (parameter by_equal) = equal_parameter
sample (body by_arrow) = arrow_sample
sample (body by_equal) = equal_sample
sample (tree expr) = expr_sample
sample (tree disjunction) = disjunction_sample
sample (tree conjunction) = conjunction_sample
sample (tree comparison) = comparison_sample
sample (tree (row sum)) = sum_sample
sample (tree (row product)) = product_sample
sample (tree (row application)) = application_sample
sample (tree head) = head_sample
sample (tree atom) = atom_sample
sample kernel_type = kernel_sample
sample ground = ground_sample
sample part = part_sample
sample base = base_sample

-- where a form stands: at the head of a nonterminal, after what was read, for the token in hand, or where no operator
-- comes
pub data Stand : Type 0 where
  first : Stand
  going : Stand
  chosen : Stand
  other : Stand

-- where any tokens may have been read, and where a form may refuse
abbrev pub Wide : Stand → Type 0
Wide first = ⊥
Wide chosen = ⊥
Wide going = Unit {0}
Wide other = Unit {0}

abbrev pub MayRefuse : Stand → Type 0
MayRefuse first = ⊥
MayRefuse going = ⊥
MayRefuse chosen = Unit {0}
MayRefuse other = Unit {0}

-- One can go on with the form, and with all that it comes to. What a token decides takes a token, or refuses; and at
-- its head a nonterminal takes one.
abbrev pub Open : {n : Nonterminal} → Stand → Form n → Type 0
Open c (gives v) = Wide c
Open c refuses = MayRefuse c
Open c (skip F) = Open going F
Open c (under F) = Open going F
Open c (expect k F) = Open going F
Open c (reads m go) = (v : Meaning m) → Open going (go v)
Open c (pick f) = Fills (pick f) × ((t : PureToken) → Open chosen (f t))
Open c (option k F G) = Wide c × (Open going F × Open other G)
Open c (more w l go) = Wide c × ((e : SurfaceTree) → Open going (go e))

-- the tokens with which the form goes on; where it takes any token that is i
abbrev fill_from : {n : Nonterminal} (i : PureToken) (F : Form n) → Open going F → Fills F
fill_from i (gives v) o = record { more = []; v = v; ends = λ a x. (_, d_gives) }
fill_from i refuses o = absurd o
fill_from i (skip F) o = let f = fill_from x F o in
    record { more = i ∷ f.more; v = f.v; ends = λ a y. (_, d_skip (f.ends a y).1) }
fill_from i (under F) o = let f = fill_from x F o in
    record { more = i ∷ f.more; v = f.v; ends = λ a y. (_, d_under (f.ends empty y).1) }
fill_from i (expect k F) o = let f = fill_from x F o in
    record { more = t (symbol k) ∷ f.more; v = f.v; ends = λ a y. (_, d_expect (f.ends a y).1) }
fill_from i (reads m go) o = let s = sample m in let f = fill_from x (go s.v) (o s.v) in record {
  more = s.more ++ f.more;
  v = f.v;
  ends = λ a y. let e = s.ends (f.more ++ y) in let h = f.ends (some (over a e.0)) y in
      (h.0, rw (append_assoc s.more f.more y) (d_reads e.1 h.1));
}
fill_from i (pick f) o = o.0
fill_from i (option k F G) o = let f = fill_from x F o.1.0 in
    record { more = t (symbol k) ∷ f.more; v = f.v; ends = λ a y. (_, d_yes (f.ends empty y).1) }
fill_from i (more w l go) o = let f = fill_from x (go l) (o.1 l) in
    record { more = f.more; v = f.v; ends = λ a y. (_, d_more m_end (f.ends (some (nodes a)) y).1) }

pub fill_of : {n : Nonterminal} (F : Form n) → Open going F → Fills F
fill_of F o = fill_from x F o

-- a token decides, and i is one of those with which the form goes on
decided_by : {n : Nonterminal} (f : PureToken → Form n) (i : PureToken) (o : Open going (f i)) {us : List PureToken}
    → (fill_from i (f i) o).more ≡ i ∷ us → ((i : PureToken) → Open chosen (f i))
    → Fills (pick f) × ((i : PureToken) → Open chosen (f i))
decided_by f i o {us = us} e every = let F = fill_from i (f i) o in
    (record { more = i ∷ us; v = F.v; ends = λ a y. (_, d_pick (rw e at (F.ends a y)).1) }, every)

-- the forms of the grammar
open_program : (t : PureToken) → Open chosen (program_by t)
open_program (token a b main_word) = λ g e. tt
open_program (token a b let_word) = λ i p. tt
open_program (token a b kernel_word) = λ i p. tt
open_program (token a b _) = tt

open_rec_item : (t : PureToken) → Open chosen (rec_item t)
open_rec_item (token a b (word x)) = λ p. tt
open_rec_item (token a b _) = tt

open_let : (t : PureToken) → Open chosen (let_by t)
open_let (token a b (word x)) = λ d. tt
open_let (token a b rec_word) = decided_by rec_item x (λ p. tt) refl open_rec_item
open_let (token a b _) = tt

open_kernel : (t : PureToken) → Open chosen (kernel_by t)
open_kernel (token a b (word x)) = λ k e. tt
open_kernel (token a b _) = tt

open_item : (t : PureToken) → Open chosen (item_by t)
open_item (token a b let_word) = decided_by let_by x (λ d. tt) refl open_let
open_item (token a b kernel_word) = decided_by kernel_by x (λ k e. tt) refl open_kernel
open_item (token a b _) = tt

open_parameter : (m : Mark) (t : PureToken) → Open chosen (parameter_by m t)
open_parameter m (token a b (word x)) = λ d. tt
open_parameter m (token a b _) = tt

open_mark : (m : Mark) (t : PureToken) → Open chosen (behind_mark m t)
open_mark m (token a b k) = λ e. tt

open_body : (m : Mark) (t : PureToken) → Open chosen (body_by m t)
open_body m (token a b (word x)) = λ p. tt
open_body by_arrow (token a b arrow) = decided_by (behind_mark by_arrow) x (λ e. tt) refl (open_mark by_arrow)
open_body by_equal (token a b equal) = decided_by (behind_mark by_equal) x (λ e. tt) refl (open_mark by_equal)
open_body by_arrow (token a b _) = tt
open_body by_equal (token a b _) = tt

open_rec : (t : PureToken) → Open chosen (rec_by t)
open_rec (token a b (word x)) = λ d e. tt
open_rec (token a b _) = tt

open_let_in : (t : PureToken) → Open chosen (let_in_by t)
open_let_in (token a b (word x)) = λ d e. tt
open_let_in (token a b rec_word) = decided_by rec_by x (λ d e. tt) refl open_rec
open_let_in (token a b _) = tt

open_expr : (t : PureToken) → Open chosen (expr_by t)
open_expr (token a b let_word) = decided_by let_in_by x (λ d e. tt) refl open_let_in
open_expr (token a b if_word) = λ c d e. tt
open_expr (token a b _) = λ e. tt

open_head : (t : PureToken) → Open chosen (head_by t)
open_head (token a b run_word) = λ k e. tt
open_head (token a b _) = λ e. tt

open_minus : (t : PureToken) → Open chosen (minus_by t)
open_minus (token a b (number n)) = tt
open_minus (token a b _) = tt

open_first : (d : SurfaceTree) (t : PureToken) → Open chosen (behind_first d t)
open_first d (token a b comma) = λ e. tt
open_first d (token a b _) = tt

open_paren : (t : PureToken) → Open chosen (paren_by t)
open_paren (token a b minus) = decided_by minus_by (t (number 0)) tt refl open_minus
open_paren (token a b _) = λ d.
    decided_by (behind_first d) (t paren_right) tt refl (open_first d)

open_atom : (t : PureToken) → Open chosen (atom_by t)
open_atom (token a b paren_left) = decided_by paren_by x (open_paren x) refl open_paren
open_atom (token a b bracket_left) = λ e. tt
open_atom (token a b escape_mark) = λ e. tt
open_atom (token a b _) = tt

open_part : (t : PureToken) → Open chosen (part_by t)
open_part (token a b paren_left) = λ g. tt
open_part (token a b _) = λ g. tt

open_base : (t : PureToken) → Open chosen (base_by t)
open_base (token a b int_word) = tt
open_base (token a b _) = tt

pub opens_all : (n : Nonterminal) → Open first (form n)
opens_all program = decided_by program_by (t main_word) (λ g e. tt) refl open_program
opens_all item = decided_by item_by (t let_word) (open_item (t let_word)) refl open_item
opens_all (parameter m) = decided_by (parameter_by m) x (λ d. tt) refl (open_parameter m)
opens_all (body by_arrow) = decided_by (body_by by_arrow) x (λ p. tt) refl (open_body by_arrow)
opens_all (body by_equal) = decided_by (body_by by_equal) x (λ p. tt) refl (open_body by_equal)
opens_all (tree expr) = decided_by expr_by x (λ e. tt) refl open_expr
opens_all (tree head) = decided_by head_by x (λ e. tt) refl open_head
opens_all (tree atom) = decided_by atom_by x tt refl open_atom
opens_all part = decided_by part_by (t int_word) (λ b. tt) refl open_part
opens_all base = decided_by base_by (t int_word) tt refl open_base
opens_all (tree disjunction) = λ d. (tt, ((λ e. tt), tt))
opens_all (tree conjunction) = λ d. (tt, ((λ e. tt), tt))
opens_all (tree comparison) = λ d. (tt, ((λ e. tt), (tt, ((λ e. tt), (tt, ((λ e. tt), tt))))))
opens_all (tree (row w)) = λ l. (tt, λ e. tt)
opens_all kernel_type = λ g. (tt, ((λ h. tt), tt))
opens_all ground = λ g. (tt, ((λ h. tt), tt))
