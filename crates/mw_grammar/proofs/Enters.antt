-- What the grammar reads a form reads, where the next token ends the nonterminal.
use Rattle.std.proofs.Common.{◌≡◌, ℕ, ◌<◌, ◌≤◌, List, [], ◌∷◌, refl, sym, subst, Bool, true, false, arith}
use Rattle.mw_lex.specs.Tokens.{Symbol, let_word, in_word, fun_word, if_word, then_word, else_word, true_word}
use Rattle.mw_lex.specs.Tokens.{false_word, not_word, fst_word, snd_word, run_word, close_word, open_word, lift_word}
use Rattle.mw_lex.specs.Tokens.{lift_b_word, bracket_left, bracket_right, escape_mark, paren_left, paren_right}
use Rattle.mw_lex.specs.Tokens.{square_left, square_right, arrow, item_end, colon, equal, less_equal, less, minus, star}
use Rattle.mw_lex.specs.Tokens.{and_mark, or_mark, word, number, PureToken, token}
use Rattle.mw_term.specs.declared.term.Primitive.{Primitive}
use Rattle.mw_term.specs.Terms.{base as ground_base}
use Rattle.mw_grammar.specs.SurfaceTrees.{SurfaceTree}
use Rattle.mw_grammar.specs.SourceNodes.{Nodes}
use Rattle.mw_grammar.specs.Grammar.{Mark, by_arrow, by_equal, Row, sum, product, application, expr, disjunction}
use Rattle.mw_grammar.specs.Grammar.{conjunction, comparison, row, head, atom, Nonterminal, item, body, tree, base}
use Rattle.mw_grammar.specs.Grammar.{define, Meaning, Reads, More, right, operand, start_of, Sign, plus_sign}
use Rattle.mw_grammar.specs.Grammar.{equal_sign, less_sign}
use Rattle.mw_grammar.specs.Grammar.{less_equal_sign, fst_head}
use Rattle.mw_grammar.specs.Grammar.{m_end, m_sign, m_argument, r_main, r_program, r_let_item, r_rec_item}
use Rattle.mw_grammar.specs.Grammar.{r_kernel, r_let, r_let_rec, r_fun, r_if, r_expr, r_parameter, r_body, r_mark, r_or}
use Rattle.mw_grammar.specs.Grammar.{r_disjunction, r_and, r_conjunction, r_compare, r_comparison, r_row, r_head, r_run}
use Rattle.mw_grammar.specs.Grammar.{r_atom, r_name, r_minus, r_paren, r_pair, r_bracket}
use Rattle.mw_grammar.specs.Grammar.{r_escape, r_ground_kernel, r_arrow, r_star, r_part, r_base_part, r_ground_paren}
use Rattle.mw_grammar.specs.Grammar.{r_int, r_bool}
use Rattle.mw_grammar.specs.Forms.{Expected, in_next, then_next, else_next, paren_next, bracket_next, left_next}
use Rattle.mw_grammar.specs.Forms.{right_next, end_next, colon_next, equal_next, arrow_next, star_next, less_next}
use Rattle.mw_grammar.specs.Forms.{less_equal_next, and_next, or_next, symbol, is, Form, gives, reads, pick, by_sign}
use Rattle.mw_grammar.specs.Forms.{apply, operator, opens, form, items_of, program_by, behind_mark, expr_by, head_by}
use Rattle.mw_grammar.specs.Forms.{behind_first, paren_by, part_by}
use Rattle.mw_grammar.proofs.Derivations.{Before, empty, next_is, force, force_of, strength, Ends, In, i_gives, i_skip}
use Rattle.mw_grammar.proofs.Derivations.{i_under, i_expect, i_reads, i_pick, i_yes, i_no, i_more, Chain, c_end, c_on}

-- no operator of that strength comes next
apart_by : (k : Expected) (s : Symbol) → force s < force (symbol k) → is k s ≡ false
apart_by equal_next equal p = absurd (omega arith)
apart_by star_next star p = absurd (omega arith)
apart_by less_next less p = absurd (omega arith)
apart_by less_equal_next less_equal p = absurd (omega arith)
apart_by and_next and_mark p = absurd (omega arith)
apart_by or_next or_mark p = absurd (omega arith)
apart_by in_next in_word p = absurd (omega arith)
apart_by then_next then_word p = absurd (omega arith)
apart_by else_next else_word p = absurd (omega arith)
apart_by paren_next paren_right p = absurd (omega arith)
apart_by bracket_next bracket_right p = absurd (omega arith)
apart_by left_next square_left p = absurd (omega arith)
apart_by right_next square_right p = absurd (omega arith)
apart_by end_next item_end p = absurd (omega arith)
apart_by colon_next colon p = absurd (omega arith)
apart_by arrow_next arrow p = absurd (omega arith)
apart_by _ _ p = refl

apart : (k : Expected) (ts : List PureToken) → force_of ts < force (symbol k) → next_is k ts ≡ false
apart k [] p = refl
apart k (token a b s ∷ ts) p = apart_by k s p

-- which tokens begin an operand
abbrev begins : Symbol → Bool
begins (word x) = true
begins (number n) = true
begins true_word = true
begins false_word = true
begins paren_left = true
begins bracket_left = true
begins escape_mark = true
begins fst_word = true
begins snd_word = true
begins not_word = true
begins close_word = true
begins open_word = true
begins lift_word = true
begins lift_b_word = true
begins run_word = true
begins _ = false

abbrev Starts : List PureToken → Type 0
Starts [] = false ≡ true
Starts (token a b k ∷ ts) = begins k ≡ true

abbrev StartsOf : Nonterminal → List PureToken → Type 0
StartsOf (tree expr) ts = true ≡ true
StartsOf (tree disjunction) ts = Starts ts
StartsOf (tree conjunction) ts = Starts ts
StartsOf (tree comparison) ts = Starts ts
StartsOf (tree (row w)) ts = Starts ts
StartsOf (tree head) ts = Starts ts
StartsOf (tree atom) ts = Starts ts
StartsOf _ ts = true ≡ true

of_operand : (w : Row) (ts : List PureToken) → StartsOf (tree (operand w)) ts → Starts ts
of_operand sum ts h = h
of_operand product ts h = h
of_operand application ts h = h

starts_of : {n : Nonterminal} {ts rest : List PureToken} {v : Meaning n} {s : Nodes} → Reads n ts v s rest
    → StartsOf n ts
starts_of (r_or h i) = starts_of h
starts_of (r_disjunction h) = starts_of h
starts_of (r_and h i) = starts_of h
starts_of (r_conjunction h) = starts_of h
starts_of (r_compare c h i) = starts_of h
starts_of (r_comparison h) = starts_of h
starts_of (r_row {w = w} {ts = ts} h m) = of_operand w ts (starts_of h)
starts_of (r_head fst_head h) = refl
starts_of (r_head _ h) = refl
starts_of (r_atom h) = starts_of h
starts_of _ = refl

-- the first token decides for this form
data Decides {n : Nonterminal} (f : PureToken → Form n) (G : Form n) : List PureToken → Type 0 where
  decides : (t : PureToken) (ts : List PureToken) → f t ≡ G → Decides f G (t ∷ ts)

picked : {n : Nonterminal} {f : PureToken → Form n} {G : Form n} {a : Before} {ts rest : List PureToken} {v : Meaning n}
    {s : Nodes} → Decides f G ts → In n G a ts v s rest → In n (pick f) a ts v s rest
picked {n = n} {a = a} {rest = rest} {v = v} {s = s} (decides t ts e) h =
    i_pick (subst (λ F. In n F a (t ∷ ts) v s rest) (sym e) h)

expr_decides : (ts : List PureToken) → Starts ts → Decides expr_by (reads (tree disjunction) λ e. gives e) ts
expr_decides [] p = absurd (cc)
expr_decides (token a b let_word ∷ ts) p = absurd (cc)
expr_decides (token a b fun_word ∷ ts) p = absurd (cc)
expr_decides (token a b if_word ∷ ts) p = absurd (cc)
expr_decides (token a b k ∷ ts) p = decides (token a b k) ts (expr_of k p)
  where
    expr_of : (k : Symbol) → begins k ≡ true → expr_by (token a b k) ≡ (reads (tree disjunction) λ e. gives e)
    expr_of let_word p = absurd (cc)
    expr_of fun_word p = absurd (cc)
    expr_of if_word p = absurd (cc)
    expr_of _ p = refl

head_decides : {ts rest : List PureToken} {v : SurfaceTree} {s : Nodes} → Reads (tree atom) ts v s rest
    → Decides head_by (reads (tree atom) λ e. gives e) ts
head_decides r_name = decides _ _ refl
head_decides _ = decides _ _ refl

group_by : (ts : List PureToken) → Starts ts → Decides paren_by (reads (tree expr) λ d. pick (behind_first d)) ts
group_by [] p = absurd (cc)
group_by (token a b k ∷ ts) p = decides (token a b k) ts (group_of k p)
  where
    group_of : (k : Symbol) → begins k ≡ true → paren_by (token a b k) ≡ (reads (tree expr) λ d. pick (behind_first d))
    group_of minus p = absurd (cc)
    group_of _ p = refl

group_decides : {ts rest : List PureToken} {v : SurfaceTree} {s : Nodes} → Reads (tree expr) ts v s rest
    → Decides paren_by (reads (tree expr) λ d. pick (behind_first d)) ts
group_decides (r_expr {ts = ts} h) = group_by ts (starts_of h)
group_decides _ = decides _ _ refl

item_decides : {ts rest : List PureToken} {v : _} {s : Nodes} → Reads item ts v s rest → Decides program_by items_of ts
item_decides (r_let_item h) = decides _ _ refl
item_decides _ = decides _ _ refl

part_decides : {ts rest : List PureToken} {v : _} {s : Nodes} → Reads base ts v s rest
    → Decides part_by (reads base λ b. gives (ground_base b)) ts
part_decides r_int = decides _ _ refl
part_decides r_bool = decides _ _ refl

-- after a mark each token decides for an expression
behind_it : (m : Mark) (ts : List PureToken) {rest : List PureToken} {e : SurfaceTree} {s : Nodes}
    → In (tree expr) (form (tree expr)) empty ts e s rest → force_of rest < 1 → In (body m) (pick (behind_mark m)) empty
    ts (define (start_of ts) e) s rest
behind_it m [] h p = elim h [ ]
behind_it m (token a b k ∷ ts) h p = i_pick (i_reads h p i_gives)

-- rows
strength_operand : (w : Row) → strength (row w) < strength (operand w)
strength_operand sum = omega arith
strength_operand _ = omega arith

strength_right : (w : Row) → strength (row w) < strength (right w)
strength_right sum = omega arith
strength_right _ = omega arith

sign_force : {w : Row} {k : Symbol} {p : Primitive} → Sign w k p → force k ≡ strength (row w)
sign_force plus_sign = refl
sign_force _ = refl

sign_opens : {w : Row} (a b : ℕ) {k : Symbol} {p : Primitive} {ts : List PureToken} → Sign w k p
    → opens w (token a b k ∷ ts) ≡ operator (by_sign p) ts
sign_opens a b plus_sign = refl
sign_opens a b _ = refl

pub atom_opens : {ts rest : List PureToken} {v : SurfaceTree} {s : Nodes} → Reads (tree atom) ts v s rest
    → opens application ts ≡ operator apply ts
atom_opens r_name = refl
atom_opens _ = refl

atom_force : {ts rest : List PureToken} {v : SurfaceTree} {s : Nodes} → Reads (tree atom) ts v s rest → force_of ts ≡ 6
atom_force r_name = refl
atom_force _ = refl

more_force : {w : Row} {l e : SurfaceTree} {s t : Nodes} {ts rest : List PureToken} → More w l s ts e t rest
    → force_of rest < strength (row w) → force_of ts ≤ strength (row w)
more_force m_end p = omega arith
more_force (m_sign g h m) p = omega (arith, sign_force g)
more_force (m_argument h m) p = omega (arith, atom_force h)

mutual
  pub enter : {n : Nonterminal} {ts rest : List PureToken} {v : Meaning n} {s : Nodes} → Reads n ts v s rest
      → Ends n rest → In n (form n) empty ts v s rest
  enter (r_main h i) f =
      i_pick (i_skip (i_expect (i_reads (enter h refl) refl (i_expect (i_reads (enter i f) f i_gives)))))
  enter (r_program h i) f =
      picked (item_decides h) (i_reads (enter h (omega arith)) (omega arith) (i_expect (i_reads (enter i f) f i_gives)))
  enter (r_let_item h) f = i_pick (i_skip (i_pick (i_skip (i_reads (enter h f) f i_gives))))
  enter (r_rec_item h) f = i_pick (i_skip (i_pick (i_skip (i_pick (i_skip (i_reads (enter h f) f i_gives))))))
  enter (r_kernel h i) f =
      i_pick (i_skip
      (i_pick (i_skip
      (i_expect (i_reads (enter h (refl, refl)) (refl, refl) (i_expect (i_reads (enter i f) f i_gives)))))))
  enter (r_let h i) f =
      i_pick (i_under
      (i_pick (i_skip (i_reads (enter h (omega arith)) (omega arith) (i_expect (i_reads (enter i f) f i_gives))))))
  enter (r_let_rec h i) f =
      i_pick (i_under
      (i_pick (i_skip
      (i_pick (i_skip (i_reads (enter h (omega arith)) (omega arith) (i_expect (i_reads (enter i f) f i_gives))))))))
  enter (r_fun h) f = i_pick (i_skip (i_reads (enter h f) f i_gives))
  enter (r_if h i j) f =
      i_pick (i_under
      (i_reads (enter h (omega arith)) (omega arith)
      (i_expect (i_reads (enter i (omega arith)) (omega arith) (i_expect (i_reads (enter j f) f i_gives))))))
  enter (r_expr {ts = ts} h) f = picked (expr_decides ts (starts_of h)) (i_reads (enter h f) f i_gives)
  enter (r_parameter h) f = i_pick (i_under (i_reads (enter h f) f i_gives))
  enter (r_body (r_parameter h)) f = i_pick (i_reads (i_pick (i_under (i_reads (enter h f) f i_gives))) f i_gives)
  enter (r_mark {m = by_arrow} {ts = ts} h) f = i_pick (i_skip (behind_it by_arrow ts (enter h f) f))
  enter (r_mark {m = by_equal} {ts = ts} h) f = i_pick (i_skip (behind_it by_equal ts (enter h f) f))
  enter (r_or h i) f = i_reads (enter h (omega arith)) (omega arith) (i_yes (i_reads (enter i f) f i_gives))
  enter (r_disjunction {rest = rest} h) f = i_reads (enter h (omega arith)) (omega arith)
      (i_no (apart or_next rest (omega arith)) i_gives)
  enter (r_and h i) f = i_reads (enter h (omega arith)) (omega arith) (i_yes (i_reads (enter i f) f i_gives))
  enter (r_conjunction {rest = rest} h) f = i_reads (enter h (omega arith)) (omega arith)
      (i_no (apart and_next rest (omega arith)) i_gives)
  enter (r_compare equal_sign h i) f = i_reads (enter h (omega arith)) (omega arith)
      (i_yes (i_reads (enter i (omega arith)) (omega arith) i_gives))
  enter (r_compare less_sign h i) f = i_reads (enter h (omega arith)) (omega arith)
      (i_no refl (i_yes (i_reads (enter i (omega arith)) (omega arith) i_gives)))
  enter (r_compare less_equal_sign h i) f = i_reads (enter h (omega arith)) (omega arith)
      (i_no refl (i_no refl (i_yes (i_reads (enter i (omega arith)) (omega arith) i_gives))))
  enter (r_comparison {rest = rest} h) f = i_reads (enter h (omega arith)) (omega arith)
      (i_no (apart equal_next rest f) (i_no (apart less_next rest f) (i_no (apart less_equal_next rest f) i_gives)))
  enter (r_row {w = w} h m) f = i_reads (enter h (omega (arith, more_force m f, strength_operand w)))
      (omega (arith, more_force m f, strength_operand w)) (i_more (enter_more m f) f i_gives)
  enter (r_head fst_head h) f = i_pick (i_under (i_reads (enter h f) f i_gives))
  enter (r_head _ h) f = i_pick (i_under (i_reads (enter h f) f i_gives))
  enter (r_run h i) f =
      i_pick (i_under
      (i_expect (i_reads (enter h (refl, refl)) (refl, refl) (i_expect (i_reads (enter i f) f i_gives)))))
  enter (r_atom h) f = picked (head_decides h) (i_reads (enter h f) f i_gives)
  enter r_minus f = i_pick (i_under (i_pick (i_skip (i_pick (i_skip (i_expect i_gives))))))
  enter (r_paren h) f =
      i_pick (i_under
      (picked (group_decides h) (i_reads (enter h (omega arith)) (omega arith) (i_pick (i_skip i_gives)))))
  enter (r_pair h i) f =
      i_pick (i_under
      (picked (group_decides h)
      (i_reads (enter h (omega arith)) (omega arith)
      (i_pick (i_skip (i_reads (enter i (omega arith)) (omega arith) (i_expect i_gives)))))))
  enter (r_bracket h) f = i_pick (i_under (i_reads (enter h (omega arith)) (omega arith) (i_expect i_gives)))
  enter (r_escape h) f = i_pick (i_under (i_reads (enter h f) f i_gives))
  enter (r_ground_kernel h) f = i_reads (enter h f.0) f.0 (i_no f.1 i_gives)
  enter (r_arrow h i) f = i_reads (enter h refl) refl (i_yes (i_reads (enter i f.0) f.0 i_gives))
  enter (r_star h i) f = i_reads (enter h tt) tt (i_yes (i_reads (enter i f) f i_gives))
  enter (r_part h) f = i_reads (enter h tt) tt (i_no f i_gives)
  enter (r_base_part h) f = picked (part_decides h) (i_reads (enter h tt) tt i_gives)
  enter (r_ground_paren h) f = i_pick (i_under (i_reads (enter h refl) refl (i_expect i_gives)))
  enter _ f = i_pick (i_under i_gives)

  enter_more : {w : Row} {l e : SurfaceTree} {s t : Nodes} {ts rest : List PureToken} → More w l s ts e t rest
      → force_of rest < strength (row w) → Chain w l s ts e t rest
  enter_more m_end f = c_end
  enter_more (m_sign {w = w} g h m) f =
      c_on (sign_opens _ _ g) (enter h (omega (arith, more_force m f, strength_right w)))
      (omega (arith, more_force m f, strength_right w)) (enter_more m f)
  enter_more (m_argument h m) f = c_on (atom_opens h) (enter h (omega (arith, more_force m f)))
      (omega (arith, more_force m f)) (enter_more m f)
