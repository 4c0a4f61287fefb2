-- A program that is read from tokens has literals of 64 bits.
use Rattle.std.proofs.Common.{◌≡◌, ℕ, zero, suc, Bool, true, false, List, [], ◌∷◌, refl, arith}
use Rattle.std.specs.Prelude.{◌^◌, pos, negsuc, nat_lt, if◌then◌else◌, FitsSigned}
use Rattle.std.specs.Int.{w64}
use Rattle.std.proofs.lemmas.Bool.{ltb-true}
use Rattle.mw_lex.specs.Tokens.{PureToken}
use Rattle.mw_term.specs.Terms.{Expression}
use Rattle.mw_term.specs.Programs.{Definition}
use Rattle.mw_grammar.specs.SurfaceTrees.{SurfaceTree, num, truth, used, fun, fix, app, bind, cond, pair, fst, snd}
use Rattle.mw_grammar.specs.SurfaceTrees.{prim}
use Rattle.mw_grammar.specs.SurfaceTrees.{bracket, escape, run, close, opened, lift, lift_b, PureItem}
use Rattle.mw_grammar.specs.SurfaceDepth.{bound_tree}
use Rattle.mw_grammar.specs.SourceNodes.{Nodes}
use Rattle.mw_grammar.specs.Grammar.{Row, Nonterminal, program, item, parameter, body, tree, kernel_type, ground, part}
use Rattle.mw_grammar.specs.Grammar.{base}
use Rattle.mw_grammar.specs.Grammar.{define, abstract, positive, negative, Meaning, Reads, More}
use Rattle.mw_grammar.specs.Grammar.{fst_head, snd_head, not_head, close_head, open_head, lift_head, lift_b_head, m_end}
use Rattle.mw_grammar.specs.Grammar.{m_sign, m_argument}
use Rattle.mw_grammar.specs.Grammar.{r_main, r_program, r_let_item, r_rec_item, r_kernel, r_let, r_let_rec, r_fun, r_if}
use Rattle.mw_grammar.specs.Grammar.{r_expr, r_parameter, r_body, r_mark}
use Rattle.mw_grammar.specs.Grammar.{r_or, r_disjunction, r_and, r_conjunction, r_compare, r_comparison, r_row, r_head}
use Rattle.mw_grammar.specs.Grammar.{r_run, r_atom, r_name, r_number}
use Rattle.mw_grammar.specs.Grammar.{r_true, r_false, r_minus, r_paren, r_pair}
use Rattle.mw_grammar.specs.Grammar.{r_bracket, r_escape, r_ground_kernel, r_arrow, r_star, r_part, r_base_part}
use Rattle.mw_grammar.specs.Grammar.{r_ground_paren, r_int, r_bool}
use Rattle.mw_scope.specs.declared.level.Level.{Level}
use Rattle.mw_scope.specs.Scopes.{Binder, TopNames}
use Rattle.mw_scope.specs.Nameless.{Nameless, n_num, n_fun, n_fix, n_app, n_bind, n_cond}
use Rattle.mw_scope.specs.Nameless.{n_pair, n_fst, n_snd, n_prim}
use Rattle.mw_scope.specs.Nameless.{n_bracket, n_escape, n_run, n_close, n_open, n_lift, n_lift_b}
use Rattle.mw_scope.specs.Nameless.{NamelessItem, a_let, a_kernel, NamelessItems, no_item, an_item}
use Rattle.mw_literals.specs.Literals.{HasShortLiterals, HasShortDefinition, AreShortDefinitions}
use Rattle.mw_literals.specs.LiteralLaws.{SourceLiteralsFit}

-- each number in a surface tree has 64 bits, and each in items
abbrev HasShortNumbers : SurfaceTree → Type 0
HasShortNumbers (num z) = FitsSigned w64 z
HasShortNumbers (truth b) = Unit {0}
HasShortNumbers (used x at) = Unit {0}
HasShortNumbers (fun x e) = HasShortNumbers e
HasShortNumbers (fix f x e) = HasShortNumbers e
HasShortNumbers (app f a) = HasShortNumbers f × HasShortNumbers a
HasShortNumbers (bind x d e) = HasShortNumbers d × HasShortNumbers e
HasShortNumbers (cond c a b) = HasShortNumbers c × HasShortNumbers a × HasShortNumbers b
HasShortNumbers (pair a b) = HasShortNumbers a × HasShortNumbers b
HasShortNumbers (fst e) = HasShortNumbers e
HasShortNumbers (snd e) = HasShortNumbers e
HasShortNumbers (prim p a b) = HasShortNumbers a × HasShortNumbers b
HasShortNumbers (bracket at e) = HasShortNumbers e
HasShortNumbers (escape at e) = HasShortNumbers e
HasShortNumbers (run at k e) = HasShortNumbers e
HasShortNumbers (close at e) = HasShortNumbers e
HasShortNumbers (opened at e) = HasShortNumbers e
HasShortNumbers (lift at e) = HasShortNumbers e
HasShortNumbers (lift_b at e) = HasShortNumbers e

abbrev AreShortItems : List PureItem → Type 0
AreShortItems [] = Unit {0}
AreShortItems (i ∷ items) = HasShortNumbers (bound_tree i) × AreShortItems items

-- the numbers of the grammar
positive_short : (n : ℕ) → FitsSigned w64 (positive n)
positive_short n = go (nat_lt n (2 ^ 63)) refl
  where
    go : (b : Bool) → nat_lt n (2 ^ 63) ≡ b → FitsSigned w64 (if b then pos n else pos 0)
    go true e = record { sfits = ltb-true n (2 ^ 63) e }
    go false e = record { sfits = omega arith }

negative_short : (n : ℕ) → FitsSigned w64 (negative n)
negative_short zero = record { sfits = omega arith }
negative_short (suc n) = go (nat_lt n (2 ^ 63)) refl
  where
    go : (b : Bool) → nat_lt n (2 ^ 63) ≡ b → FitsSigned w64 (if b then negsuc n else pos 0)
    go true e = record { sfits = ltb-true n (2 ^ 63) e }
    go false e = record { sfits = omega arith }

-- what is read has short numbers
abbrev IsShort : (n : Nonterminal) → Meaning n → Type 0
IsShort program v = AreShortItems v.items × HasShortNumbers v.body
IsShort item v = HasShortNumbers (bound_tree v)
IsShort (parameter m) (abstract x from e) = HasShortNumbers e
IsShort (body m) (define from e) = HasShortNumbers e
IsShort (tree l) v = HasShortNumbers v
IsShort kernel_type v = Unit {0}
IsShort ground v = Unit {0}
IsShort part v = Unit {0}
IsShort base v = Unit {0}

mutual
  read_short : {n : Nonterminal} {ts rest : List PureToken} {v : Meaning n} {s : Nodes} → Reads n ts v s rest
      → IsShort n v
  read_short (r_main h i) = (tt, read_short i)
  read_short (r_program h i) = let p = read_short i in ((read_short h, p.0), p.1)
  read_short (r_let_item h) = read_short h
  read_short (r_rec_item h) = read_short h
  read_short (r_kernel h i) = read_short i
  read_short (r_let h i) = (read_short h, read_short i)
  read_short (r_let_rec h i) = (read_short h, read_short i)
  read_short (r_fun h) = read_short h
  read_short (r_if h i j) = (read_short h, read_short i, read_short j)
  read_short (r_expr h) = read_short h
  read_short (r_parameter h) = read_short h
  read_short (r_body h) = read_short h
  read_short (r_mark h) = read_short h
  read_short (r_or h i) = (read_short h, tt, read_short i)
  read_short (r_disjunction h) = read_short h
  read_short (r_and h i) = (read_short h, read_short i, tt)
  read_short (r_conjunction h) = read_short h
  read_short (r_compare c h i) = (read_short h, read_short i)
  read_short (r_comparison h) = read_short h
  read_short (r_row h m) = more_short m (read_short h)
  read_short (r_head fst_head h) = read_short h
  read_short (r_head snd_head h) = read_short h
  read_short (r_head not_head h) = (read_short h, tt, tt)
  read_short (r_head close_head h) = read_short h
  read_short (r_head open_head h) = read_short h
  read_short (r_head lift_head h) = read_short h
  read_short (r_head lift_b_head h) = read_short h
  read_short (r_run h i) = read_short i
  read_short (r_atom h) = read_short h
  read_short r_name = tt
  read_short (r_number {n = n}) = positive_short n
  read_short r_true = tt
  read_short r_false = tt
  read_short (r_minus {n = n}) = negative_short n
  read_short (r_paren h) = read_short h
  read_short (r_pair h i) = (read_short h, read_short i)
  read_short (r_bracket h) = read_short h
  read_short (r_escape h) = read_short h
  read_short (r_ground_kernel h) = tt
  read_short (r_arrow h i) = tt
  read_short (r_star h i) = tt
  read_short (r_part h) = tt
  read_short (r_base_part h) = tt
  read_short (r_ground_paren h) = tt
  read_short r_int = tt
  read_short r_bool = tt

  more_short : {w : Row} {l e : SurfaceTree} {s t : Nodes} {ts rest : List PureToken} → More w l s ts e t rest
      → HasShortNumbers l → HasShortNumbers e
  more_short m_end p = p
  more_short (m_sign g h m) p = more_short m (p, read_short h)
  more_short (m_argument h m) p = more_short m (p, read_short h)

-- names aside a term has the same numbers
nameless_short : {tops : TopNames} {g : List Binder} {m : Level} {t : SurfaceTree} {e : Expression}
    → Nameless tops g m t e → HasShortNumbers t → HasShortLiterals e
nameless_short n_num x = x
nameless_short (n_fun d) x = nameless_short d x
nameless_short (n_fix d) x = nameless_short d x
nameless_short (n_app c d) x = (nameless_short c x.0, nameless_short d x.1)
nameless_short (n_bind c d) x = (nameless_short c x.0, nameless_short d x.1)
nameless_short (n_cond b c d) x = (nameless_short b x.0, nameless_short c x.1, nameless_short d x.2)
nameless_short (n_pair c d) x = (nameless_short c x.0, nameless_short d x.1)
nameless_short (n_fst d) x = nameless_short d x
nameless_short (n_snd d) x = nameless_short d x
nameless_short (n_prim c d) x = (nameless_short c x.0, nameless_short d x.1)
nameless_short (n_bracket d) x = nameless_short d x
nameless_short (n_escape d) x = nameless_short d x
nameless_short (n_run d) x = nameless_short d x
nameless_short (n_close d) x = nameless_short d x
nameless_short (n_open d) x = nameless_short d x
nameless_short (n_lift d) x = nameless_short d x
nameless_short (n_lift_b d) x = nameless_short d x
nameless_short e x = tt

item_short : {before : List PureItem} {i : PureItem} {d : Definition} → NamelessItem before i d
    → HasShortNumbers (bound_tree i) → HasShortDefinition d
item_short (a_let v d) x = nameless_short d x
item_short (a_kernel d) x = nameless_short d x

items_short : {before items : List PureItem} {ds : List Definition} → NamelessItems before items ds
    → AreShortItems items → AreShortDefinitions ds
items_short no_item x = tt
items_short (an_item new d ds) x = (item_short d x.0, items_short ds x.1)

pub source_literals : SourceLiteralsFit
source_literals tokens s p read named = let x = read_short read.is.derives in
    (items_short named.items x.0, nameless_short named.body x.1)
