-- The tree that is made is never deeper than its source.
use Rattle.std.proofs.Common.{ℕ, suc, ◌≤◌, max, List, [], ◌∷◌, arith}
use Rattle.mw_lex.specs.Tokens.{PureToken}
use Rattle.mw_grammar.specs.SurfaceTrees.{SurfaceTree, num}
use Rattle.mw_grammar.specs.SurfaceTrees.{PureItem}
use Rattle.mw_grammar.specs.SurfaceDepth.{surface_depth, bound_tree, AreShallow}
use Rattle.mw_grammar.specs.SourceNodes.{Nodes, height}
use Rattle.mw_grammar.specs.Grammar.{Nonterminal, program, item, parameter, body, tree, kernel_type, ground, part, base}
use Rattle.mw_grammar.specs.Grammar.{define, abstract, Meaning, Reads, More, fst_head, not_head}
use Rattle.mw_grammar.specs.Grammar.{m_end, m_sign, m_argument, r_main, r_program}
use Rattle.mw_grammar.specs.Grammar.{r_let_item, r_rec_item, r_kernel, r_let, r_let_rec, r_fun, r_if, r_expr}
use Rattle.mw_grammar.specs.Grammar.{r_parameter, r_body, r_mark, r_or, r_disjunction, r_and, r_conjunction, r_compare}
use Rattle.mw_grammar.specs.Grammar.{r_comparison, r_row, r_head, r_run, r_atom, r_name, r_number, r_true, r_false}
use Rattle.mw_grammar.specs.Grammar.{r_minus, r_paren, r_pair, r_bracket, r_escape}

-- a tree has a node
some_depth : (e : SurfaceTree) → 1 ≤ surface_depth e
some_depth (num n) = omega arith
some_depth _ = omega arith

-- every tree among the items is at most b deep
abbrev pub AllLow : List PureItem → ℕ → Type 0
AllLow [] b = Unit {0}
AllLow (i ∷ items) b = (surface_depth (bound_tree i) ≤ b) × AllLow items b

pub all_low : (items : List PureItem) (b c : ℕ) → b ≤ c → AllLow items b → AllLow items c
all_low [] b c p h = tt
all_low (i ∷ items) b c p h = (let q = h.0 in omega arith, all_low items b c p h.1)

pub are_shallow : (items : List PureItem) (b : ℕ) → b ≤ 200 → AllLow items b → AreShallow items
are_shallow [] b p h = tt
are_shallow (i ∷ items) b p h = (let q = h.0 in omega arith, are_shallow items b p h.1)

abbrev pub Low : (n : Nonterminal) → Meaning n → ℕ → Type 0
Low program v b = AllLow v.items b × (surface_depth v.body ≤ b)
Low item v b = surface_depth (bound_tree v) ≤ b
Low (parameter m) (abstract x from e) b = suc (surface_depth e) ≤ b
Low (body m) (define from e) b = surface_depth e ≤ b
Low (tree l) v b = surface_depth v ≤ b
Low kernel_type v b = Unit {0}
Low ground v b = Unit {0}
Low part v b = Unit {0}
Low base v b = Unit {0}

mutual
  pub low : {n : Nonterminal} {ts rest : List PureToken} {v : Meaning n} {s : Nodes} → Reads n ts v s rest
      → Low n v (height s)
  low (r_main h i) = (tt, omega (arith, low i))
  low (r_program {p = p} {s = s} {t = t} h i) = let k = low h in let l = low i in let m = l.1 in
      ((omega arith, all_low p.items (height t) (max (height s) (height t)) (omega arith) l.0), omega arith)
  low (r_let_item h) = low h
  low (r_rec_item h) = low h
  low (r_kernel h i) = omega (arith, low i)
  low (r_let h i) = omega (arith, low h, low i)
  low (r_let_rec h i) = omega (arith, low h, low i)
  low (r_fun h) = low h
  low (r_if h i j) = omega (arith, low h, low i, low j)
  low (r_expr h) = low h
  low (r_parameter h) = omega (arith, low h)
  low (r_body h) = low h
  low (r_mark h) = low h
  low (r_or {e = e} h i) = omega (arith, low h, low i, some_depth e)
  low (r_disjunction h) = low h
  low (r_and {d = d} h i) = omega (arith, low h, low i, some_depth d)
  low (r_conjunction h) = low h
  low (r_compare c h i) = omega (arith, low h, low i)
  low (r_comparison h) = low h
  low (r_row h m) = low_more m (low h)
  low (r_head fst_head h) = omega (arith, low h)
  low (r_head {d = d} not_head h) = omega (arith, low h, some_depth d)
  low (r_head _ h) = omega (arith, low h)
  low (r_run h i) = omega (arith, low i)
  low (r_atom h) = low h
  low r_name = omega arith
  low r_number = omega arith
  low r_true = omega arith
  low r_false = omega arith
  low r_minus = omega arith
  low (r_paren h) = omega (arith, low h)
  low (r_pair h i) = omega (arith, low h, low i)
  low (r_bracket h) = omega (arith, low h)
  low (r_escape h) = omega (arith, low h)
  low _ = tt

  low_more : {w : _} {l e : SurfaceTree} {s t : Nodes} {ts rest : List PureToken} → More w l s ts e t rest
      → surface_depth l ≤ height s → surface_depth e ≤ height t
  low_more m_end p = p
  low_more (m_sign g h m) p = low_more m (omega (arith, low h))
  low_more (m_argument h m) p = low_more m (omega (arith, low h))
