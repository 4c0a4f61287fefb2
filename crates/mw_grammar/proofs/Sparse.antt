-- A program has at most three nodes for each of its tokens.
use Rattle.std.proofs.Common.{ℕ, ◌+◌, ◌*◌, ◌≤◌, List, [], ◌∷◌, length, arith}
use Rattle.mw_lex.specs.Tokens.{PureToken, token}
use Rattle.mw_lex.specs.InOrder.{AreFrom, AreInOrder}
use Rattle.mw_grammar.specs.SurfaceTrees.{SurfaceTree, PureSurface}
use Rattle.mw_grammar.specs.SurfaceDepth.{bound_tree}
use Rattle.mw_grammar.specs.SurfaceSize.{tree_size, surface_size, IsSparse}
use Rattle.mw_grammar.specs.SourceNodes.{Nodes}
use Rattle.mw_grammar.specs.Answers.{IsProgram}
use Rattle.mw_grammar.specs.Grammar.{Row, Nonterminal, program, item, parameter, body, tree, kernel_type, ground, part}
use Rattle.mw_grammar.specs.Grammar.{base, define, abstract, Meaning, Reads, More, fst_head}
use Rattle.mw_grammar.specs.Grammar.{m_end, m_sign, m_argument, r_main}
use Rattle.mw_grammar.specs.Grammar.{r_program, r_let_item, r_rec_item, r_kernel, r_let, r_let_rec, r_fun, r_if, r_expr}
use Rattle.mw_grammar.specs.Grammar.{r_parameter, r_body, r_mark, r_or, r_disjunction, r_and, r_conjunction, r_compare}
use Rattle.mw_grammar.specs.Grammar.{r_comparison, r_row, r_head, r_run, r_atom}
use Rattle.mw_grammar.specs.Grammar.{r_paren, r_pair, r_bracket, r_escape, r_ground_kernel, r_arrow, r_star}
use Rattle.mw_grammar.specs.Grammar.{r_part, r_base_part, r_ground_paren}

-- What is read, by its nodes. A tree counts one more, for the application that may be made of it and takes no token; a
-- parameter counts the function that it makes as well.
abbrev pub weight : (n : Nonterminal) → Meaning n → ℕ
weight program v = surface_size v
weight item v = tree_size (bound_tree v)
weight (parameter m) (abstract x from e) = tree_size e + 2
weight (body m) (define from e) = tree_size e + 1
weight (tree l) v = tree_size v + 1
weight kernel_type v = 0
weight ground v = 0
weight part v = 0
weight base v = 0

-- a token makes three nodes at most
mutual
  pub light : {n : Nonterminal} {ts rest : List PureToken} {v : Meaning n} {s : Nodes} → Reads n ts v s rest
      → weight n v + 3 * length rest ≤ 3 * length ts
  light (r_main h i) = omega (arith, light h, light i)
  light (r_program h i) = omega (arith, light h, light i)
  light (r_let_item h) = omega (arith, light h)
  light (r_rec_item h) = omega (arith, light h)
  light (r_kernel h i) = omega (arith, light h, light i)
  light (r_let h i) = omega (arith, light h, light i)
  light (r_let_rec h i) = omega (arith, light h, light i)
  light (r_fun h) = omega (arith, light h)
  light (r_if h i j) = omega (arith, light h, light i, light j)
  light (r_expr h) = light h
  light (r_parameter h) = omega (arith, light h)
  light (r_body h) = omega (arith, light h)
  light (r_mark h) = omega (arith, light h)
  light (r_or h i) = omega (arith, light h, light i)
  light (r_disjunction h) = light h
  light (r_and h i) = omega (arith, light h, light i)
  light (r_conjunction h) = light h
  light (r_compare c h i) = omega (arith, light h, light i)
  light (r_comparison h) = light h
  light (r_row {ts = ts} h m) = light_more (3 * length ts) m (light h)
  light (r_head fst_head h) = omega (arith, light h)
  light (r_head _ h) = omega (arith, light h)
  light (r_run h i) = omega (arith, light h, light i)
  light (r_atom h) = light h
  light (r_paren h) = omega (arith, light h)
  light (r_pair h i) = omega (arith, light h, light i)
  light (r_bracket h) = omega (arith, light h)
  light (r_escape h) = omega (arith, light h)
  light (r_ground_kernel h) = light h
  light (r_arrow h i) = omega (arith, light h, light i)
  light (r_star h i) = omega (arith, light h, light i)
  light (r_part h) = light h
  light (r_base_part h) = light h
  light (r_ground_paren h) = omega (arith, light h)
  light _ = omega arith

  light_more : {w : Row} {l e : SurfaceTree} {s t : Nodes} {ts rest : List PureToken} (most : ℕ)
      → More w l s ts e t rest → tree_size l + 1 + 3 * length ts ≤ most → tree_size e + 1 + 3 * length rest ≤ most
  light_more most m_end p = p
  light_more most (m_sign g h m) p = light_more most m (omega (arith, light h))
  light_more most (m_argument h m) p = light_more most m (omega (arith, light h))

-- a token has at least one byte, so there are at most as many as the file has bytes
few_from : (at : ℕ) (tokens : List PureToken) (stop : ℕ) → AreFrom at tokens stop → at + length tokens ≤ stop
few_from at [] stop h = omega arith
few_from at (token start end s ∷ tokens) stop h = omega (arith, h.0, h.1, few_from end tokens stop h.2)

pub few_tokens : (tokens : List PureToken) (n : ℕ) → AreInOrder tokens n → length tokens ≤ n
few_tokens tokens n h = omega (arith, few_from 0 tokens n h)

-- of a file within its bound a program has at most three times as many nodes
pub few_nodes : (tokens : List PureToken) (n : ℕ) (s : PureSurface) → AreInOrder tokens n → n ≤ 1048576
    → IsSparse tokens s → surface_size s ≤ 3145728
few_nodes tokens n s h small sparse = omega (arith, few_tokens tokens n h)

-- a program that tokens are has at most three nodes for each of them
pub sparse_program : (tokens : List PureToken) (s : PureSurface) → IsProgram tokens s → IsSparse tokens s
sparse_program tokens s p = omega (arith, light p.is.derives)
