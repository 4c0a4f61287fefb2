-- Nodes at their places in a list, and the numbers that they have.
use Rattle.std.proofs.Common.{◌≡◌, ℕ, zero, suc, ◌+◌, ◌<◌, ◌≤◌, List, [], ◌∷◌, ◌++◌, map, length, get_or, Some, refl, ap}
use Rattle.std.proofs.Common.{sym, subst, arith}
use Rattle.std.specs.List.{AllByRecursion}
use Rattle.std.specs.Prelude.{slice_get}
use Rattle.mw_term.specs.Terms.{Expression, fun, fix, app, bind, cond, pair, fst, snd, prim, bracket, escape, run}
use Rattle.mw_term.specs.Terms.{close, opened, lift, lift_b}
use Rattle.mw_types.specs.Solutions.{Solution, substitution_of}
use Rattle.mw_infer.specs.declared.nodes.NodeNumbers.{NodeNumbers as RustNodeNumbers}
use Rattle.mw_infer.specs.Schemes.{TopScheme}
use Rattle.mw_infer.specs.ItemEquations.{unknowns_of, classifiers_of}
use Rattle.mw_infer.specs.Nodes.{NodeNumbers, plain_node, quoted_node, node_numbers, facts_at}
use Rattle.mw_infer.specs.NodeViews.{numbers_of}
use Rattle.mw_infer.specs.Typings.{IsNodeWithin, AreNodesWithin, facts_of_part, nodes_of}

pub node-within : (P : NodeNumbers → Type 0) (xs : List RustNodeNumbers) (i : ℕ) (x : RustNodeNumbers)
    → AllByRecursion P (map numbers_of xs) → i < length xs → x ≡ get_or xs i x → P (numbers_of x)
node-within P [] i x h lt e = absurd (omega arith)
node-within P (y ∷ xs) zero x h lt e = subst (λ z. P (numbers_of z)) (sym e) h.0
node-within P (y ∷ xs) (suc i) x h lt e = node-within P xs i x h.1 (omega arith) e

pub node-at : (s : Solution) (xs : List RustNodeNumbers) (i : ℕ) (x : RustNodeNumbers) → i < length xs
    → x ≡ get_or xs i x → slice_get (nodes_of (record { solution = s; nodes = map numbers_of xs })) i
    ≡ Some (record { solution = s; numbers = numbers_of x })
node-at s [] i x lt e = absurd (omega arith)
node-at s (y ∷ xs) zero x lt e = ap (λ z. Some (record { solution = s; numbers = numbers_of z })) (sym e)
node-at s (y ∷ xs) (suc i) x lt e = node-at s xs i x (omega arith) e

-- what a part tells is what its solution says at the numbers of its nodes
pub facts-told : (s : Solution) (xs : List NodeNumbers) → facts_of_part (record { solution = s; nodes = xs })
    ≡ map (facts_at (substitution_of s)) xs
facts-told s [] = refl
facts-told s (x ∷ xs) = ap (λ z. facts_at (substitution_of s) x ∷ z) (facts-told s xs)

pub within-append : (n m : ℕ) (xs ys : List NodeNumbers) → AreNodesWithin n m xs → AreNodesWithin n m ys
    → AreNodesWithin n m (xs ++ ys)
within-append n m [] ys h k = k
within-append n m (x ∷ xs) ys h k = (h.0, within-append n m xs ys h.1 k)

-- a node whose numbers are within
pub plain : {n m : ℕ} {us : List ℕ} → AllByRecursion (λ u. u < n) us → IsNodeWithin n m (plain_node us)
plain h = record { types = h; classifier = tt }

pub quoted : {n m c : ℕ} {us : List ℕ} → AllByRecursion (λ u. u < n) us → c < m
    → IsNodeWithin n m (quoted_node us c)
quoted h k = record { types = h; classifier = k }

-- the numbers of a term's nodes are its own
module _ (schemes : List TopScheme) where
  pub numbers-within : (n m u o c : ℕ) (e : Expression) → u < n → o + unknowns_of schemes e ≤ n
      → c + classifiers_of schemes e ≤ m → AreNodesWithin n m (node_numbers schemes u o c e)
  numbers-within n m u o c (fun e) lt p q =
      (plain (lt, (omega arith, tt)), numbers-within n m (o + 1) (o + 2) c e (omega arith) (omega arith) q)
  numbers-within n m u o c (fix e) lt p q = (
    plain (lt, (omega arith, (omega arith, tt))),
    numbers-within n m (o + 2) (o + 3) c e (omega arith) (omega arith) q,
  )
  numbers-within n m u o c (app f a) lt p q = (
    plain (lt, tt),
    within-append n m _ _ (numbers-within n m o (o + 2) c f (omega arith) (omega arith) (omega arith))
        (numbers-within n m (o + 1) (o + 2 + unknowns_of schemes f) (c + classifiers_of schemes f) a (omega arith)
        (omega arith) (omega arith)),
  )
  numbers-within n m u o c (bind d e) lt p q = (
    plain (lt, (omega arith, tt)),
    within-append n m _ _ (numbers-within n m (o + 1) (o + 3) c d (omega arith) (omega arith) (omega arith))
        (numbers-within n m (o + 2) (o + 3 + unknowns_of schemes d) (c + classifiers_of schemes d) e (omega arith)
        (omega arith) (omega arith)),
  )
  numbers-within n m u o c (cond k a b) lt p q = (
    plain (lt, tt),
    within-append n m _ _
        (within-append n m _ _ (numbers-within n m o (o + 3) c k (omega arith) (omega arith) (omega arith))
        (numbers-within n m (o + 1) (o + 3 + unknowns_of schemes k) (c + classifiers_of schemes k) a (omega arith)
        (omega arith) (omega arith)))
        (numbers-within n m (o + 2) (o + 3 + unknowns_of schemes k + unknowns_of schemes a)
        (c + classifiers_of schemes k + classifiers_of schemes a) b (omega arith) (omega arith) (omega arith)),
  )
  numbers-within n m u o c (pair a b) lt p q = (
    plain (lt, tt),
    within-append n m _ _ (numbers-within n m o (o + 2) c a (omega arith) (omega arith) (omega arith))
        (numbers-within n m (o + 1) (o + 2 + unknowns_of schemes a) (c + classifiers_of schemes a) b (omega arith)
        (omega arith) (omega arith)),
  )
  numbers-within n m u o c (fst e) lt p q =
      (plain (lt, (omega arith, tt)), numbers-within n m (o + 1) (o + 2) c e (omega arith) (omega arith) q)
  numbers-within n m u o c (snd e) lt p q =
      (plain (lt, (omega arith, tt)), numbers-within n m (o + 1) (o + 2) c e (omega arith) (omega arith) q)
  numbers-within n m u o c (prim k a b) lt p q = (
    plain (lt, tt),
    within-append n m _ _ (numbers-within n m o (o + 2) c a (omega arith) (omega arith) (omega arith))
        (numbers-within n m (o + 1) (o + 2 + unknowns_of schemes a) (c + classifiers_of schemes a) b (omega arith)
        (omega arith) (omega arith)),
  )
  numbers-within n m u o c (bracket e) lt p q =
      (quoted (lt, tt) (omega arith), numbers-within n m o (o + 1) (c + 1) e (omega arith) (omega arith) (omega arith))
  numbers-within n m u o c (escape e) lt p q =
      (plain (lt, tt), numbers-within n m o (o + 1) c e (omega arith) (omega arith) q)
  numbers-within n m u o c (run k e) lt p q =
      (plain (lt, tt), numbers-within n m o (o + 1) c e (omega arith) (omega arith) q)
  numbers-within n m u o c (close at e) lt p q = (
    quoted (lt, (omega arith, tt)) (omega arith),
    numbers-within n m (o + 1) (o + 2) (c + 1) e (omega arith) (omega arith) (omega arith),
  )
  numbers-within n m u o c (opened e) lt p q = (
    quoted (lt, (omega arith, tt)) (omega arith),
    numbers-within n m (o + 1) (o + 2) (c + 1) e (omega arith) (omega arith) (omega arith),
  )
  numbers-within n m u o c (lift e) lt p q =
      (quoted (lt, tt) (omega arith), numbers-within n m o (o + 1) (c + 1) e (omega arith) (omega arith) (omega arith))
  numbers-within n m u o c (lift_b e) lt p q =
      (quoted (lt, tt) (omega arith), numbers-within n m o (o + 1) (c + 1) e (omega arith) (omega arith) (omega arith))
  numbers-within n m u o c e lt p q = (plain (lt, tt), tt)
