-- A term's numbers are those of as many nodes as it has.
use Rattle.std.proofs.Common.{◌≡◌, ℕ, ◌+◌, List, ◌++◌, length, length-append, refl, arith}
use Rattle.mw_term.specs.Terms.{Expression, fun, fix, app, bind, cond, pair, fst, snd, prim}
use Rattle.mw_term.specs.Terms.{bracket, escape, run, close, opened, lift, lift_b, size}
use Rattle.mw_infer.specs.Schemes.{TopScheme}
use Rattle.mw_infer.specs.ItemEquations.{unknowns_of, classifiers_of}
use Rattle.mw_infer.specs.Nodes.{NodeNumbers, node_numbers}

pub two : (xs ys : List NodeNumbers) (k l : ℕ) → length xs ≡ k → length ys ≡ l → length (xs ++ ys) ≡ k + l
two xs ys k l h i = rw (length-append xs ys, h, i) refl

pub node_count : (tops : List TopScheme) (u o c : ℕ) (e : Expression) → length (node_numbers tops u o c e) ≡ size e
node_count tops u o c (fun e) = omega (arith, node_count tops (o + 1) (o + 2) c e)
node_count tops u o c (fix e) = omega (arith, node_count tops (o + 2) (o + 3) c e)
node_count tops u o c (app f a) = omega (
  arith,
  two _ _ _ _ (node_count tops o (o + 2) c f)
      (node_count tops (o + 1) (o + 2 + unknowns_of tops f) (c + classifiers_of tops f) a),
)
node_count tops u o c (bind d e) = omega (
  arith,
  two _ _ _ _ (node_count tops (o + 1) (o + 3) c d)
      (node_count tops (o + 2) (o + 3 + unknowns_of tops d) (c + classifiers_of tops d) e),
)
node_count tops u o c (cond p a b) = omega (
  arith,
  two _ _ _ _
      (two _ _ _ _ (node_count tops o (o + 3) c p)
      (node_count tops (o + 1) (o + 3 + unknowns_of tops p) (c + classifiers_of tops p) a))
      (node_count tops (o + 2) (o + 3 + unknowns_of tops p + unknowns_of tops a)
      (c + classifiers_of tops p + classifiers_of tops a) b),
)
node_count tops u o c (pair a b) = omega (
  arith,
  two _ _ _ _ (node_count tops o (o + 2) c a)
      (node_count tops (o + 1) (o + 2 + unknowns_of tops a) (c + classifiers_of tops a) b),
)
node_count tops u o c (fst e) = omega (arith, node_count tops (o + 1) (o + 2) c e)
node_count tops u o c (snd e) = omega (arith, node_count tops (o + 1) (o + 2) c e)
node_count tops u o c (prim p a b) = omega (
  arith,
  two _ _ _ _ (node_count tops o (o + 2) c a)
      (node_count tops (o + 1) (o + 2 + unknowns_of tops a) (c + classifiers_of tops a) b),
)
node_count tops u o c (bracket e) = omega (arith, node_count tops o (o + 1) (c + 1) e)
node_count tops u o c (escape e) = omega (arith, node_count tops o (o + 1) c e)
node_count tops u o c (run k e) = omega (arith, node_count tops o (o + 1) c e)
node_count tops u o c (close at e) = omega (arith, node_count tops (o + 1) (o + 2) (c + 1) e)
node_count tops u o c (opened e) = omega (arith, node_count tops (o + 1) (o + 2) (c + 1) e)
node_count tops u o c (lift e) = omega (arith, node_count tops o (o + 1) (c + 1) e)
node_count tops u o c (lift_b e) = omega (arith, node_count tops o (o + 1) (c + 1) e)
node_count tops u o c e = omega arith
