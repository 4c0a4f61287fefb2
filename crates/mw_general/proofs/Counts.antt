-- A term's nodes have as many types as their lines name.
use Rattle.std.proofs.Common.{◌≡◌, ℕ, ◌+◌, List, ◌∷◌, ◌++◌, length, append_assoc, refl, ap, ◌∙◌}
use Rattle.std.proofs.lemmas.List.{map-append}
use Rattle.mw_term.specs.Terms.{Expression, fun, fix, app, bind, cond, pair, fst, snd, prim}
use Rattle.mw_term.specs.Terms.{bracket, escape, run, close, opened, lift, lift_b}
use Rattle.mw_infer.specs.Schemes.{TopScheme}
use Rattle.mw_infer.specs.ItemEquations.{unknowns_of, classifiers_of}
use Rattle.mw_infer.specs.Nodes.{NodeNumbers, node_numbers}
use Rattle.mw_written.specs.Readings.{type_counts}
use Rattle.mw_general.proofs.NodeLineReadings.{counts_of}

two : (xs ys : List NodeNumbers) (ks ls : List ℕ) → counts_of xs ≡ ks → counts_of ys ≡ ls
    → counts_of (xs ++ ys) ≡ ks ++ ls
two xs ys ks ls h i = rw (map-append (λ (x : NodeNumbers). length x.types) xs ys, h, i) refl

module _ (tops : List TopScheme) where
  pub counted : (u o c : ℕ) (e : Expression) → counts_of (node_numbers tops u o c e) ≡ type_counts e
  counted u o c (fun e) = ap (λ ks. 2 ∷ ks) (counted (o + 1) (o + 2) c e)
  counted u o c (fix e) = ap (λ ks. 3 ∷ ks) (counted (o + 2) (o + 3) c e)
  counted u o c (app f a) = ap (λ ks. 1 ∷ ks) (two _ _ _ _ (counted o (o + 2) c f)
      (counted (o + 1) (o + 2 + unknowns_of tops f) (c + classifiers_of tops f) a))
  counted u o c (bind d e) = ap (λ ks. 2 ∷ ks) (two _ _ _ _ (counted (o + 1) (o + 3) c d)
      (counted (o + 2) (o + 3 + unknowns_of tops d) (c + classifiers_of tops d) e))
  counted u o c (cond p a b) =
      ap (λ ks. 1 ∷ ks)
      (two _ _ _ _
      (two _ _ _ _ (counted o (o + 3) c p)
      (counted (o + 1) (o + 3 + unknowns_of tops p) (c + classifiers_of tops p) a))
      (counted (o + 2) (o + 3 + unknowns_of tops p + unknowns_of tops a)
      (c + classifiers_of tops p + classifiers_of tops a) b)
      ∙ append_assoc (type_counts p) (type_counts a) (type_counts b))
  counted u o c (pair a b) = ap (λ ks. 1 ∷ ks) (two _ _ _ _ (counted o (o + 2) c a)
      (counted (o + 1) (o + 2 + unknowns_of tops a) (c + classifiers_of tops a) b))
  counted u o c (fst e) = ap (λ ks. 2 ∷ ks) (counted (o + 1) (o + 2) c e)
  counted u o c (snd e) = ap (λ ks. 2 ∷ ks) (counted (o + 1) (o + 2) c e)
  counted u o c (prim p a b) = ap (λ ks. 1 ∷ ks) (two _ _ _ _ (counted o (o + 2) c a)
      (counted (o + 1) (o + 2 + unknowns_of tops a) (c + classifiers_of tops a) b))
  counted u o c (bracket e) = ap (λ ks. 1 ∷ ks) (counted o (o + 1) (c + 1) e)
  counted u o c (escape e) = ap (λ ks. 1 ∷ ks) (counted o (o + 1) c e)
  counted u o c (run k e) = ap (λ ks. 1 ∷ ks) (counted o (o + 1) c e)
  counted u o c (close at e) = ap (λ ks. 2 ∷ ks) (counted (o + 1) (o + 2) (c + 1) e)
  counted u o c (opened e) = ap (λ ks. 2 ∷ ks) (counted (o + 1) (o + 2) (c + 1) e)
  counted u o c (lift e) = ap (λ ks. 1 ∷ ks) (counted o (o + 1) (c + 1) e)
  counted u o c (lift_b e) = ap (λ ks. 1 ∷ ks) (counted o (o + 1) (c + 1) e)
  counted u o c e = refl
