-- Node lines with the same readings are equal, where they begin with as many places of types as they are read to.
use Rattle.std.proofs.Common.{◌≡◌, ℕ, zero, suc, ◌<◌, List, [], ◌∷◌, ◌++◌, length, get_or, Some, refl, sym, ap}
use Rattle.std.proofs.Common.{◌∙◌, arith}
use Rattle.std.proofs.lemmas.Option.{slice_get-get_or}
use Rattle.mw_types.specs.Types.{TypeExpression, int_ty}
use Rattle.mw_lines.specs.TypeLines.{TypeLine, AreTypeLines}
use Rattle.mw_lines.proofs.OneLine.{one_line}
use Rattle.mw_written.specs.Readings.{Reading, a_type, a_classifier, line_readings, readings}
use Rattle.mw_written.proofs.LeadingTypePlaces.{NamesFirst, AllNameFirst}

-- no line goes on with what is read
abbrev BeginsLine : List Reading → Type 0
BeginsLine [] = Unit {0}
BeginsLine (a_type t ∷ rs) = Unit {0}
BeginsLine (a_classifier c ∷ rs) = ⊥

begins_line : (ts : List TypeExpression) (counts : List ℕ) (nodes : List (List ℕ)) → AllNameFirst ts counts nodes
    → BeginsLine (readings ts counts nodes)
begins_line ts [] nodes h = tt
begins_line ts (count ∷ counts) [] h = tt
begins_line ts (zero ∷ counts) (l ∷ nodes) h = absurd (omega (arith, h.0))
begins_line ts (suc count ∷ counts) ([] ∷ nodes) h = absurd h.1
begins_line ts (suc count ∷ counts) ((i ∷ l) ∷ nodes) h = tt

module _ (lines : List TypeLine) (ts : List TypeExpression) (known : AreTypeLines lines ts) where
  -- places of one type are one
  one_place : (i j : ℕ) → i < length ts → j < length ts → get_or ts i int_ty ≡ get_or ts j int_ty → i ≡ j
  one_place i j h g e =
      one_line lines ts known (get_or ts i int_ty) i j (slice_get-get_or ts i int_ty h)
      (slice_get-get_or ts j int_ty g ∙ ap (λ t. Some t) (sym e))

  -- the line that readings begin with, and what is read after it
  first_line : (count : ℕ) (k l : List ℕ) (rs qs : List Reading) → NamesFirst ts count k → NamesFirst ts count l
      → BeginsLine rs → BeginsLine qs → line_readings ts count k ++ rs ≡ line_readings ts count l ++ qs
      → (k ≡ l) × (rs ≡ qs)
  first_line zero [] [] rs qs f g a b h = (refl, h)
  first_line zero [] (d ∷ l) [] qs f g a b h = absurd (cc)
  first_line zero [] (d ∷ l) (a_type t ∷ rs) qs f g a b h = absurd (cc)
  first_line zero [] (d ∷ l) (a_classifier c ∷ rs) qs f g a b h = absurd a
  first_line zero (c ∷ k) [] rs [] f g a b h = absurd (cc)
  first_line zero (c ∷ k) [] rs (a_type t ∷ qs) f g a b h = absurd (cc)
  first_line zero (c ∷ k) [] rs (a_classifier d ∷ qs) f g a b h = absurd b
  first_line zero (c ∷ k) (d ∷ l) rs qs f g a b h =
      let p : c ≡ d = cc in
      let r = first_line zero k l rs qs tt tt a b (cc) in
      (rw (p, r.0) refl, r.1)
  first_line (suc count) [] l rs qs f g a b h = absurd f
  first_line (suc count) (i ∷ k) [] rs qs f g a b h = absurd g
  first_line (suc count) (i ∷ k) (j ∷ l) rs qs f g a b h =
      let p : get_or ts i int_ty ≡ get_or ts j int_ty = cc in
      let r = first_line count k l rs qs f.1 g.1 a b (cc) in
      (rw (one_place i j f.0 g.0 p, r.0) refl, r.1)

  pub one_nodes : (counts : List ℕ) (xs ys : List (List ℕ)) → AllNameFirst ts counts xs → AllNameFirst ts counts ys
      → readings ts counts xs ≡ readings ts counts ys → xs ≡ ys
  one_nodes [] [] [] f g h = refl
  one_nodes (count ∷ counts) (k ∷ xs) (l ∷ ys) f g h =
      let r = first_line count k l (readings ts counts xs) (readings ts counts ys) f.1 g.1
      (begins_line ts counts xs f.2) (begins_line ts counts ys g.2) h in
      rw (r.0, one_nodes counts xs ys f.2 g.2 r.1) refl
  one_nodes [] [] _ f g h = absurd g
  one_nodes (count ∷ counts) (k ∷ xs) [] f g h = absurd g
  one_nodes _ _ ys f g h = absurd f
