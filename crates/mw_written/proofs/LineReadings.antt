-- What is read of a node line: the types that it names, and its classifiers.
use Rattle.std.proofs.Common.{◌≡◌, ℕ, List, [], ◌∷◌, ◌++◌, length, Some, refl, sym, ap, ◌∙◌}
use Rattle.std.specs.Prelude.{slice_get, map}
use Rattle.std.proofs.lemmas.Option.{get_or_from_slice_get, same_Some}
use Rattle.mw_term.specs.Types.{Level}
use Rattle.mw_types.specs.Types.{TypeExpression, int_ty}
use Rattle.mw_recheck.specs.Notes.{Notes, AllNamed, IsNodeLine}
use Rattle.mw_written.specs.Readings.{Reading, a_type, a_classifier, line_readings}

abbrev pub line_says : List TypeExpression → List ℕ → List Reading
line_says us cs = map (λ t. a_type t) us ++ map (λ c. a_classifier c) cs

classifiers_read : (ts : List TypeExpression) (cs : List ℕ) → line_readings ts 0 cs ≡ map (λ c. a_classifier c) cs
classifiers_read ts [] = refl
classifiers_read ts (c ∷ cs) = ap (λ rs. a_classifier c ∷ rs) (classifiers_read ts cs)

named_read : (ts us : List TypeExpression) (places cs : List ℕ) → AllNamed ts places us
    → line_readings ts (length us) (places ++ cs) ≡ line_says us cs
named_read ts [] [] cs h = classifiers_read ts cs
named_read ts [] (i ∷ places) cs h = absurd h
named_read ts (t ∷ us) [] cs h = absurd h
named_read ts (t ∷ us) (i ∷ places) cs h =
    rw (get_or_from_slice_get ts i t int_ty h.0, named_read ts us places cs h.1) refl

pub line_read : (p : Notes) (m : Level) (n : ℕ) (us : List TypeExpression) (cs l : List ℕ) → IsNodeLine p m n us cs
    → slice_get p.nodes n ≡ Some l → line_readings p.types (length us) l ≡ line_says us cs
line_read p m n us cs l h e =
    let same = same_Some l (h.lines ++ cs) (sym e ∙ h.line) in
    rw same (named_read p.types us h.lines cs h.named)
