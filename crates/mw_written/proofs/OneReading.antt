-- Readings whose numbers are in order, each of which assignments make of the other, are one list.
use Rattle.std.proofs.Common.{◌≡◌, ℕ, List, [], ◌∷◌, refl, sym}
use Rattle.std.specs.Prelude.{map}
use Rattle.mw_types.specs.Types.{TypeExpression, int_ty, pair_ty, function_ty, code_ty, Assignment, value}
use Rattle.mw_types.specs.Numbered.{IsNumbered, an_int, a_pair, a_function, code_seen, code_next}
use Rattle.mw_types.proofs.InOrder.{one_in_order}
use Rattle.mw_written.specs.Readings.{Reading, a_type, a_classifier, ReadingValue, reading_value}
use Rattle.mw_written.specs.Order.{AreNumbered, all_read, type_read, classifier_seen, classifier_next}

-- readings gathered into one type
abbrev gathered : List Reading → TypeExpression
gathered [] = int_ty
gathered (a_type t ∷ rs) = pair_ty t (gathered rs)
gathered (a_classifier c ∷ rs) = function_ty (code_ty c int_ty) (gathered rs)

gathered-one : (rs qs : List Reading) → gathered rs ≡ gathered qs → rs ≡ qs
gathered-one [] [] h = refl
gathered-one (a_type s ∷ rs) (a_type t ∷ qs) h =
    let p : s ≡ t = cc in
    let q : gathered rs ≡ gathered qs = cc in
    rw (p, gathered-one rs qs q) refl
gathered-one (a_classifier c ∷ rs) (a_classifier d ∷ qs) h =
    let p : c ≡ d = cc in
    let q : gathered rs ≡ gathered qs = cc in
    rw (p, gathered-one rs qs q) refl
gathered-one [] (a_type t ∷ qs) h = absurd (cc)
gathered-one [] (a_classifier c ∷ qs) h = absurd (cc)
gathered-one (a_type t ∷ rs) _ h = absurd (cc)
gathered-one (a_classifier c ∷ rs) _ h = absurd (cc)

gathered-numbered : {n m : ℕ} {rs : List Reading} → AreNumbered n m rs
    → (k l : ℕ) × IsNumbered n m (gathered rs) k l
gathered-numbered {n = n} {m = m} all_read = (n, m, an_int)
gathered-numbered (type_read h r) = let x = gathered-numbered r in (x.0, x.1, a_pair h x.2)
gathered-numbered (classifier_seen h r) =
    let x = gathered-numbered r in (x.0, x.1, a_function (code_seen h an_int) x.2)
gathered-numbered (classifier_next h r) =
    let x = gathered-numbered r in (x.0, x.1, a_function (code_next h an_int) x.2)

abbrev values : Assignment → List Reading → List ReadingValue
values b rs = map (reading_value b) rs

gathered-value : (b d : Assignment) (rs qs : List Reading) → values b rs ≡ values d qs
    → value b (gathered rs) ≡ value d (gathered qs)
gathered-value b d [] [] h = refl
gathered-value b d (a_type s ∷ rs) (a_type t ∷ qs) h =
    let p : value b s ≡ value d t = cc in
    let q = gathered-value b d rs qs (cc) in
    cc
gathered-value b d (a_classifier c ∷ rs) (a_classifier e ∷ qs) h =
    let p : b.classifier c ≡ d.classifier e = cc in
    let q = gathered-value b d rs qs (cc) in
    cc
gathered-value b d _ _ h = absurd (cc)

-- what assignments make of the second readings, some assignment makes of the first
abbrev pub Covers : List Reading → List Reading → Type 0
Covers rs qs = (b : Assignment) → (d : Assignment) × (values d rs ≡ values b qs)

pub one_reading : (rs qs : List Reading) → Covers rs qs → Covers qs rs → AreNumbered 0 0 rs → AreNumbered 0 0 qs
    → rs ≡ qs
one_reading rs qs f g h i =
    let x = gathered-numbered h in
    let y = gathered-numbered i in
    let z = one_in_order (gathered rs) (gathered qs)
    (λ b _. let d = g b in (d.0, sym (gathered-value d.0 b qs rs d.1)))
    (λ b _. let d = f b in (d.0, sym (gathered-value d.0 b rs qs d.1)))
    x.2 y.2 in
    gathered-one rs qs z.types
