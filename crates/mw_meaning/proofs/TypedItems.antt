-- What holds of each item of a program that is written out.
use Rattle.std.proofs.Common.{◌≡◌, ℕ, zero, suc, List, [], ◌∷◌, Some, subst}
use Rattle.std.specs.Prelude.{slice_get}
use Rattle.mw_term.specs.Programs.{Definition}
use Rattle.mw_term.specs.Typable.{seen_by_item, IsTypableItem}

abbrev pub EachAt : (ℕ → Definition → Type 0) → List Definition → Type 0
EachAt P [] = Unit {0}
EachAt P (d ∷ items) = P zero d × EachAt (λ i. P (suc i)) items

each_at : (P : ℕ → Definition → Type 0) (items : List Definition) → EachAt P items → (i : ℕ) (d : Definition)
    → slice_get items i ≡ Some d → P i d
each_at P [] h i d e = absurd (cc)
each_at P (x ∷ items) h zero d e = let p : x ≡ d = cc in subst (P zero) p h.0
each_at P (x ∷ items) h (suc i) d e = each_at (λ i. P (suc i)) items h.1 i d e

pub items_typed : (items : List Definition) → EachAt (λ i. IsTypableItem (seen_by_item items i)) items
    → (i : ℕ) (d : Definition) → slice_get items i ≡ Some d → IsTypableItem (seen_by_item items i) d
items_typed items = each_at (λ i. IsTypableItem (seen_by_item items i)) items
