-- Counts that rise, and bytes that grow by a part of a piece.
use Rattle.std.specs.Prelude.{◌≡◌, ℕ, ◌-◌, ◌^◌, ◌<◌, ◌≤◌, ◌⊎◌, List, ◌++◌, length, take}
use Rattle.std.proofs.Common.{arith, inl, inr, ⊎_elim}
use Rattle.std.proofs.lemmas.Bool.{cases_lt}

-- a count rose: it is greater than before, or it stands at the last value of a u64, where it can rise no more
abbrev pub Rose : ℕ → ℕ → Type 0
Rose before after = (before < after) ⊎ (after ≡ 2 ^ 64 - 1)

-- a count that rose and then didn't fall has risen
pub Rose-after : (before middle after : ℕ) → before ≤ middle → middle ≤ after → Rose before middle → Rose before after
Rose-after before middle after first second rose =
    elim (cases_lt before after)
    [ inl above ↦ inl above | inr below ↦ inr (⊎_elim (λ h. omega arith) (λ h. omega arith) rose) ]

-- a count that didn't fall and then rose has risen
pub Rose-before : (before middle after : ℕ) → before ≤ middle → Rose middle after → Rose before after
Rose-before before middle after first rose = ⊎_elim (λ h. inl (omega arith)) (λ h. inr h) rose

-- a front of the piece, maybe none of it, was added at the end
abbrev pub GrowsByFront : List ℕ → List ℕ → List ℕ → Type 0
GrowsByFront before after piece = (count : ℕ) × (count ≤ length piece) × (after ≡ before ++ take count piece)

-- a length up to that of these bytes
abbrev pub IsWithin : ℕ → List ℕ → Type 0
IsWithin count bytes = count ≤ length bytes

-- the rest of the whole, after a front of it of at most so many bytes
abbrev pub IsEndWithin : ℕ → List ℕ → List ℕ → Type 0
IsEndWithin most rest whole = (front : List ℕ) × (length front ≤ most) × (whole ≡ front ++ rest)
