-- How far it is known that outcomes of one text are in one slot.
use Rattle.std.specs.Prelude.{ℕ, ◌≡◌, ◌<◌, List, Some, length, slice_get}
use Rattle.mw_tasks.specs.declared.outcome.ItemOutcome.{ItemOutcome}
use Rattle.mw_tasks.specs.Phases.{HaveOneModule}

-- of the outcome at a place and of each of the first ones
abbrev pub AgreesWithFirst : List ItemOutcome → (at n : ℕ) → Type 0
AgreesWithFirst outcomes at n =
    (j : ℕ) (a b : ItemOutcome) → j < n → slice_get outcomes at ≡ Some a → slice_get outcomes j ≡ Some b
    → HaveOneModule a b

-- of each of the first ones and of all
abbrev pub FirstAgree : List ItemOutcome → ℕ → Type 0
FirstAgree outcomes n = (i : ℕ) → i < n → AgreesWithFirst outcomes i (length outcomes)
