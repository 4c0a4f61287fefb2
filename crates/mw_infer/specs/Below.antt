-- Which numbers slots, levels and closes name.
use Rattle.std.specs.Prelude.{ℕ, ◌<◌, List, [], ◌∷◌}
use Rattle.mw_term.specs.Types.{Level, live, under}
use Rattle.mw_infer.specs.ItemEquations.{Slot, plain_slot, quoted_slot, Close}

-- they name the first n unknowns and the first m classifier unknowns alone
abbrev pub SlotBelow : ℕ → ℕ → Slot → Type 0
SlotBelow n m (plain_slot u) = u < n
SlotBelow n m (quoted_slot c u) = (c < m) × (u < n)

abbrev pub SlotsBelow : ℕ → ℕ → List Slot → Type 0
SlotsBelow n m [] = Unit {0}
SlotsBelow n m (x ∷ g) = SlotBelow n m x × SlotsBelow n m g

abbrev pub LevelBelow : ℕ → Level → Type 0
LevelBelow m live = Unit {0}
LevelBelow m (under c) = c < m

abbrev pub ClosesBelow : ℕ → ℕ → List Close → Type 0
ClosesBelow n m [] = Unit {0}
ClosesBelow n m (x ∷ xs) = ((x.classifier < m) × SlotsBelow n m x.scope) × ClosesBelow n m xs
