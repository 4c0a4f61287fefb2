-- The outputs of all items together.
use Rattle.std.specs.Prelude.{ℕ, ◌+◌, List, [], ◌∷◌, ◌++◌, map}
use Rattle.mw_slots.specs.Receipts.{Known}
use Rattle.mw_compile.specs.Entries.{Emitted}
use Rattle.mw_cache.specs.declared.got.Got.{Got}
use Rattle.mw_cache.specs.Received.{HasSlot}
use Rattle.mw_tasks.specs.declared.job.Done.{Done}
use Rattle.mw_tasks.specs.declared.outcome.ItemOutcome.{ItemOutcome}

abbrev pub outcomes_of : List Done → List ItemOutcome
outcomes_of all = map (λ d. d.outcome) all

abbrev pub emitted_by : List Done → ℕ
emitted_by [] = 0
emitted_by (done ∷ all) = done.emitted + emitted_by all

-- what all of them asked for, in order
abbrev pub asked_by : List Done → List Got
asked_by [] = []
asked_by (done ∷ all) = done.asked ++ asked_by all

-- there is a receipt of each slot of which the work has one
abbrev pub HasAllSlots : List (Known Emitted) → Done → Type 0
HasAllSlots receipts done = (slot : ℕ) → HasSlot done.stored slot → HasSlot receipts slot
