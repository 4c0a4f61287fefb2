-- A worked example of the table as a pure machine.
use Rattle.std.specs.Prelude.{◌≡◌, List, [], ◌∷◌, ◌++◌, replicate}
use Rattle.std.specs.declared.option.Option.TheVariants.{Some, None}
use Rattle.mw_slots.specs.Core.{State, Event, begin, look, fill, asker, has, empty, Follows}

-- Three askers of two names in a table of sixteen slots, where every window begins at the last one: the first name
-- fills the last slot, the second one goes round to slot 0, and who asks for it again finds it there.
abbrev pub three_askers : List Event
three_askers =
    begin 0 (1 ∷ []) ∷ fill 0
    ∷ begin 1 (2 ∷ []) ∷ look 1 ∷ fill 1
    ∷ begin 2 (2 ∷ []) ∷ look 2 ∷ look 2 ∷ []

abbrev pub ThreeAskersOfTwoNames : Type 0
ThreeAskersOfTwoNames =
    (s : State) × Follows (λ _. 15) (empty 16) three_askers s
    × (s.slots ≡ Some (2 ∷ []) ∷ (replicate 14 None ++ (Some (1 ∷ []) ∷ [])))
    × (s.askers 2 ≡ Some (asker (2 ∷ []) 1 has))
