-- What a witness of a slot's entry shows.
use Rattle.std.specs.Prelude.{◌≡◌, ◌≢◌, ℕ, List, Bool, Option, map, slice_get, IfSome, MatchBool}
use Rattle.std.specs.Arc.{arc_value}
use Rattle.std.specs.declared.option.Option.TheVariants.{Some}
use Rattle.std.specs.declared.sync.Arc.{Arc}
use Rattle.mw_slots.specs.declared.witness.Witness.{Witness}
use Rattle.mw_slots.specs.Receipts.{Known, AllOther, Ends}

module _ {X Z : Type 0} where
  -- the cell's name and its entry
  abbrev pub shown : Witness (Arc X Z) → ℕ × X
  shown w = (w.cell, arc_value w.value)

  abbrev pub all_shown : List (Witness (Arc X Z)) → List (ℕ × X)
  all_shown ws = map shown ws

  -- what a receipt knows of its slot, and of the slots that were passed over
  abbrev pub known : ℕ → Witness (Arc X Z) → List (Witness (Arc X Z)) → Known X
  known slot own passed =
      record { slot = slot; cell = own.cell; entry = arc_value own.value; passed = all_shown passed }

  -- the witness is of the slot's cell
  abbrev pub IsAt : List ℕ → ℕ → Witness (Arc X Z) → Type 0
  IsAt cells at w = slice_get cells at ≡ Some w.cell

  -- the test tells whether the witness's entry has this name
  abbrev pub Tells : (X → List ℕ) → List ℕ → Witness (Arc X Z) → Bool → Type 0
  Tells name_of name w same =
      MatchBool same (name_of (arc_value w.value) ≡ name) (name_of (arc_value w.value) ≢ name)

  module _ (name_of : X → List ℕ) (cells : List ℕ) (start : ℕ) (name : List ℕ) where
    -- the witnesses are of the first cells of the window, each with an entry of another name
    abbrev pub Passes : List (Witness (Arc X Z)) → Type 0
    Passes passed = AllOther name_of cells start name (all_shown passed)

    -- the witness is of the next cell, with an entry of this name
    abbrev pub IsEnd : List (Witness (Arc X Z)) → Witness (Arc X Z) → Type 0
    IsEnd passed own = Ends name_of cells start name (all_shown passed) (shown own)

    abbrev pub IfFound : List (Witness (Arc X Z)) → Option (Witness (Arc X Z)) → Type 0
    IfFound passed found = IfSome found (IsEnd passed)
