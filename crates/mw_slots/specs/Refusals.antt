-- Why a table has no receipt.
use Rattle.std.specs.Prelude.{◌≡◌, ℕ, List}
use Rattle.std.specs.Arc.{arc_value}
use Rattle.mw_slots.specs.declared.refused.NoRoom.{NoRoom}
use Rattle.mw_slots.specs.declared.refused.Refused.{Refused}
use Rattle.mw_slots.specs.declared.refused.Refused.TheVariants.{NoRoom as IsNoRoom, Memory}
use Rattle.mw_slots.specs.Receipts.{IsFull}

module _ {X : Type 0} where
  -- what holds of the entry and the receipts where there is no room
  abbrev pub IfNoRoom : Refused X → (NoRoom X → Type 0) → Type 0
  IfNoRoom (IsNoRoom n) P = P n
  IfNoRoom (Memory e) P = Unit {0}

  -- the entry has this name, and each slot of the window another one
  abbrev pub HasNoRoom : (X → List ℕ) → List ℕ → ℕ → List ℕ → NoRoom X → Type 0
  HasNoRoom name_of cells start name n =
      (name_of (arc_value n.own) ≡ name) × IsFull name_of cells start name n.seen
