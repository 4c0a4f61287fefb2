-- Lists of receipts.
use Rattle.std.specs.Prelude.{◌≡◌, ℕ, List, ◌++◌, Some, slice_get}
use Rattle.std.specs.List.{AllByRecursion}
use Rattle.mw_slots.specs.Receipts.{Known}
use Rattle.mw_compile.specs.Entries.{Emitted}
use Rattle.mw_cache.specs.declared.got.Got.{Got}
use Rattle.mw_cache.specs.declared.got.Got.TheVariants.{Loaded, Stored, Own}

-- one of the receipts is of the slot
abbrev pub HasSlot : List (Known Emitted) → ℕ → Type 0
HasSlot receipts slot = (k : ℕ) × (r : Known Emitted) × (slice_get receipts k ≡ Some r) × (r.slot ≡ slot)

-- there is one of the slot of each of these
abbrev pub AreReceived : List (Known Emitted) → List (Known Emitted) → Type 0
AreReceived receipts these = (k : ℕ) (r : Known Emitted) → slice_get these k ≡ Some r → HasSlot receipts r.slot

-- there is one of the slot of the module, or of each slot of the window that had no room; a loaded record has no slot
abbrev pub IsReceived : List (Known Emitted) → Got → Type 0
IsReceived receipts (Loaded at) = Unit {0}
IsReceived receipts (Stored r) = HasSlot receipts r.slot
IsReceived receipts (Own n) = AreReceived receipts n.seen

-- each of these is
abbrev pub AreAllReceived : List (Known Emitted) → List Got → Type 0
AreAllReceived receipts gots = AllByRecursion (IsReceived receipts) gots

-- what was asked grew, and each that came since is received
abbrev pub ReceivesSince : List (Known Emitted) → (before after : List Got) → Type 0
ReceivesSince receipts before after = (more : List Got) × (after ≡ before ++ more) × AreAllReceived receipts more
