-- Types without code types, or without any under a code type.
use Rattle.std.proofs.Common.{◌≡◌, ℕ, zero, suc, List, [], ◌∷◌, map, Some, refl, ap}
use Rattle.std.specs.Prelude.{slice_get}
use Rattle.mw_term.specs.Types.{Level, live, under, Entry, value as at_live, quoted, entry, IsAbsent}
use Rattle.mw_types.specs.Types.{Assignment}
use Rattle.mw_types.proofs.Expressions.{level_of}
use Rattle.mw_term.proofs.FlatTypes.{fitted, IsAbsentIn-flat_type, IsAbsentIn-formed_type}
use Rattle.mw_infer.specs.ItemEquations.{Slot, plain_slot, quoted_slot, slot}
use Rattle.mw_infer.specs.Inferring.{entry_of}
use Rattle.mw_term.specs.FlatTypes.{flat_type, formed_type}

-- the entry of a slot, its type made one of its level
abbrev pub fitted_entry : Assignment → Slot → Entry
fitted_entry a (plain_slot u) = at_live (formed_type (a.ty u))
fitted_entry a (quoted_slot c u) = quoted (a.classifier c) (flat_type (a.ty u))

pub fitted_entry-slot : (a : Assignment) (m : Level) (u : ℕ) → fitted_entry a (slot m u) ≡ entry (level_of a m)
    (fitted m (a.ty u))
fitted_entry-slot a live u = refl
fitted_entry-slot a (under c) u = refl

pub IsAbsent-fitted : (a : Assignment) (k : ℕ) (g : List Slot) → IsAbsent k (map (entry_of a) g)
    → IsAbsent k (map (fitted_entry a) g)
IsAbsent-fitted a k [] h = tt
IsAbsent-fitted a k (plain_slot u ∷ g) h = (IsAbsentIn-formed_type k (a.ty u) h.0, IsAbsent-fitted a k g h.1)
IsAbsent-fitted a k (quoted_slot c u ∷ g) h = ((h.0.0, IsAbsentIn-flat_type k (a.ty u)), IsAbsent-fitted a k g h.1)

pub get-fitted : (a : Assignment) (g : List Slot) (i : ℕ) (s : Slot) → slice_get g i ≡ Some s
    → slice_get (map (fitted_entry a) g) i ≡ Some (fitted_entry a s)
get-fitted a [] i s e = absurd (cc)
get-fitted a (x ∷ g) zero s e = let p : x ≡ s = cc in ap (λ y. Some (fitted_entry a y)) p
get-fitted a (x ∷ g) (suc i) s e = get-fitted a g i s e
