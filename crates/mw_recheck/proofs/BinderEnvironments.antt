-- The environments that assignments make of what a certificate knows of binders.
use Rattle.std.proofs.Common.{◌≡◌, ℕ, zero, suc, List, [], ◌∷◌, Some, refl, ap}
use Rattle.std.specs.Prelude.{slice_get}
use Rattle.mw_term.specs.Types.{Level, live, under, Entry, value as at_live, quoted, entry}
use Rattle.mw_term.specs.FlatTypes.{flat_type, formed_type}
use Rattle.mw_term.proofs.FlatTypes.{fitted}
use Rattle.mw_term.proofs.Classifiers.{changed, changed-apart}
use Rattle.mw_types.specs.Types.{TypeExpression, int_ty, bool_ty, unknown, pair_ty, function_ty, code_ty, closed_ty}
use Rattle.mw_types.specs.Types.{Assignment, value}
use Rattle.mw_types.proofs.Expressions.{level_of}
use Rattle.mw_lines.specs.Made.{IsNotIn}
use Rattle.mw_recheck.specs.Notes.{BinderNote, plain_note, quoted_note, binder_note, IsUnused}

-- the entry that an assignment makes of a binder_note, its type made one of its level
abbrev pub entry_of : Assignment → BinderNote → Entry
entry_of a (plain_note t) = at_live (formed_type (value a t))
entry_of a (quoted_note c t) = quoted (a.classifier c) (flat_type (value a t))

abbrev pub entries : Assignment → List BinderNote → List Entry
entries a [] = []
entries a (x ∷ g) = entry_of a x ∷ entries a g

pub entry_of-note : (a : Assignment) (m : Level) (t : TypeExpression)
    → entry_of a (binder_note m t) ≡ entry (level_of a m) (fitted m (value a t))
entry_of-note a live t = refl
entry_of-note a (under c) t = refl

pub get-entries : (a : Assignment) (g : List BinderNote) (i : ℕ) (x : BinderNote) → slice_get g i ≡ Some x
    → slice_get (entries a g) i ≡ Some (entry_of a x)
get-entries a [] i x e = absurd (cc)
get-entries a (y ∷ g) zero x e = let p : y ≡ x = cc in ap (λ z. Some (entry_of a z)) p
get-entries a (y ∷ g) (suc i) x e = get-entries a g i x e

-- an assignment with another classifier for one
abbrev pub renewed : Assignment → ℕ → ℕ → Assignment
renewed b a c = record { ty = b.ty; classifier = changed b.classifier a c }

value-renewed : (b : Assignment) (a c : ℕ) (t : TypeExpression) → IsNotIn a t → value (renewed b a c) t ≡ value b t
value-renewed b a c int_ty h = refl
value-renewed b a c bool_ty h = refl
value-renewed b a c (unknown u) h = refl
value-renewed b a c (pair_ty s t) h = rw (value-renewed b a c s h.0, value-renewed b a c t h.1) refl
value-renewed b a c (function_ty s t) h = rw (value-renewed b a c s h.0, value-renewed b a c t h.1) refl
value-renewed b a c (code_ty d t) h = rw ((changed-apart b.classifier a c).same d h.0, value-renewed b a c t h.1) refl
value-renewed b a c (closed_ty t) h = rw (value-renewed b a c t h) refl

-- it changes no type that a level 1 term has, and no entry in which the classifier does not stand
pub flat-renewed : (b : Assignment) (a c : ℕ) (t : TypeExpression)
    → flat_type (value (renewed b a c) t) ≡ flat_type (value b t)
flat-renewed b a c int_ty = refl
flat-renewed b a c bool_ty = refl
flat-renewed b a c (unknown u) = refl
flat-renewed b a c (pair_ty s t) = rw (flat-renewed b a c s, flat-renewed b a c t) refl
flat-renewed b a c (function_ty s t) = rw (flat-renewed b a c s, flat-renewed b a c t) refl
flat-renewed b a c (code_ty d t) = refl
flat-renewed b a c (closed_ty t) = refl

pub entries-renewed : (b : Assignment) (a c : ℕ) (g : List BinderNote) → IsUnused a g
    → entries (renewed b a c) g ≡ entries b g
entries-renewed b a c [] h = refl
entries-renewed b a c (plain_note t ∷ g) h = rw (value-renewed b a c t h.0, entries-renewed b a c g h.1) refl
entries-renewed b a c (quoted_note d t ∷ g) h = rw (
  (changed-apart b.classifier a c).same d h.0.0,
  value-renewed b a c t h.0.1,
  entries-renewed b a c g h.1,
) refl
