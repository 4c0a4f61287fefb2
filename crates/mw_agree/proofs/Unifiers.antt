-- Substitutions that make both sides of each equation one type, and on which closes are unused.
use Rattle.std.proofs.Common.{◌≡◌, ℕ, List, [], ◌∷◌, ◌++◌, map, refl, ap, sym, ◌∙◌}
use Rattle.mw_term.specs.Types.{IsAbsentIn, IsAbsent}
use Rattle.mw_types.specs.Types.{TypeExpression, int_ty, bool_ty, unknown, pair_ty, function_ty, code_ty, closed_ty}
use Rattle.mw_types.specs.Types.{value, Substitution, apply, after}
use Rattle.mw_types.specs.Equations.{TypeEquation, Solves, MostGeneral}
use Rattle.mw_types.proofs.Existence.{value_apply}
use Rattle.mw_lines.specs.TypeLines.{HoldsNoCode}
use Rattle.mw_lines.specs.Made.{IsNotIn}
use Rattle.mw_recheck.specs.Notes.{BinderNote, plain_note, quoted_note, IsUnused}
use Rattle.mw_infer.specs.ItemEquations.{Slot, plain_slot, quoted_slot, Close}
use Rattle.mw_infer.specs.Inferring.{entry_of, AreFresh, least}
use Rattle.mw_agree.specs.Telling.{NewNumbers, renaming}
use Rattle.mw_agree.proofs.OneType.{labelled, one_type}

-- both sides of each equation are one type after the substitution
abbrev pub Unifies : Substitution → List TypeEquation → Type 0
Unifies s [] = Unit {0}
Unifies s (e ∷ es) = (apply s e.left ≡ apply s e.right) × Unifies s es

solved-unifies : (s : Substitution) (es : List TypeEquation) → Solves (after least s) es → Solves (after labelled s) es
    → Unifies s es
solved-unifies s [] h k = tt
solved-unifies s (e ∷ es) h k = (
  one_type (apply s e.left) (apply s e.right)
      (value_apply least s e.left ∙ h.0 ∙ sym (value_apply least s e.right))
      (value_apply labelled s e.left ∙ k.0 ∙ sym (value_apply labelled s e.right)),
  solved-unifies s es h.1 k.1,
)

pub general-unifies : (n m : ℕ) (es : List TypeEquation) (s : Substitution) → MostGeneral n m es s → Unifies s es
general-unifies n m es s g = solved-unifies s es (g.sound least) (g.sound labelled)

pub Unifies-parts : (s : Substitution) (es fs : List TypeEquation) → Unifies s (es ++ fs) → Unifies s es × Unifies s fs
Unifies-parts s [] fs h = (tt, h)
Unifies-parts s (e ∷ es) fs h = let r = Unifies-parts s es fs h.1 in ((h.0, r.0), r.1)

-- the note of a slot, and that each close's classifier is unused in its environment
abbrev pub note_of : Substitution → Slot → BinderNote
note_of s (plain_slot u) = plain_note (s.ty u)
note_of s (quoted_slot c u) = quoted_note (s.classifier c) (s.ty u)

abbrev pub AreUnused : Substitution → List Close → Type 0
AreUnused s [] = Unit {0}
AreUnused s (x ∷ xs) = IsUnused (s.classifier x.classifier) (map (note_of s) x.scope) × AreUnused s xs

pub AreUnused-parts : (s : Substitution) (xs ys : List Close) → AreUnused s (xs ++ ys) → AreUnused s xs × AreUnused s ys
AreUnused-parts s [] ys h = (tt, h)
AreUnused-parts s (x ∷ xs) ys h = let r = AreUnused-parts s xs ys h.1 in ((h.0, r.0), r.1)

-- an int for each unknown, and each classifier by its own name, hide no classifier and bring none in
absent-not_in : (a : ℕ) (t : TypeExpression) → IsAbsentIn a (value least t) → IsNotIn a t
absent-not_in a int_ty h = tt
absent-not_in a bool_ty h = tt
absent-not_in a (unknown u) h = tt
absent-not_in a (pair_ty s t) h = (absent-not_in a s h.0, absent-not_in a t h.1)
absent-not_in a (function_ty s t) h = (absent-not_in a s h.0, absent-not_in a t h.1)
absent-not_in a (code_ty c t) h = (h.0, absent-not_in a t h.1)
absent-not_in a (closed_ty t) h = absent-not_in a t h

absent-unused : (s : Substitution) (a : ℕ) (g : List Slot) → IsAbsent a (map (entry_of (after least s)) g)
    → IsUnused a (map (note_of s) g)
absent-unused s a [] h = tt
absent-unused s a (plain_slot u ∷ g) h = (absent-not_in a (s.ty u) h.0, absent-unused s a g h.1)
absent-unused s a (quoted_slot c u ∷ g) h = ((h.0.0, absent-not_in a (s.ty u) h.0.1), absent-unused s a g h.1)

pub fresh-unused : (s : Substitution) (xs : List Close) → AreFresh (after least s) xs → AreUnused s xs
fresh-unused s [] h = tt
fresh-unused s (x ∷ xs) h = (absent-unused s (s.classifier x.classifier) x.scope h.0, fresh-unused s xs h.1)

-- first one substitution, then another
abbrev pub then : Substitution → Substitution → Substitution
then s r = record { ty = λ u. apply r (s.ty u); classifier = λ c. r.classifier (s.classifier c) }

pub apply-then : (s r : Substitution) (t : TypeExpression) → apply (then s r) t ≡ apply r (apply s t)
apply-then s r int_ty = refl
apply-then s r bool_ty = refl
apply-then s r (unknown u) = refl
apply-then s r (pair_ty p q) = rw (apply-then s r p, apply-then s r q) refl
apply-then s r (function_ty p q) = rw (apply-then s r p, apply-then s r q) refl
apply-then s r (code_ty c t) = rw (apply-then s r t) refl
apply-then s r (closed_ty t) = rw (apply-then s r t) refl

-- new numbers keep equations, unused classifiers and types without code
pub Unifies-then : (s r : Substitution) (es : List TypeEquation) → Unifies s es → Unifies (then s r) es
Unifies-then s r [] h = tt
Unifies-then s r (e ∷ es) h = (
  apply-then s r e.left ∙ ap (λ t. apply r t) h.0 ∙ sym (apply-then s r e.right),
  Unifies-then s r es h.1,
)

module _ (r : NewNumbers) where
  not_in-renamed : (a : ℕ) (t : TypeExpression) → IsNotIn a t → IsNotIn (r.classifier a) (apply (renaming r) t)
  not_in-renamed a int_ty h = tt
  not_in-renamed a bool_ty h = tt
  not_in-renamed a (unknown u) h = tt
  not_in-renamed a (pair_ty s t) h = (not_in-renamed a s h.0, not_in-renamed a t h.1)
  not_in-renamed a (function_ty s t) h = (not_in-renamed a s h.0, not_in-renamed a t h.1)
  not_in-renamed a (code_ty c t) h = ((λ e. h.0 (r.one_classifier c a e)), not_in-renamed a t h.1)
  not_in-renamed a (closed_ty t) h = not_in-renamed a t h

  unused-renamed : (s : Substitution) (a : ℕ) (g : List Slot) → IsUnused a (map (note_of s) g)
      → IsUnused (r.classifier a) (map (note_of (then s (renaming r))) g)
  unused-renamed s a [] h = tt
  unused-renamed s a (plain_slot u ∷ g) h = (not_in-renamed a (s.ty u) h.0, unused-renamed s a g h.1)
  unused-renamed s a (quoted_slot c u ∷ g) h = (
    ((λ e. h.0.0 (r.one_classifier (s.classifier c) a e)), not_in-renamed a (s.ty u) h.0.1),
    unused-renamed s a g h.1,
  )

  pub AreUnused-renamed : (s : Substitution) (xs : List Close) → AreUnused s xs → AreUnused (then s (renaming r)) xs
  AreUnused-renamed s [] h = tt
  AreUnused-renamed s (x ∷ xs) h =
      (unused-renamed s (s.classifier x.classifier) x.scope h.0, AreUnused-renamed s xs h.1)

  pub no_code-renamed : (t : TypeExpression) → HoldsNoCode t → HoldsNoCode (apply (renaming r) t)
  no_code-renamed int_ty h = tt
  no_code-renamed bool_ty h = tt
  no_code-renamed (unknown u) h = tt
  no_code-renamed (pair_ty s t) h = (no_code-renamed s h.0, no_code-renamed t h.1)
  no_code-renamed (function_ty s t) h = (no_code-renamed s h.0, no_code-renamed t h.1)
  no_code-renamed (code_ty c t) h = absurd h
  no_code-renamed (closed_ty t) h = absurd h
