-- Receipts of one name_of have one slot.
use Rattle.std.proofs.Common.{◌≡◌, ◌≢◌, ℕ, ◌<◌, List, length, map, Some, ap, sym, ◌∙◌, subst, slice_get, get_or}
use Rattle.std.proofs.lemmas.List.{length-map}
use Rattle.std.proofs.lemmas.Option.{same_Some}
use Rattle.mw_slots.specs.Receipts.{Known, IsFetched, window}
use Rattle.mw_slots.proofs.Lists.{slice_get-image}

module _ {X : Type 0} (name_of : X → List ℕ) (home : List ℕ → ℕ) (cells : List ℕ) where
  -- one receipt's slot was passed over by another of the same name_of
  pub passed_over : {A : Type 0} (f : A → ℕ × X) (a b : Known X) (ws vs : List A) (n : ℕ) (w : A) → a.passed ≡ map f ws
      → b.passed ≡ map f vs → n ≡ length ws → n < length vs → w ≡ get_or vs n w
      → IsFetched name_of home cells a → IsFetched name_of home cells b → name_of a.entry ≡ name_of b.entry
      → ((f w).0 ≡ a.cell) × (name_of (f w).1 ≢ name_of a.entry)
  passed_over f a b ws vs n w pa pb count near is fa fb same =
      let long : n ≡ length a.passed = count ∙ sym (length-map ws f) ∙ sym (ap length pa) in
      let at : slice_get b.passed n ≡ Some (f w) = slice_get-image f vs b.passed n w (sym pb)
      (subst (λ (m : ℕ). n < m) (sym (length-map vs f) ∙ sym (ap length pb)) near) is in
      let o = fb.others n (f w) at in
      let slot : a.slot ≡ window cells (home (name_of b.entry)) n = fa.slot_is
      ∙ (λ i. window cells (home (same i)) (sym long i)) in
      (same_Some (f w).0 a.cell (sym o.0 ∙ ap (slice_get cells) (sym slot) ∙ fa.table), λ e. o.1 (e ∙ same))

  -- receipts that passed over pa many
  pub same_slot : {A : Type 0} (f : A → ℕ × X) (a b : Known X) (ws vs : List A) → a.passed ≡ map f ws
      → b.passed ≡ map f vs → length ws ≡ length vs
      → IsFetched name_of home cells a → IsFetched name_of home cells b → name_of a.entry ≡ name_of b.entry
      → a.slot ≡ b.slot
  same_slot f a b ws vs pa pb count fa fb same =
      let long : length a.passed ≡ length b.passed = ap length pa ∙ length-map ws f ∙ count ∙ sym (length-map vs f)
      ∙ sym (ap length pb) in
      fa.slot_is ∙ (λ i. window cells (home (same i)) (long i)) ∙ sym fb.slot_is
