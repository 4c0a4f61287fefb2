-- The slots of a window that hold other names.
use Rattle.std.proofs.Common.{◌≡◌, ◌≢◌, ℕ, ◌<◌, List, [], ◌∷◌, ◌++◌, length, map, Some, refl, ap, sym, ◌∙◌, subst, inl}
use Rattle.std.proofs.Common.{inr, slice_get, get_or}
use Rattle.std.proofs.lemmas.Option.{none-some}
use Rattle.mw_slots.specs.Receipts.{Known, IsOther, AllOther, Ends, IsTaken, AllTaken, window}
use Rattle.std.proofs.lemmas.List.{map-append, length-map}
use Rattle.mw_slots.proofs.Lists.{slice_get_snoc, slice_get-image}

module _ {X : Type 0} (name_of : X → List ℕ) (cells : List ℕ) (start : ℕ) (name : List ℕ) where
  pub others_more : (ps : List (ℕ × X)) (p : ℕ × X) → AllOther name_of cells start name ps
      → IsOther name_of cells start name (length ps) p → AllOther name_of cells start name (ps ++ p ∷ [])
  others_more ps p all one k q h =
      elim (slice_get_snoc ps p k q h) [
        | inl a ↦ all k q a
        | inr b ↦ subst (λ (j : ℕ). IsOther name_of cells start name j q) (sym b.0)
            (subst (IsOther name_of cells start name (length ps)) b.1 one)
      ]

  -- the step of a loop that passes over slots
  pub others_pushed : {A : Type 0} (f : A → ℕ × X) (ws : List A) (w : A) (n at : ℕ) → n ≡ length ws
      → at ≡ window cells start n → slice_get cells at ≡ Some (f w).0 → (name_of (f w).1 ≢ name)
      → AllOther name_of cells start name (map f ws) → AllOther name_of cells start name (map f (ws ++ w ∷ []))
  others_pushed f ws w n at count is cell other all =
      let places : at ≡ window cells start (length (map f ws)) =
      is ∙ ap (window cells start) (count ∙ sym (length-map ws f)) in
      let here : IsOther name_of cells start name (length (map f ws)) (f w) =
      (subst (λ (k : ℕ). slice_get cells k ≡ Some (f w).0) places cell, other) in
      subst (AllOther name_of cells start name) (sym (map-append f ws (w ∷ []))) (others_more (map f ws) (f w) all here)

  -- how a loop over slots ends where it finds the name_of
  pub ends_here : {A : Type 0} (f : A → ℕ × X) (ws : List A) (w : A) (n at : ℕ) → n ≡ length ws → n < 16
      → at ≡ window cells start n → slice_get cells at ≡ Some (f w).0 → name_of (f w).1 ≡ name
      → Ends name_of cells start name (map f ws) (f w)
  ends_here f ws w n at count near is cell same =
      let long : n ≡ length (map f ws) = count ∙ sym (length-map ws f) in
      let places : at ≡ window cells start (length (map f ws)) = is ∙ ap (window cells start) long in record {
        near = subst (λ (k : ℕ). k < 16) long near;
        cell = subst (λ (k : ℕ). slice_get cells k ≡ Some (f w).0) places cell;
        same = same;
      }

  pub full_none : (rs : List (Known X)) → rs ≡ [] → AllTaken name_of cells start name rs
  full_none rs none k r h = absurd (none-some r (subst (λ (zs : List (Known X)). slice_get zs k ≡ Some r) none h))

  -- the step of a loop that makes receipts of all slots
  pub full_more : {A : Type 0} (f : A → ℕ × X) (ws : List A) (w v : A) (rs rs' : List (Known X)) (r : Known X) (at : ℕ)
      → at < length ws → w ≡ get_or ws at w → f v ≡ f w → at ≡ length rs → r.slot ≡ window cells start at
      → r.cell ≡ (f v).0 → r.entry ≡ (f v).1 → rs' ≡ rs ++ r ∷ [] → AllOther name_of cells start name (map f ws)
      → AllTaken name_of cells start name rs → AllTaken name_of cells start name rs'
  full_more f ws w v rs rs' r at near is copy count slot cell entry pushed others full k q h =
      let one : slice_get (map f ws) at ≡ Some (f w) = slice_get-image f ws (map f ws) at w refl
      (subst (λ (n : ℕ). at < n) (sym (length-map ws f)) near) is in
      let other : IsOther name_of cells start name at (f w) = others at (f w) one in
      let here : IsTaken name_of cells start name at r = record {
        table = subst (λ (n : ℕ). slice_get cells n ≡ Some r.cell) (sym slot)
            (other.0 ∙ ap (λ (n : ℕ). Some n) (ap (λ (p : ℕ × X). p.0) (sym copy) ∙ sym cell));
        slot_is = slot;
        other = λ same. other.1 (ap name_of (ap (λ (p : ℕ × X). p.1) (sym copy) ∙ sym entry) ∙ same);
      } in
      elim (slice_get_snoc rs r k q (subst (λ (zs : List (Known X)). slice_get zs k ≡ Some q) pushed h)) [
        | inl a ↦ full k q a
        | inr b ↦ subst (λ (n : ℕ). IsTaken name_of cells start name n q) (count ∙ sym b.0)
            (subst (IsTaken name_of cells start name at) b.1 here)
      ]
