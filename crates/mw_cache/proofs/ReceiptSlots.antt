-- Receipts are kept one after the other.
use Rattle.std.proofs.Common.{◌≡◌, ◌⊎◌, inl, inr, ℕ, zero, suc, ◌+◌, ◌<◌, List, [], ◌∷◌, ◌++◌, length, Some, refl, sym}
use Rattle.std.proofs.Common.{◌∙◌, subst, arith}
use Rattle.std.specs.Prelude.{slice_get, slice_index_or}
use Rattle.std.specs.List.{All}
use Rattle.std.proofs.lemmas.Bool.{cases_lt}
use Rattle.std.proofs.lemmas.List.Elements.{All-push}
use Rattle.mw_slots.specs.Receipts.{Known}
use Rattle.mw_compile.specs.Entries.{Emitted}
use Rattle.mw_slots.specs.Receipts.{IsOf}
use Rattle.mw_slots.specs.declared.refused.NoRoom.{NoRoom}
use Rattle.std.proofs.lemmas.Option.{slice_get-get_or, slice_get_within, get_or_from_slice_get}
use Rattle.mw_cache.specs.declared.got.Got.{Got}
use Rattle.mw_cache.specs.declared.got.Got.TheVariants.{Own}
use Rattle.mw_cache.specs.Gots.{CacheState, IsHere}
use Rattle.mw_cache.specs.Received.{HasSlot}

-- a receipt was added, or there was one of its slot
abbrev Added : (before after : List (Known Emitted)) → Known Emitted → Type 0
Added before after r = (after ≡ before) ⊎ (after ≡ before ++ r ∷ [])

get_before : (rs : List (Known Emitted)) (x r : Known Emitted) (k : ℕ) → slice_get rs k ≡ Some r
    → slice_get (rs ++ x ∷ []) k ≡ Some r
get_before [] x r k here = absurd (cc)
get_before (y ∷ rs) x r zero here = here
get_before (y ∷ rs) x r (suc k) here = get_before rs x r k here

get_last : (rs : List (Known Emitted)) (x : Known Emitted) → slice_get (rs ++ x ∷ []) (length rs) ≡ Some x
get_last [] x = refl
get_last (y ∷ rs) x = get_last rs x

pub slot_stays : (before after : List (Known Emitted)) (x : Known Emitted) (slot : ℕ) → Added before after x
    → HasSlot before slot → HasSlot after slot
slot_stays before after x slot (inl same) h = rw same h
slot_stays before after x slot (inr more) h = rw more (h.0, h.1, get_before before x h.1 h.0 h.2, h.3)

pub all_kept : (P : Known Emitted → Type 0) (before after : List (Known Emitted)) (x : Known Emitted)
    → Added before after x → P x → All P before → All P after
all_kept P before after x (inl same) one all = rw same all
all_kept P before after x (inr more) one all = rw more (All-push P before x all one)

-- the first receipts were kept, and one more is
pub each_more : (more before after : List (Known Emitted)) (n : ℕ) (x : Known Emitted) → slice_get more n ≡ Some x
    → Added before after x
    → HasSlot after x.slot → ((k : ℕ) (r : Known Emitted) → k < n → slice_get more k ≡ Some r → HasSlot before r.slot)
    → (k : ℕ) (r : Known Emitted) → k < n + 1 → slice_get more k ≡ Some r → HasSlot after r.slot
each_more more before after n x here added last old k r less at =
    elim (cases_lt k n) [
      | inl l ↦ slot_stays before after x r.slot added (old k r l at)
      | inr g ↦
          let e : k ≡ n = omega arith in
          let same : Some x ≡ Some r = sym here ∙ subst (λ (j : ℕ). slice_get more j ≡ Some r) e at in
          let q : x ≡ r = cc in
          subst (λ (y : Known Emitted). HasSlot after y.slot) q last
    ]

-- the receipts of a window that had no room are of the table
pub taken_are_of : (cache : CacheState) (got : Got) (n : NoRoom Emitted) → got ≡ Own n → IsHere cache got
    → All (IsOf cache.cells) n.seen
taken_are_of cache got n is here = λ k d less.
    let h : IsHere cache (Own n) = subst (IsHere cache) is here in
    (h.1.taken k (slice_index_or n.seen k d) (slice_get-get_or n.seen k d less)).table

pub one_of : (P : Known Emitted → Type 0) (rs : List (Known Emitted)) (k : ℕ) (r : Known Emitted)
    → slice_get rs k ≡ Some r → All P rs → P r
one_of P rs k r here all = subst P (get_or_from_slice_get rs k r r here) (all k r (slice_get_within rs k r here))
