-- Receipts of what was asked for, as more is asked for.
use Rattle.std.specs.Prelude.{ℕ, ◌≡◌, List, [], ◌∷◌, ◌++◌}
use Rattle.std.proofs.Common.{◌∙◌, sym, ap}
use Rattle.std.proofs.lemmas.List.{append_assoc, append-nil}
use Rattle.mw_slots.specs.Receipts.{Known}
use Rattle.mw_compile.specs.Entries.{Emitted}
use Rattle.mw_cache.specs.declared.got.Got.{Got}
use Rattle.mw_cache.specs.declared.got.Got.TheVariants.{Loaded, Stored, Own}
use Rattle.mw_cache.specs.Received.{HasSlot, IsReceived, AreAllReceived, ReceivesSince}

-- each slot that has a receipt still has one
abbrev pub KeepsSlots : (before after : List (Known Emitted)) → Type 0
KeepsSlots before after = (slot : ℕ) → HasSlot before slot → HasSlot after slot

-- so what was received still is
pub still_received : (before after : List (Known Emitted)) → KeepsSlots before after → (got : Got)
    → IsReceived before got → IsReceived after got
still_received before after keeps (Loaded at) h = tt
still_received before after keeps (Stored r) h = keeps r.slot h
still_received before after keeps (Own n) h = λ k r at. keeps r.slot (h k r at)

pub all_still_received : (before after : List (Known Emitted)) → KeepsSlots before after → (gots : List Got)
    → AreAllReceived before gots → AreAllReceived after gots
all_still_received before after keeps [] h = tt
all_still_received before after keeps (got ∷ gots) h =
    (still_received before after keeps got h.0, all_still_received before after keeps gots h.1)

pub both_received : (receipts : List (Known Emitted)) (front back : List Got) → AreAllReceived receipts front
    → AreAllReceived receipts back → AreAllReceived receipts (front ++ back)
both_received receipts [] back p q = q
both_received receipts (got ∷ front) back p q = (p.0, both_received receipts front back p.1 q)

-- nothing was asked for
pub nothing_since : (receipts : List (Known Emitted)) (before after : List Got) → after ≡ before
    → ReceivesSince receipts before after
nothing_since receipts before after same = ([], same ∙ sym (append-nil before), tt)

-- one module was asked for, and is received
pub one_since : (receipts : List (Known Emitted)) (before after : List Got) (got : Got) → after ≡ before ++ got ∷ []
    → IsReceived receipts got → ReceivesSince receipts before after
one_since receipts before after got more one = (got ∷ [], more, (one, tt))

-- one thing after another
pub since_through : (some all : List (Known Emitted)) → KeepsSlots some all → (a b c : List Got)
    → ReceivesSince some a b → ReceivesSince all b c → ReceivesSince all a c
since_through some all keeps a b c p q = (
  p.0 ++ q.0,
  q.1 ∙ (ap (λ (gots : List Got). gots ++ q.0) p.1 ∙ append_assoc a p.0 q.0),
  both_received all p.0 q.0 (all_still_received some all keeps p.0 p.2) q.2,
)
