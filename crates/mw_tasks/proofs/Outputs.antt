-- The outputs are gathered one by one.
use Rattle.std.proofs.Common.{◌≡◌, ◌≤◌, ◌+◌, ℕ, List, [], ◌∷◌, ◌++◌, length, refl, sym, ap, ◌∙◌, subst, arith}
use Rattle.std.specs.List.{All}
use Rattle.std.proofs.lemmas.List.{map-append, append_assoc, append-nil}
use Rattle.std.proofs.lemmas.List.Elements.{All-push, All-head, All-tail, All-cons}
use Rattle.mw_slots.specs.Receipts.{Known, IsOf}
use Rattle.mw_compile.specs.Entries.{Emitted}
use Rattle.mw_cache.specs.declared.got.Got.{Got}
use Rattle.mw_cache.specs.Received.{HasSlot, AreReceived}
use Rattle.mw_tasks.specs.declared.job.Done.{Done}
use Rattle.mw_tasks.specs.declared.outcome.ItemOutcome.{ItemOutcome}
use Rattle.mw_tasks.specs.Gathering.{outcomes_of, emitted_by, asked_by, HasAllSlots}

-- of all outputs, those before the ones that are left are gathered
pub record IsGathered (all left : List Done) (outcomes : List ItemOutcome) (receipts : List (Known Emitted))
    (emitted : ℕ) (asked : List Got) : Type 0 where
  pub before : List Done
  pub same : before ++ left ≡ all
  pub outcomes_are : outcomes ≡ outcomes_of before
  pub table : (cells : List ℕ) → All (λ (d : Done). All (IsOf cells) d.stored) before → All (IsOf cells) receipts
  pub slots : All (HasAllSlots receipts) before
  pub count : emitted ≤ emitted_by before
  pub asked_are : asked ≡ asked_by before

split_all : {X : Type 0} (P : X → Type 0) (xs : List X) (x : X) → All P (xs ++ x ∷ []) → All P xs × P x
split_all P [] x h = (λ k d less. absurd (omega arith), All-head P x [] h)
split_all P (y ∷ xs) x h =
    let rest = split_all P xs x (All-tail P y (xs ++ x ∷ []) h) in
    (All-cons P y xs (All-head P y (xs ++ x ∷ []) h) rest.0, rest.1)

emitted_push : (all : List Done) (done : Done) → emitted_by (all ++ done ∷ []) ≡ emitted_by all + done.emitted
emitted_push [] done = omega arith
emitted_push (x ∷ all) done = let rest = emitted_push all done in omega (arith, rest)

asked_push : (all : List Done) (done : Done) → asked_by (all ++ done ∷ []) ≡ asked_by all ++ done.asked
asked_push [] done = append-nil done.asked
asked_push (x ∷ all) done =
    ap (λ (gots : List Got). x.asked ++ gots) (asked_push all done)
    ∙ sym (append_assoc x.asked (asked_by all) done.asked)

all_slots : (receipts more : List (Known Emitted)) (before : List Done)
    → ((slot : ℕ) → HasSlot receipts slot → HasSlot more slot)
    → All (HasAllSlots receipts) before → All (HasAllSlots more) before
all_slots receipts more before stay old = λ k d less slot h. stay slot (old k d less slot h)

received_slots : (receipts : List (Known Emitted)) (done : Done) → AreReceived receipts done.stored
    → HasAllSlots receipts done
received_slots receipts done received slot h = subst (HasSlot receipts) h.3 (received h.0 h.1 h.2)

pub next_gathered : (all left : List Done) (outcomes more : List ItemOutcome) (receipts kept : List (Known Emitted))
    (emitted sum : ℕ) (asked gots : List Got) (done : Done)
    → IsGathered all (done ∷ left) outcomes receipts emitted asked → more ≡ outcomes ++ done.outcome ∷ []
    → ((cells : List ℕ) → All (IsOf cells) done.stored → All (IsOf cells) receipts → All (IsOf cells) kept)
    → ((slot : ℕ) → HasSlot receipts slot → HasSlot kept slot) → AreReceived kept done.stored
    → sum ≤ emitted + done.emitted → gots ≡ asked ++ done.asked
    → IsGathered all left more kept sum gots
next_gathered all left outcomes more receipts kept emitted sum asked gots done g pushed table stay received count
    joined = record {
      before = g.before ++ done ∷ [];
      same = append_assoc g.before (done ∷ []) left ∙ g.same;
      outcomes_are = pushed ∙ (ap (λ xs. xs ++ done.outcome ∷ []) g.outcomes_are
          ∙ sym (map-append (λ (d : Done). d.outcome) g.before (done ∷ [])));
      table = λ cells all_of.
          let parts = split_all (λ (d : Done). All (IsOf cells) d.stored) g.before done all_of in
          table cells parts.1 (g.table cells parts.0);
      slots = All-push (HasAllSlots kept) g.before done (all_slots receipts kept g.before stay g.slots)
          (received_slots kept done received);
      count = let sums = emitted_push g.before done in let old = g.count in omega (arith, sums, old, count);
      asked_are = joined ∙ (ap (λ (some : List Got). some ++ done.asked) g.asked_are ∙ sym (asked_push g.before done));
    }

-- with none left all are gathered
module _ (all : List Done) (outcomes : List ItemOutcome) (receipts : List (Known Emitted)) (emitted : ℕ)
    (asked : List Got) (g : IsGathered all [] outcomes receipts emitted asked) where
  whole : g.before ≡ all
  whole = sym (append-nil g.before) ∙ g.same

  pub whole_slots : All (HasAllSlots receipts) all
  whole_slots = subst (All (HasAllSlots receipts)) whole g.slots

  pub whole_asked : asked ≡ asked_by all
  whole_asked = g.asked_are ∙ ap asked_by whole

pub none_left : {X : Type 0} (left : List X) → length left ≡ 0 → left ≡ []
none_left [] h = refl
none_left (x ∷ left) h = absurd (omega (arith, h))
