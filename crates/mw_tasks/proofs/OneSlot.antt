-- Outcomes of one text are in one slot.
use Rattle.std.proofs.Common.{◌≡◌, ℕ, ◌+◌, List, length, Some, inl, inr, ◌∙◌, subst, arith}
use Rattle.std.specs.Prelude.{get_or, slice_get}
use Rattle.std.proofs.lemmas.Bool.{cases_lt}
use Rattle.std.proofs.lemmas.Option.{get_or_from_slice_get}
use Rattle.mw_tasks.specs.declared.outcome.ItemOutcome.{ItemOutcome}
use Rattle.mw_tasks.specs.Phases.{HaveOneModule}
use Rattle.mw_tasks.specs.Agreeing.{AgreesWithFirst, FirstAgree}

pub with_more : (outcomes : List ItemOutcome) (at n : ℕ) (x y : ItemOutcome) → x ≡ get_or outcomes at x
    → y ≡ get_or outcomes n y → HaveOneModule x y
    → AgreesWithFirst outcomes at n → AgreesWithFirst outcomes at (n + 1)
with_more outcomes at n x y one two same old k a b h p q =
    elim (cases_lt k n) [
      | inl l ↦ old k a b l p q
      | inr r ↦
          let is : k ≡ n = omega arith in
          let first : x ≡ a = one ∙ get_or_from_slice_get outcomes at a x p in
          let second : y ≡ b = two ∙ get_or_from_slice_get outcomes n b y
          (subst (λ (j : ℕ). slice_get outcomes j ≡ Some b) is q) in
          subst (λ (d : ItemOutcome). HaveOneModule a d) second
          (subst (λ (d : ItemOutcome). HaveOneModule d y) first same)
    ]

pub all_more : (outcomes : List ItemOutcome) (n : ℕ) → AgreesWithFirst outcomes n (length outcomes)
    → FirstAgree outcomes n → FirstAgree outcomes (n + 1)
all_more outcomes n one old at h =
    elim (cases_lt at n) [
      | inl l ↦ old at l
      | inr r ↦ subst (λ (j : ℕ). AgreesWithFirst outcomes j (length outcomes))
          (omega arith) one
    ]
