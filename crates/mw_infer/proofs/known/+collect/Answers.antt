use Rattle.std.proofs.Common.{inl, inr}
use Rattle.mw_infer.proofs.Emission.{on-ok}
use Rattle.mw_infer.proofs.Knowing.{collects-function, collects-pair}
use Rattle.mw_infer.proofs.known.+collect.Goals as goal

pub returns-in_ok-collect-in-Pair : goal.returns-in_ok-collect-in-Pair
returns-in_ok-collect-in-Pair t c = elim c.in-Pair.is [
  | inl e ↦ rw e
      (on-ok c.collect-in-Pair-2.result
      (λ h. collects-pair _ _ _ _ _ (rw c.deref-in-Pair.ensures at c.in_ok-collect-in-Pair.ensures)
      (rw c.deref-in-Pair-2.ensures at h))
      c.collect-in-Pair-2.ensures)
  | inr e ↦ rw e
      (on-ok c.collect-in-Pair-2.result
      (λ h. collects-function _ _ _ _ _ (rw c.deref-in-Pair.ensures at c.in_ok-collect-in-Pair.ensures)
      (rw c.deref-in-Pair-2.ensures at h))
      c.collect-in-Pair-2.ensures)
]
