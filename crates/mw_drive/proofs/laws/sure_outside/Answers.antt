use Rattle.std.proofs.Common.{◌⊎◌, inl, inr, arith}
use Rattle.mw_outside.specs.Count.{Rose}
use Rattle.mw_drive.proofs.laws.sure_outside.Goals as goal

never_risen : Rose 0 0 → ⊥
never_risen (inl less) = absurd (omega (arith, less))
never_risen (inr same) = absurd (omega (arith, same))

pub returns-clause-read : goal.returns-clause-read
returns-clause-read g c told = by_cause (c.run.ensures.read told)
  where
    by_cause : {A : Type 0} → Rose 0 0 ⊎ A → A
    by_cause (inl rose) = absurd (never_risen rose)
    by_cause (inr lacks) = lacks

pub returns-clause-write : goal.returns-clause-write
returns-clause-write g c = λ told. never_risen (c.run.ensures.write told)

pub returns-clause-cache : goal.returns-clause-cache
returns-clause-cache g c = λ told. never_risen (c.run.ensures.cache told)
