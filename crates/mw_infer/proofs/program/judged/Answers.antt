use Rattle.std.proofs.Common.{refl, ap}
use Rattle.mw_term.specs.declared.refusal.Refusal.TheVariants.{NotClosed}
use Rattle.mw_infer.specs.Checking.{ill_typed, too_big, not_closed, unsolvable, oversized, unclosed}
use Rattle.mw_infer.proofs.program.judged.Goals as goal

pub returns-in-IllTyped-clause-refused : goal.returns-in-IllTyped-clause-refused
returns-in-IllTyped-clause-refused c = let j = rw c.in-IllTyped.is at c.in_ok-known.ensures.judged in
    (ill_typed, unsolvable j.1, refl)

pub returns-in-TooBig-clause-refused : goal.returns-in-TooBig-clause-refused
returns-in-TooBig-clause-refused c = let j = rw c.in-TooBig.is at c.in_ok-known.ensures.judged in
    (too_big, oversized j.1, refl)

pub returns-in-NotClosed-clause-refused : goal.returns-in-NotClosed-clause-refused
returns-in-NotClosed-clause-refused c = let j = rw c.in-NotClosed.is at c.in_ok-known.ensures.judged in
    (not_closed j.2.0.at, unclosed j.1.general j.1.small j.2.1, ap (λ at. NotClosed at) j.2.2)
