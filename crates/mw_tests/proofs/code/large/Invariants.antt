use Rattle.mw_code.specs.Reading.{IsDownward}
use Rattle.mw_tests.proofs.code.large.Given as goal

abbrev pub invariant-loop-step : goal.invariant-loop-step
invariant-loop-step l = IsDownward l.pool.items
