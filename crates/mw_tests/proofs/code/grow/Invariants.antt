use Rattle.mw_code.specs.Reading.{IsDownward}
use Rattle.mw_tests.proofs.code.grow.Given as goal

abbrev pub invariant-loop : goal.invariant-loop
invariant-loop l = IsDownward l.pool.items
