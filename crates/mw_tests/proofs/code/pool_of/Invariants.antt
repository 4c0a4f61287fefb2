use Rattle.mw_code.specs.Reading.{IsDownward}
use Rattle.mw_tests.proofs.code.pool_of.Given as goal

abbrev pub invariant-loop-node : goal.invariant-loop-node
invariant-loop-node l = IsDownward l.pool.items
