use Rattle.std.proofs.Common.{◌≡◌}
use Rattle.mw_term.specs.declared.term.Base.TheVariants.{Int}
use Rattle.mw_term.specs.Terms.{base}
use Rattle.mw_tests.proofs.kernel.runs.assert_calls.Given as goal

abbrev pub invariant-loop-n : goal.invariant-loop-n
invariant-loop-n g l = l.running.argument ≡ base Int
