use Rattle.std.proofs.Common.{◌≡◌}
use Rattle.mw_term.specs.Terms.{ground_of}
use Rattle.mw_rows.proofs.kernels.push_calls.Given as goal

abbrev pub invariant-loop-field : goal.invariant-loop-field
invariant-loop-field l = l.running.argument ≡ ground_of l.argument
