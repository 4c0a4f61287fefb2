use Rattle.std.proofs.Common.{◌≡◌}
use Rattle.mw_wasm.specs.Views.{code_of}
use Rattle.mw_validate.specs.Turns.{all_passes, work, body_passes, context_in}
use Rattle.mw_validate.proofs.turn.first_failing.Given as goal

abbrev pub invariant-loop-e : goal.invariant-loop-e
invariant-loop-e l = all_passes (context_in l.within) l.state ≡ body_passes (context_in l.within) (code_of l.body)

abbrev pub decreases-loop-e : goal.decreases-loop-e
decreases-loop-e l = work l.state
