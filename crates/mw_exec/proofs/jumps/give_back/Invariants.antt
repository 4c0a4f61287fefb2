use Rattle.std.proofs.Common.{◌≡◌, length}
use Rattle.mw_exec.specs.Turns.{PassedForReturn}
use Rattle.mw_exec.proofs.jumps.give_back.Given as goal

abbrev pub invariant-loop-waiting : goal.invariant-loop-waiting
invariant-loop-waiting l = PassedForReturn l.initial.state l.state × (l.from ≡ l.initial.state.height)

abbrev pub decreases-loop-waiting : goal.decreases-loop-waiting
decreases-loop-waiting l = length l.state.waiting.items
