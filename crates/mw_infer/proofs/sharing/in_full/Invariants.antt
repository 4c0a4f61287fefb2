use Rattle.std.proofs.Common.{◌≡◌, map}
use Rattle.mw_types.specs.Equations.{equations_of}
use Rattle.mw_infer.specs.Sharing.{meaning}
use Rattle.mw_infer.specs.Views.{tops_of}
use Rattle.mw_infer.proofs.sharing.in_full.Given as goal

abbrev pub invariant-loop-one : goal.invariant-loop-one
invariant-loop-one l = equations_of l.pairs ≡ map (meaning (tops_of l.names)) l.yielded
