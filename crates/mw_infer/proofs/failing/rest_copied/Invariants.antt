use Rattle.std.proofs.Common.{◌≡◌, take}
use Rattle.mw_types.specs.Equations.{equations_of}
use Rattle.mw_infer.specs.Failing.{without}
use Rattle.mw_infer.proofs.failing.rest_copied.Given as goal

abbrev pub invariant-loop-at : goal.invariant-loop-at
invariant-loop-at l =
    equations_of l.rest ≡ without l.first l.end (take l.at l.owners) (take l.at (equations_of l.pairs))
