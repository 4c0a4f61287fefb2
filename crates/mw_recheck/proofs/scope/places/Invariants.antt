use Rattle.std.proofs.Common.{◌≡◌, ◌++◌, length}
use Rattle.mw_recheck.specs.Views.{binders_of, places_of}
use Rattle.mw_recheck.proofs.scope.places.Given as goal

abbrev pub invariant-loop-rest : goal.invariant-loop-rest
invariant-loop-rest l = l.places.items ++ places_of (binders_of l.rest) ≡ places_of (binders_of l.fn.scope)

abbrev pub decreases-loop-rest : goal.decreases-loop-rest
decreases-loop-rest l = length (binders_of l.rest)
