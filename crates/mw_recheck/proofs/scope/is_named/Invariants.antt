use Rattle.std.proofs.Common.{◌≡◌, length}
use Rattle.mw_recheck.specs.Views.{binders_of, is_named}
use Rattle.mw_recheck.proofs.scope.is_named.Given as goal

abbrev pub invariant-loop-rest : goal.invariant-loop-rest
invariant-loop-rest l = is_named l.classifier (binders_of l.rest) ≡ is_named l.classifier (binders_of l.fn.scope)

abbrev pub decreases-loop-rest : goal.decreases-loop-rest
decreases-loop-rest l = length (binders_of l.rest)
