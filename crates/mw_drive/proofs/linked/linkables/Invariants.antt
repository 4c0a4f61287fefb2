use Rattle.std.specs.Vec.Iter.{into_iter_items}
use Rattle.mw_link.specs.Views.{kernels_of}
use Rattle.mw_drive.proofs.KernelsToLink.{Gathers}
use Rattle.mw_drive.proofs.linked.linkables.Given as goal

abbrev pub invariant-loop-item : goal.invariant-loop-item
invariant-loop-item l = Gathers l.fn.outcomes l.yielded (kernels_of l.linkables.items) (into_iter_items l.left)
