use Rattle.std.proofs.Common.{◌≡◌, []}
use Rattle.mw_types.specs.Walks.{SomeSized}
use Rattle.mw_types.proofs.walk.sizes.Given as goal

abbrev pub invariant-loop-node : goal.invariant-loop-node
invariant-loop-node l = SomeSized l.state l.marks.items l.all.items l.node × (l.path.items ≡ [])
