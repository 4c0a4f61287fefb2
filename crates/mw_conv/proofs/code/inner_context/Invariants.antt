use Rattle.std.proofs.Common.{◌≡◌, drop, length}
use Rattle.mw_conv.specs.Finding.{freeing}
use Rattle.mw_conv.proofs.code.inner_context.Given as goal

abbrev pub invariant-loop-at : goal.invariant-loop-at
invariant-loop-at l = (length l.inner.items ≡ length l.context.items)
    × (freeing l.inner.items (drop l.at l.levels) l.at ≡ freeing l.context.items l.levels 0)
