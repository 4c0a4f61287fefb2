use Rattle.std.proofs.Common.{◌≡◌, drop, length}
use Rattle.mw_conv.specs.Finding.{marking}
use Rattle.mw_conv.proofs.find.mark_all.Given as goal

abbrev pub invariant-loop-at : goal.invariant-loop-at
invariant-loop-at l = (length l.marks.items ≡ length l.initial.marks.items)
    × (marking l.marks.items (drop l.at l.levels) ≡ marking l.initial.marks.items l.levels)
