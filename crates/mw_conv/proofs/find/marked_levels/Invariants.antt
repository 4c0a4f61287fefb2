use Rattle.std.proofs.Common.{◌≡◌, ◌++◌, drop}
use Rattle.mw_conv.specs.Finding.{marked}
use Rattle.mw_conv.proofs.find.marked_levels.Given as goal

abbrev pub invariant-loop-level : goal.invariant-loop-level
invariant-loop-level l = l.levels ++ marked (drop l.level l.marks.items) l.level ≡ marked l.marks.items 0
