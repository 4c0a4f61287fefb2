use Rattle.std.proofs.Common.{◌≡◌, ◌++◌, drop}
use Rattle.mw_conv.specs.Finding.{places}
use Rattle.mw_conv.proofs.code.places_of.Given as goal

abbrev pub invariant-loop-at : goal.invariant-loop-at
invariant-loop-at l = l.places ++ places l.context.items (drop l.at l.levels) ≡ places l.context.items l.levels
