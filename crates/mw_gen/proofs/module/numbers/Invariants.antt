use Rattle.std.proofs.Common.{◌≡◌}
use Rattle.mw_gen.specs.Generate.{counting}
use Rattle.mw_gen.proofs.module.numbers.Given as goal

abbrev pub invariant-loop-number : goal.invariant-loop-number
invariant-loop-number l = l.numbers ≡ counting 0 l.number
