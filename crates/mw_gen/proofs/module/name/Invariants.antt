use Rattle.std.proofs.Common.{◌≡◌, ◌++◌, drop}
use Rattle.mw_gen.proofs.module.name.Given as goal

abbrev pub invariant-loop-letter : goal.invariant-loop-letter
invariant-loop-letter l = (l.name ++ drop l.letter-index l.letter-items ≡ l.fn.letters)
