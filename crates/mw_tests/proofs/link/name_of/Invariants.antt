use Rattle.std.proofs.Common.{◌≡◌, ◌++◌, drop}
use Rattle.mw_tests.proofs.link.name_of.Given as goal

abbrev pub invariant-loop-letter : goal.invariant-loop-letter
invariant-loop-letter l = (l.name ++ drop l.letter-index l.letters ≡ l.letters)
