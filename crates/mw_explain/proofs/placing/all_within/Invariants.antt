use Rattle.std.specs.Prelude.{All}
use Rattle.mw_explain.specs.Placing.{IsWithin}
use Rattle.mw_explain.proofs.placing.all_within.Given as goal

abbrev pub invariant-loop-span : goal.invariant-loop-span
invariant-loop-span l = All (IsWithin l.length) l.kept.items
