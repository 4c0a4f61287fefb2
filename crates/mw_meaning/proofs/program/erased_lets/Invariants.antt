use Rattle.std.proofs.Common.{◌≡◌, ◌++◌, drop}
use Rattle.mw_meaning.specs.ErasedPrograms.{lets_of, item_names, let_names}
use Rattle.mw_meaning.specs.NewNames.{naming_of, definitions}
use Rattle.mw_meaning.proofs.program.erased_lets.Given as goal

abbrev pub invariant-loop-item : goal.invariant-loop-item
invariant-loop-item l = record {
  lets : definitions l.lets ++ lets_of (naming_of l.names) (definitions (drop l.item-index l.items))
      ≡ lets_of (naming_of l.names) (definitions l.items);
  named : item_names l.lets ++ let_names (drop l.item-index l.items) ≡ let_names l.items;
}
