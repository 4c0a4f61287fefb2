use Rattle.std.proofs.Common.{◌≡◌, ◌++◌}
use Rattle.std.specs.List.{All}
use Rattle.std.proofs.Math.ListN.{drop}
use Rattle.mw_slots.specs.Receipts.{IsFetched}
use Rattle.mw_key.specs.CanonicalText.{home}
use Rattle.mw_cache.specs.Gots.{entry_text, texts_of}
use Rattle.mw_tasks.specs.Phases.{stored_texts}
use Rattle.mw_tasks.proofs.entry_phase.stored_receipts.Given as goal

abbrev pub invariant-loop-at : goal.invariant-loop-at
invariant-loop-at l = record {
  texts : stored_texts l.outcomes ≡ texts_of l.stored ++ stored_texts (drop l.at l.outcomes);
  fetched : All (IsFetched entry_text home l.cache.cells) l.stored;
}
