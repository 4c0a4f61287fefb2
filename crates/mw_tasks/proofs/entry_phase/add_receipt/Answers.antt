use Rattle.std.proofs.Common.{sym, subst}
use Rattle.mw_slots.specs.Receipts.{IsFetched}
use Rattle.mw_key.specs.CanonicalText.{home}
use Rattle.mw_cache.specs.Gots.{entry_text, IsAnswered}
use Rattle.mw_tasks.proofs.ModuleReceipts.{all_pushed}
use Rattle.mw_tasks.proofs.entry_phase.add_receipt.Goals as goal

pub returns-in_ok-again-in-Stored-clause-fetched : goal.returns-in_ok-again-in-Stored-clause-fetched
returns-in_ok-again-in-Stored-clause-fetched c = λ old.
    let cells = c.args.cache.now.cells in
    all_pushed (IsFetched entry_text home cells) c.push.result c.args.stored.now c.push.new.self
    c.in_ok-again-in-Stored.field-0 c.push.ensures.ok
    (subst (IsFetched entry_text home cells) (sym c.in_ok-again-in-Stored.ensures)
    (subst (IsAnswered c.args.cache.now) c.in-Stored.is c.requires)) old
