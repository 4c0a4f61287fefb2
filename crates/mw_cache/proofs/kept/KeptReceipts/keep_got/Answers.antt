use Rattle.mw_cache.proofs.ReceiptSlots.{taken_are_of}
use Rattle.mw_cache.proofs.kept.KeptReceipts.keep_got.Goals as goal

pub returns-in-Own-clause-table : goal.returns-in-Own-clause-table
returns-in-Own-clause-table c = λ cache here all.
    c.keep_each.ensures.table cache.cells (taken_are_of cache c.args.got.now c.in-Own.none c.in-Own.is here) all
