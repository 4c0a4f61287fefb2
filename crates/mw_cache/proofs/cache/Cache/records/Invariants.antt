use Rattle.std.proofs.Common.{◌++◌, map, take}
use Rattle.mw_cache.specs.Gots.{texts_of, text_in}
use Rattle.mw_cache.specs.Gathering.{kept_at, IsGathered}
use Rattle.mw_cache.proofs.cache.Cache.records.Given as goal

abbrev pub invariant-loop-receipt : goal.invariant-loop-receipt
invariant-loop-receipt l = IsGathered l.self.load (texts_of (take l.receipt-index l.receipts))
    (map kept_at l.modules.entries)

abbrev pub invariant-loop-got : goal.invariant-loop-got
invariant-loop-got l =
    IsGathered l.self.load (texts_of l.receipts ++ map (λ g. text_in l.self g.now) (take l.got-index l.gots))
    (map kept_at l.modules.entries)
