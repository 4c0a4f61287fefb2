use Rattle.mw_cache.proofs.ModuleMap.{rising}
use Rattle.mw_cache.proofs.records.records_of.Goals as goal

pub returns-clause-rise : goal.returns-clause-rise
returns-clause-rise c = rising c.args.modules.now.entries c.into_iter-text-iterator.ensures.into_iter_gives.5
