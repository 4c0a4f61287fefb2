use Rattle.mw_cache.proofs.LoadedTexts.{loaded_at}
use Rattle.mw_cache.proofs.ModuleMap.{gathered_loaded}
use Rattle.mw_cache.proofs.cache.Cache.gather_got.Goals as goal

pub returns-in-Loaded : goal.returns-in-Loaded
returns-in-Loaded c = λ texts g.
    let load = c.args.self.now.load in
    rw c.in-Loaded.is
    (gathered_loaded load texts _ _ (loaded_at load c.in-Loaded.field-0 (rw c.in-Loaded.is at c.requires)) g)

pub returns-in-Stored : goal.returns-in-Stored
returns-in-Stored c = rw c.in-Stored.is (rw c.entry_of.ensures at c.gather.ensures)

pub returns-in-Own : goal.returns-in-Own
returns-in-Own c = rw c.in-Own.is (rw c.deref.ensures at c.gather-in-Own.ensures)
