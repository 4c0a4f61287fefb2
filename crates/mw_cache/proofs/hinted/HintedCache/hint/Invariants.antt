use Rattle.std.proofs.Common.{◌≡◌, ◌++◌}
use Rattle.std.proofs.Math.ListN.{drop}
use Rattle.mw_cache.specs.Gots.{texts_of, loaded_texts}
use Rattle.mw_cache.specs.Hints.{price_beside}
use Rattle.mw_cache.proofs.hinted.HintedCache.hint.Given as goal

abbrev pub invariant-loop-at : goal.invariant-loop-at
invariant-loop-at l = price_beside l.self.hinted l.text
    ≡ price_beside (texts_of (drop l.at l.self-inside.hints.now) ++ loaded_texts l.self.cache.load) l.text
