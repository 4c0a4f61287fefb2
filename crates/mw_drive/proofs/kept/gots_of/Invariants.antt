use Rattle.std.proofs.Common.{◌≡◌, map, take, All}
use Rattle.std.specs.List.{AllByRecursion}
use Rattle.mw_cache.specs.Gots.{CacheState, IsHere, text_in}
use Rattle.mw_drive.specs.HeldFiles.{texts_built}
use Rattle.mw_drive.specs.ProgramRuns.{HasModuleHere}
use Rattle.mw_drive.proofs.kept.gots_of.Given as goal

abbrev pub invariant-loop-kernel : goal.invariant-loop-kernel
invariant-loop-kernel l = record {
  texts : (cache : CacheState)
      → map (λ g. text_in cache g.now) l.gots.items ≡ texts_built cache (take l.kernel-index l.built);
  here : (cache : CacheState) → AllByRecursion (HasModuleHere cache) l.built
      → All (λ g. IsHere cache g.now) l.gots.items;
}
