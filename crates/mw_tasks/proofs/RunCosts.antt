-- What runs cost.
use Rattle.std.proofs.Common.{◌≡◌, ap}
use Rattle.mw_meaning.specs.declared.mode.Mode.{Mode}
use Rattle.mw_meaning.specs.Simplification.{in_mode}
use Rattle.mw_meaning.specs.StagedMeaning.{Runs}
use Rattle.mw_machine.specs.KernelCalls.{prices}
use Rattle.mw_key.specs.CanonicalText.{canonical_text}
use Rattle.mw_key.specs.declared.version.Version.TheVariants.{Two}
use Rattle.mw_cache.specs.Gots.{loaded_texts}
use Rattle.mw_cache.specs.Hints.{HintedState, price_beside}
use Rattle.mw_cached.specs.Following.{price_in}
use Rattle.mw_tasks.specs.RightRuns.{unloaded_price}

-- without other hints than the loaded texts
pub prices_are : (cache : HintedState) (mode : Mode) → cache.hinted ≡ loaded_texts cache.cache.load → (rs : Runs)
    → prices (λ c k. price_in cache mode c k) rs ≡ prices (unloaded_price mode cache.cache.load) rs
prices_are cache mode unhinted rs =
    ap (λ texts. prices (λ c k. price_beside texts (canonical_text Two (in_mode mode c) k)) rs) unhinted
