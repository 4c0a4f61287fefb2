-- A cache with receipts that it answered.
use Rattle.std.specs.Prelude.{ℕ, List, [], ◌∷◌, if◌then◌else◌}
use Rattle.std.specs.Str.{bytes_eq}
use Rattle.mw_cache.specs.Gots.{CacheState}

-- what contracts see of it: the cache, and the texts that cost nothing, those of the receipts and those that were
-- loaded
pub record HintedState : Type 0 where
  pub cache : CacheState
  pub hinted : List (List ℕ)

-- how many emissions a text costs at most: none where it is one of these, and else one
abbrev pub price_beside : List (List ℕ) → List ℕ → ℕ
price_beside [] text = 1
price_beside (hinted ∷ more) text = if bytes_eq hinted text then 0 else price_beside more text
