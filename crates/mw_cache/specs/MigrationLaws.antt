-- Laws of migrations.
use Rattle.std.specs.Prelude.{◌≡◌, ℕ, List, Contains}
use Rattle.mw_store.specs.Records.{Kept}
use Rattle.mw_store.specs.Loads.{Loaded, LoadState}
use Rattle.mw_compile.specs.Emission.{IsEmissionOf}
use Rattle.mw_cache.specs.Gots.{IsLoadedText}
use Rattle.mw_cache.specs.Migrating.{Migrate}

abbrev pub OneMigration : Type 0
OneMigration = (load : LoadState) (ls : List Loaded) (m n : ℕ) (js ks : List Kept) → Migrate load ls m js
    → Migrate load ls n ks → (m ≡ n) × (js ≡ ks)

-- a record that is added has the emission of its text, which wasn't loaded
abbrev pub MigratedAreNew : Type 0
MigratedAreNew = (load : LoadState) (ls : List Loaded) (n : ℕ) (ks : List Kept) → Migrate load ls n ks → (k : Kept)
    → Contains ks k → IsEmissionOf k.bytes k.text × (IsLoadedText load k.text → ⊥)
