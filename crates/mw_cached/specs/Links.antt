-- Kept functions over a cache, and the loaded records of their modules.
use Rattle.std.specs.Prelude.{ℕ, ◌≡◌, Option, Some, None, slice_get}
use Rattle.mw_term.specs.Terms.{Expression, KernelType}
use Rattle.mw_term.specs.Typable.{HasKernelType}
use Rattle.mw_meaning.specs.declared.mode.Mode.{Mode}
use Rattle.mw_meaning.specs.Simplification.{in_mode}
use Rattle.mw_meaning.specs.StandingFor.{StandsFor}
use Rattle.mw_wasm.specs.BinaryModules.{Spells}
use Rattle.mw_wasm.specs.declared.modules.Module.{Module}
use Rattle.mw_wasm.specs.Views.{module_of}
use Rattle.mw_key.specs.CanonicalText.{IsTextOf, canonical_text}
use Rattle.mw_key.specs.declared.version.Version.TheVariants.{Two}
use Rattle.mw_store.specs.Loads.{Loaded as LoadedRecord, LoadState}
use Rattle.mw_cache.specs.Gots.{IsRight}
use Rattle.mw_cache.specs.Hints.{HintedState}
use Rattle.mw_cache.specs.declared.got.Got.{Got}
use Rattle.mw_cache.specs.declared.got.Got.TheVariants.{Loaded}
use Rattle.mw_cached.specs.FunctionStates.{Kept, FunctionState, run_of_kept}

-- what contracts see of functions over a cache: the cache with its hints, and the functions
pub record CachedState : Type 0 where
  pub cache : HintedState
  pub functions : FunctionState

abbrev pub cached_state : HintedState → FunctionState → CachedState
cached_state cache functions = record { cache = cache; functions = functions }

-- the number of the record that it is, if it was loaded
abbrev pub loaded_from : Got → Option ℕ
loaded_from (Loaded at) = Some at
loaded_from _ = None

-- no record of the text of what is run of code in the mode was loaded, or it has the right module
abbrev pub IsRightIn : LoadState → Mode → Expression → KernelType → Type 0
IsRightIn load mode c k = IsRight load (canonical_text Two (in_mode mode c) k)

-- The record of the number has the text of the code and type, and its bytes spell this module. Where it is right, the
-- module stands for the code.
pub record IsLinkedTo (load : LoadState) (c : Expression) (k : KernelType) (wasm : Module) (at : ℕ) : Type 0 where
  pub loaded : LoadedRecord
  pub here : slice_get load.records at ≡ Some loaded
  pub is_text : IsTextOf loaded.text Two c k
  pub typed : HasKernelType c k
  pub spelled : Spells loaded.bytes (module_of wasm)
  pub stands : IsRight load (canonical_text Two c k) → StandsFor (module_of wasm) c k

-- the same of the record that a module was loaded from, if it was
abbrev pub IsLinkedFrom : LoadState → Expression → KernelType → Module → Option ℕ → Type 0
IsLinkedFrom load c k wasm loaded = (at : ℕ) → loaded ≡ Some at → IsLinkedTo load c k wasm at

-- of a kept function, for what was run of its code in the mode
abbrev pub IsLinked : LoadState → Mode → Kept → Type 0
IsLinked load mode f = IsLinkedFrom load (in_mode mode (run_of_kept f).0) (run_of_kept f).1 f.wasm f.loaded
