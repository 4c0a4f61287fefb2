-- Loaded records whose modules are stray, and answers that tell of them.
use Rattle.std.specs.Prelude.{ℕ, ◌≡◌, ◌<◌, List, length, Some, slice_get, Result, Ok, Err}
use Rattle.sha2.specs.Sha256.{sha256}
use Rattle.mw_term.specs.Terms.{Expression, KernelType}
use Rattle.mw_term.specs.Typable.{HasKernelType}
use Rattle.mw_meaning.specs.Shapes.{IsStray}
use Rattle.mw_wasm.specs.BinaryModules.{Spells}
use Rattle.mw_wasm.specs.Syntax.{PureModule}
use Rattle.mw_key.specs.CanonicalText.{IsTextOf}
use Rattle.mw_key.specs.declared.version.Version.TheVariants.{Two}
use Rattle.mw_store.specs.Loads.{Loaded, LoadState}
use Rattle.mw_cache.specs.Gots.{text_at}
use Rattle.mw_machine.specs.declared.kernels.Ran.{Ran}
use Rattle.mw_machine.specs.declared.kernels.KernelFault.{KernelFault}
use Rattle.mw_machine.specs.declared.kernels.KernelFault.TheVariants as kernel
use Rattle.mw_cached.specs.declared.fault.FunctionFault.{FunctionFault}
use Rattle.mw_cached.specs.declared.fault.FunctionFault.TheVariants as faults

-- A record was loaded that has this digest: its text is that of code at its type, and the module that its bytes spell
-- is stray for the type.
pub record IsStrayRecord (load : LoadState) (digest : List ℕ) : Type 0 where
  pub at : ℕ
  pub loaded : Loaded
  pub here : slice_get load.records at ≡ Some loaded
  pub code : Expression
  pub kind : KernelType
  pub is_text : IsTextOf loaded.text Two code kind
  pub typed : HasKernelType code kind
  pub wasm : PureModule
  pub spelled : Spells loaded.bytes wasm
  pub stray : IsStray wasm kind
  pub digest_is : sha256 loaded.text ≡ digest

-- Bad comes only of such a record, with its digest.
abbrev pub BadIsStrayRecord : LoadState → Result Ran KernelFault → Type 0
BadIsStrayRecord load (Err (kernel.Bad d)) = IsStrayRecord load d
BadIsStrayRecord load _ = Unit {0}

-- Bad tells a record that was loaded.
abbrev pub TellsRecord : LoadState → Result Ran FunctionFault → Type 0
TellsRecord load (Err (faults.Bad n)) = n < length load.records
TellsRecord load _ = Unit {0}

-- the answer as the machine is told it: Bad has the digest of the record's text
abbrev pub told_over : LoadState → Result Ran FunctionFault → Result Ran KernelFault
told_over load (Ok r) = Ok r
told_over load (Err (faults.Memory e)) = Err (kernel.Memory e)
told_over load (Err (faults.Bad n)) = Err (kernel.Bad (sha256 (text_at load n)))
