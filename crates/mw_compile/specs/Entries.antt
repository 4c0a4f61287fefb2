-- What an entry holds, and what it keeps.
use Rattle.std.specs.Prelude.{ℕ, ◌≡◌, ◌<◌, ◌^◌, List, length}
use Rattle.mw_term.specs.Terms.{Expression, KernelType}
use Rattle.mw_wasm.specs.declared.modules.Module.{Module}
use Rattle.mw_wasm.specs.Views.{module_of}
use Rattle.mw_key.specs.declared.version.Version.TheVariants.{Two}
use Rattle.mw_key.specs.CanonicalText.{IsTextOf}
use Rattle.mw_gen.specs.Emission.{emitted}
use Rattle.mw_compile.specs.Emission.{emission, IsEmissionOf}
use Rattle.mw_compile.specs.EmissionLaws.{IsEmission}

-- a kernel's text, and its module with its bytes
pub record Emitted : Type 0 where
  pub text : List ℕ
  pub bytes : List ℕ
  pub wasm : Module

-- It is the entry of this code and type: its text is their text of the second version, its module is emitted of them,
-- and its
-- bytes are their emission, which spells the module. Text and bytes are shorter than 2^32.
pub record IsEntryOf (e : Emitted) (c : Expression) (k : KernelType) : Type 0 where
  pub is_text : IsTextOf e.text Two c k
  pub short : length e.text < 2 ^ 32
  pub module_is : module_of e.wasm ≡ emitted Two c k
  pub emission_is : e.bytes ≡ emission Two c k
  pub is : IsEmission e.bytes (module_of e.wasm) c k

-- it is the entry of some code and type, and its bytes are the emission of its text
pub record IsEntry (e : Emitted) : Type 0 where
  pub code : Expression
  pub kind : KernelType
  pub is_entry : IsEntryOf e code kind
  pub is_emission : IsEmissionOf e.bytes e.text
