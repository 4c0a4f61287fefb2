-- What the tests of a record find.
use Rattle.std.specs.Prelude.{ℕ, ◌≤◌, ◌<◌, List, length, Option, Some, None}
use Rattle.mw_term.specs.Terms.{Expression, KernelType}
use Rattle.mw_key.specs.CanonicalText.{IsTextOf}
use Rattle.mw_key.specs.declared.version.Version.{Version}
use Rattle.mw_wasm.specs.BinaryModules.{Spells}
use Rattle.mw_wasm.specs.Profile.{IsWithinProfile}
use Rattle.mw_wasm.specs.Syntax.{PureModule}
use Rattle.mw_wasm.specs.Validity.{IsValid}
use Rattle.mw_store.specs.Records.{Kept, record_bytes, HasModule}
use Rattle.mw_store.specs.Loads.{Begins}
use Rattle.mw_store.specs.declared.whole.WholeRecord.{WholeRecord}

-- the text of some code at the type
abbrev pub IsTyped : List ℕ → KernelType → Type 0
IsTyped text k = (v : Version) × (c : Expression) × IsTextOf text v c k

-- the text of no code
abbrev pub NoText : List ℕ → Type 0
NoText text = (v : Version) (c : Expression) (k : KernelType) → IsTextOf text v c k → ⊥

-- a valid module within the profile, which the bytes spell
pub record IsSound (bytes : List ℕ) (m : PureModule) : Type 0 where
  pub spelled : Spells bytes m
  pub profile : IsWithinProfile m
  pub valid : IsValid m

abbrev pub HasSoundModule : List ℕ → Type 0
HasSoundModule bytes = (m : PureModule) × IsSound bytes m

abbrev pub NoModule : List ℕ → Type 0
NoModule bytes = (m : PureModule) → IsSound bytes m → ⊥

-- a module that a kernel of the type may have, which the bytes spell
abbrev pub HasModuleOf : List ℕ → KernelType → Type 0
HasModuleOf bytes k = (m : PureModule) × HasModule bytes k m

abbrev pub NoModuleOf : List ℕ → KernelType → Type 0
NoModuleOf bytes k = (m : PureModule) → HasModule bytes k m → ⊥

-- the module that a kernel of this text may have
abbrev pub IsKernelModule : List ℕ → List ℕ → PureModule → Type 0
IsKernelModule text bytes m = (k : KernelType) × IsTyped text k × HasModule bytes k m

abbrev pub HasKernelModule : List ℕ → List ℕ → Type 0
HasKernelModule text bytes = (m : PureModule) × IsKernelModule text bytes m

abbrev pub NoKernelModule : List ℕ → List ℕ → Type 0
NoKernelModule text bytes = (m : PureModule) → IsKernelModule text bytes m → ⊥

-- what was found is kept of this
abbrev pub kept_in : WholeRecord → Kept
kept_in f = record { text = f.text.now; bytes = f.bytes.now }

-- the whole record that begins the bytes, and isn't longer than the room; or each one that begins them is longer
abbrev pub IsFoundIn : Option WholeRecord → List ℕ → ℕ → Type 0
IsFoundIn None bytes room = (r : Kept) → Begins bytes r → room < length (record_bytes r)
IsFoundIn (Some f) bytes room = Begins bytes (kept_in f) × (length (record_bytes (kept_in f)) ≤ room)
