-- What a first fault shows, in the words of the format alone.
use Rattle.std.specs.Prelude.{◌≡◌, ℕ, ◌+◌, ◌<◌, ◌≤◌, List, ◌++◌, length, take, Err}
use Rattle.mw_wasm.specs.Syntax.{PureModule}
use Rattle.mw_wasm.specs.BinaryModules.{Spells}
use Rattle.mw_wasm.specs.Profile.{IsWithinProfile}
use Rattle.mw_decode.specs.declared.fault.BadModule.{BadModule}
use Rattle.mw_decode.specs.declared.fault.BadModule.TheVariants.{Magic, Opcode}
use Rattle.mw_decode.specs.Sections.{module_in}

-- these bytes spell no module within the profile
abbrev pub SpellsNone : List ℕ → Type 0
SpellsNone bytes = (m : PureModule) → Spells bytes m → IsWithinProfile m → ⊥

-- bytes that begin so spell no module within the profile, whatever follows
abbrev pub BeginsNone : List ℕ → Type 0
BeginsNone front = (back : List ℕ) → SpellsNone (front ++ back)

-- What a fault shows beside: a wrong header is wrong in the first eight bytes, where there are so many;
-- a wrong byte is one of the bytes, and those up to and with it begin no module.
abbrev pub IsShown : List ℕ → BadModule → Type 0
IsShown bytes Magic = 8 ≤ length bytes → BeginsNone (take 8 bytes)
IsShown bytes (Opcode at) = (at < length bytes) × BeginsNone (take (at + 1) bytes)
IsShown bytes f = Unit {0}

-- bytes with a fault spell no module within the profile, and the fault shows what is said of its kind
abbrev pub FaultIsShown : Type 0
FaultIsShown = (bytes : List ℕ) (f : BadModule) → module_in bytes ≡ Err f → SpellsNone bytes × IsShown bytes f
