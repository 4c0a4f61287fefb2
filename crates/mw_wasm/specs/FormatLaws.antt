-- The laws of the binary format.
use Rattle.std.specs.Prelude.{◌≡◌, ℕ, ◌<◌, ◌^◌, List, ◌++◌}
use Rattle.mw_wasm.specs.Syntax.{Code, PureModule}
use Rattle.mw_wasm.specs.Leb.{IsUnsigned, IsInteger}
use Rattle.mw_wasm.specs.BinaryInstructions.{SpellsExpression}
use Rattle.mw_wasm.specs.BinaryModules.{Spells}

-- a spelled number has no more bits than its type
abbrev pub UnsignedNumbersFit : Type 0
UnsignedNumbersFit = (N : ℕ) (bytes : List ℕ) (v : ℕ) → IsUnsigned N bytes v → v < 2 ^ N

abbrev pub IntegersFit : Type 0
IntegersFit = (N : ℕ) (bytes : List ℕ) (n : ℕ) → 0 < N → IsInteger N bytes n → n < 2 ^ N

-- no spelling of an expression begins another one, and none spells two
abbrev pub OneExpression : Type 0
OneExpression = (a b r s : List ℕ) (c d : Code) → SpellsExpression a c → SpellsExpression b d → a ++ r ≡ b ++ s
    → (a ≡ b) × (c ≡ d)

-- no bytes spell two modules
abbrev pub OneModule : Type 0
OneModule = (bytes : List ℕ) (m n : PureModule) → Spells bytes m → Spells bytes n → m ≡ n
