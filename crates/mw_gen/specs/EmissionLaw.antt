-- What is claimed of each emitted module.
use Rattle.std.specs.Prelude.{ℕ, ◌≤◌, ◌<◌, ◌^◌, List, length}
use Rattle.mw_term.specs.Terms.{Expression, KernelType, size, depth_of}
use Rattle.mw_term.specs.Closed.{IsClosed}
use Rattle.mw_term.specs.Limits.{kernel_nodes, LiteralsFit}
use Rattle.mw_meaning.specs.StandingFor.{StandsFor}
use Rattle.mw_meaning.specs.Shapes.{HasShape}
use Rattle.mw_wasm.specs.Syntax.{PureModule}
use Rattle.mw_wasm.specs.BinaryModules.{wasm_module}
use Rattle.mw_wasm.specs.Validity.{IsValid}
use Rattle.mw_wasm.specs.Profile.{IsWithinProfile}
use Rattle.mw_key.specs.declared.version.Version.{Version}
use Rattle.mw_gen.specs.Emission.{emitted}

-- some bytes spell it, fewer than 2^32
pub record SpelledShort (P : List ℕ → Type 0) : Type 0 where
  pub bytes : List ℕ
  pub spell : P bytes
  pub short : length bytes < 2 ^ 32

-- Fewer than 2^32 bytes spell the module; it is valid and within the profile's limits, has the shape that a run of the
-- kernel type needs, and stands for the code.
pub record IsRightModule (m : PureModule) (c : Expression) (k : KernelType) : Type 0 where
  pub spelled : SpelledShort (wasm_module m)
  pub valid : IsValid m
  pub profile : IsWithinProfile m
  pub shape : HasShape m k
  pub stands : StandsFor m c k

-- in either version, of closed code within the limits of kernels, whose literals have 64 bits, at a type of at most
-- 10,000 nodes
abbrev pub EmittedModulesAreRight : Type 0
EmittedModulesAreRight = (v : Version) (c : Expression) (k : KernelType) → IsClosed c → LiteralsFit c → size c ≤ 20000
    → depth_of c ≤ 400 → kernel_nodes k ≤ 10000 → IsRightModule (emitted v c k) c k
