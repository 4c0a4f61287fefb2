-- What is claimed of each emission.
use Rattle.std.specs.Prelude.{ℕ, ◌≡◌, ◌<◌, ◌^◌, List, length}
use Rattle.mw_term.specs.Terms.{Expression, KernelType}
use Rattle.mw_meaning.specs.StandingFor.{StandsFor}
use Rattle.mw_meaning.specs.Shapes.{HasShape}
use Rattle.mw_wasm.specs.Syntax.{PureModule}
use Rattle.mw_wasm.specs.BinaryModules.{Spells}
use Rattle.mw_wasm.specs.Profile.{IsWithinProfile}
use Rattle.mw_wasm.specs.Validity.{IsValid}
use Rattle.mw_key.specs.declared.version.Version.{Version}
use Rattle.mw_key.specs.CanonicalText.{IsTextOf}
use Rattle.mw_gen.specs.Emission.{emitted}
use Rattle.mw_compile.specs.Emission.{emission, IsEmissionOf}

-- The bytes, fewer than 2^32, spell the module, which is within the profile's limits and valid, has the shape that a
-- run of
-- the kernel type needs, and stands for the code.
pub record IsEmission (bytes : List ℕ) (m : PureModule) (c : Expression) (k : KernelType) : Type 0 where
  pub short : length bytes < 2 ^ 32
  pub spelled : Spells bytes m
  pub profile : IsWithinProfile m
  pub valid : IsValid m
  pub shape : HasShape m k
  pub stands : StandsFor m c k

-- of each text, in either version, for its code and its type
abbrev pub EmissionHolds : Type 0
EmissionHolds = (text : List ℕ) (v : Version) (c : Expression) (k : KernelType) → IsTextOf text v c k
    → IsEmission (emission v c k) (emitted v c k) c k

-- a text has one emission
abbrev pub OneEmission : Type 0
OneEmission = (text first second : List ℕ) → IsEmissionOf first text → IsEmissionOf second text → first ≡ second
