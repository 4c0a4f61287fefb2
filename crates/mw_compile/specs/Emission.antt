-- The bytes of a kernel: those of its code's module at its type, each number in its shortest spelling. They are the
-- emission
-- of the text that says code, type and version.
use Rattle.std.specs.Prelude.{ℕ, ◌≡◌, List}
use Rattle.mw_term.specs.Terms.{Expression, KernelType}
use Rattle.mw_encode.specs.Encoding.{encoding}
use Rattle.mw_key.specs.CanonicalText.{IsTextOf}
use Rattle.mw_key.specs.declared.version.Version.{Version}
use Rattle.mw_gen.specs.Emission.{emitted}

abbrev pub emission : Version → Expression → KernelType → List ℕ
emission v c k = encoding (emitted v c k)

-- the bytes are the emission of the text: that of its code at its type, in its version
pub record IsEmissionOf (bytes text : List ℕ) : Type 0 where
  pub version : Version
  pub code : Expression
  pub kind : KernelType
  pub is_text : IsTextOf text version code kind
  pub is_emission : bytes ≡ emission version code kind
