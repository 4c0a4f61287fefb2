-- The records of a cache file, one behind the other.
use Rattle.std.specs.Prelude.{ℕ, ◌<◌, ◌^◌, List, [], ◌∷◌, ◌++◌, length}
use Rattle.std.specs.Int.{to_le_bytes, w32}
use Rattle.sha2.specs.Sha256.{sha256}
use Rattle.mw_term.specs.Terms.{Expression, KernelType}
use Rattle.mw_wasm.specs.BinaryModules.{Spells}
use Rattle.mw_wasm.specs.Profile.{IsWithinProfile}
use Rattle.mw_wasm.specs.Syntax.{PureModule}
use Rattle.mw_wasm.specs.Validity.{IsValid}
use Rattle.mw_key.specs.CanonicalText.{IsTextOf}
use Rattle.mw_key.specs.declared.version.Version.{Version}
use Rattle.mw_meaning.specs.Shapes.{HasShape}

-- a kernel as it is kept: a text, and the bytes of a module
pub record Kept : Type 0 where
  pub text : List ℕ
  pub bytes : List ℕ

-- a number in four bytes, the lowest first
abbrev pub four : ℕ → List ℕ
four n = to_le_bytes w32 n

-- both lengths, the text and the module's bytes
abbrev pub body_of : Kept → List ℕ
body_of r = four (length r.text) ++ four (length r.bytes) ++ r.text ++ r.bytes

-- a record: these, and their SHA-256
abbrev pub record_bytes : Kept → List ℕ
record_bytes r = body_of r ++ sha256 (body_of r)

-- records, one behind the other
abbrev pub file_of : List Kept → List ℕ
file_of [] = []
file_of (r ∷ rs) = record_bytes r ++ file_of rs

-- The module's bytes spell this module within the profile. It is valid, and has the shape that a run at this type
-- needs.
pub record HasModule (bytes : List ℕ) (k : KernelType) (m : PureModule) : Type 0 where
  pub spelled : Spells bytes m
  pub profile : IsWithinProfile m
  pub valid : IsValid m
  pub shape : HasShape m k

-- A record is whole where its text is canonical and its bytes spell a module for the text's type. That all its bytes
-- are there, and that the digest is right, is said where it begins a file.
pub record IsWhole (r : Kept) : Type 0 where
  pub short : length r.bytes < 2 ^ 32
  pub version : Version
  pub code : Expression
  pub kind : KernelType
  pub is_text : IsTextOf r.text version code kind
  pub wasm : PureModule
  pub has_module : HasModule r.bytes kind wasm
