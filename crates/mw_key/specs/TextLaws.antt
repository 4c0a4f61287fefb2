-- The laws of canonical texts, which no program calls.
use Rattle.std.specs.Prelude.{◌≡◌, ℕ, ◌<◌, ◌^◌, List, length}
use Rattle.mw_term.specs.Terms.{Expression, KernelType}
use Rattle.mw_key.specs.CanonicalText.{IsTextOf}
use Rattle.mw_key.specs.declared.version.Version.{Version}

-- bytes are the text of one version, code and type at most
abbrev pub OneText : Type 0
OneText = (bytes : List ℕ) (v w : Version) (c d : Expression) (k l : KernelType) → IsTextOf bytes v c k
    → IsTextOf bytes w d l → (v ≡ w) × (c ≡ d) × (k ≡ l)

-- a text has fewer than 2^32 bytes
abbrev pub ShortText : Type 0
ShortText = (bytes : List ℕ) (v : Version) (c : Expression) (k : KernelType) → IsTextOf bytes v c k → length bytes
    < 2 ^ 32
