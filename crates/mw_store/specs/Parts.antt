-- Parts of a record.
use Rattle.std.specs.Prelude.{◌≡◌, ℕ, ◌<◌, ◌^◌, List, ◌++◌, length}
use Rattle.mw_store.specs.Records.{Kept, four}
use Rattle.mw_store.specs.declared.parts.Parts.{Parts}

-- what these parts are kept of
abbrev pub kept_in : Parts → Kept
kept_in p = record { text = p.text.now; bytes = p.module.now }

-- the parts begin these bytes, the digest is of 32 bytes, and the lengths are numbers of four bytes
pub record IsCutFrom (p : Parts) (bytes : List ℕ) : Type 0 where
  pub short_text : length p.text.now < 2 ^ 32
  pub short_module : length p.module.now < 2 ^ 32
  pub body : p.body.now ≡ four (length p.text.now) ++ four (length p.module.now) ++ p.text.now ++ p.module.now
  pub digest : length p.digest.now ≡ 32
  pub rest : List ℕ
  pub whole : bytes ≡ p.body.now ++ (p.digest.now ++ rest)
