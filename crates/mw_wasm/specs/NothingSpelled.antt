-- Bytes that spell no module, whatever stands after them.
use Rattle.std.specs.Prelude.{ℕ, List, [], ◌∷◌}
use Rattle.mw_wasm.specs.Syntax.{PureModule}
use Rattle.mw_wasm.specs.BinaryModules.{Spells}

-- bytes after the header
abbrev pub begun : List ℕ → List ℕ
begun rest = 0x00 ∷ 0x61 ∷ 0x73 ∷ 0x6D ∷ 0x01 ∷ 0x00 ∷ 0x00 ∷ 0x00 ∷ rest

pub record NothingIsSpelled : Type 0 where
  pub empty : (m : PureModule) → ¬ Spells [] m
  pub seven_bytes : (m : PureModule) → ¬ Spells (0x00 ∷ 0x61 ∷ 0x73 ∷ 0x6D ∷ 0x01 ∷ 0x00 ∷ 0x00 ∷ []) m
  pub version_two : (m : PureModule) (rest : List ℕ)
      → ¬ Spells (0x00 ∷ 0x61 ∷ 0x73 ∷ 0x6D ∷ 0x02 ∷ 0x00 ∷ 0x00 ∷ 0x00 ∷ rest) m
  pub start_first : (m : PureModule) (rest : List ℕ) → ¬ Spells (begun (0x08 ∷ rest)) m
  -- a section of this id came with a later version of the standard
  pub data_count_first : (m : PureModule) (rest : List ℕ) → ¬ Spells (begun (0x0C ∷ rest)) m
