-- The limits of the integer profile, which the standard allows an implementation (standard: Implementation
-- Limitations).
use Rattle.std.specs.Prelude.{ℕ, zero, suc, ◌≤◌, max, List, length, IfSome}
use Rattle.std.specs.List.{AllByRecursion}
use Rattle.mw_wasm.specs.Syntax.{Instruction, Code, block, loop, cond, end, next, PureModule}

-- how many blocks stand one in another, at most
abbrev mutual
  pub depth_of : Instruction → ℕ
  depth_of (block t body) = suc (depth body)
  depth_of (loop t body) = suc (depth body)
  depth_of (cond t a b) = suc (max (depth a) (depth b))
  depth_of _ = zero

  pub depth : Code → ℕ
  depth end = zero
  depth (next i c) = max (depth_of i) (depth c)

-- at most 500 blocks deep
abbrev pub IsShallow : Code → Type 0
IsShallow c = depth c ≤ 500

-- a byte of printable ASCII
abbrev pub IsPrintable : ℕ → Type 0
IsPrintable b = (0x20 ≤ b) × (b ≤ 0x7E)

-- the longest file that is read
abbrev pub IsWithinFileLimit : List ℕ → Type 0
IsWithinFileLimit bytes = length bytes ≤ 67_108_864

-- a module within the profile's limits, however long the file that spells it
pub record IsWithinProfile (m : PureModule) : Type 0 where
  pub type_results : AllByRecursion (λ t. length t.results ≤ 1) m.types
  pub table_elements : IfSome m.table (λ t. t.min ≤ 100_000)
  pub memory_pages : IfSome m.memory (λ l. l.min ≤ 1_024)
  pub further_locals : AllByRecursion (λ f. length f.locals ≤ 50_000) m.funcs
  pub export_names : AllByRecursion (λ e. AllByRecursion IsPrintable e.name) m.exports
  pub function_depth : AllByRecursion (λ f. IsShallow f.body) m.funcs
  pub global_depth : AllByRecursion (λ g. IsShallow g.init) m.globals
  pub element_depth : AllByRecursion (λ e. IsShallow e.offset) m.elements
  pub segment_depth : AllByRecursion (λ s. IsShallow s.offset) m.segments
