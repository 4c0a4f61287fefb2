-- Worked examples of shapes and of modules that are stray, by computation.
use Rattle.std.specs.Prelude.{ℕ, ◌-◌, ◌^◌, [], ◌∷◌, Some, None}
use Rattle.mw_term.specs.Terms.{KernelType, GroundType, base, product, of_ground}
use Rattle.mw_term.specs.declared.term.Base.TheVariants.{Int, Bool as Truth}
use Rattle.mw_wasm.specs.Syntax.{Code, end, next, const_i32, const_i64, PureModule}
use Rattle.mw_wasm.specs.ExampleModules.{example_memory, init_name, example_a, example_b}
use Rattle.mw_wasm.specs.declared.modules.Exported.TheVariants.{Func}
use Rattle.mw_meaning.specs.Shapes.{init_type, HasShape, IsStray}
use Rattle.mw_meaning.specs.Examples.{int_kernel, int_to_int}

abbrev pub truth_kernel : KernelType
truth_kernel = of_ground (base Truth)

abbrev pub pair_kernel : KernelType
pair_kernel = of_ground (product (base Int) (base Int))

-- a module whose `init` answers n
abbrev pub init_answers : ℕ → PureModule
init_answers n = record {
  types = init_type ∷ [];
  funcs = record { kind = 0; locals = []; body = next (const_i64 n) end } ∷ [];
  table = None;
  memory = Some example_memory;
  globals = [];
  exports = record { name = init_name; what = Func 0 } ∷ [];
  elements = [];
  segments = [];
}

-- the constant's module has the shape for int, and not for a function, since it has no `call`; the cube's has that
abbrev pub ExamplesHaveTheirShapes : Type 0
ExamplesHaveTheirShapes = HasShape example_a int_kernel × (HasShape example_a int_to_int → ⊥)
    × HasShape example_b int_to_int

-- a module whose `init` answers a word has the shape for each ground type
abbrev pub AnswersHaveTheirShape : Type 0
AnswersHaveTheirShape = (n : ℕ) (t : GroundType) → HasShape (init_answers n) (of_ground t)

-- whatever word it answers, it may be a kernel's of type int
abbrev pub NoIntegerIsStray : Type 0
NoIntegerIsStray = (n : ℕ) → IsStray (init_answers n) int_kernel → ⊥

-- 0 and 1 are truth values, and 2 is none
abbrev pub TwoIsStrayForTruth : Type 0
TwoIsStrayForTruth = (IsStray (init_answers 0) truth_kernel → ⊥) × (IsStray (init_answers 1) truth_kernel → ⊥)
    × IsStray (init_answers 2) truth_kernel

-- 0 may be a pair's address, and the word of -1 is the address of no pair: its 16 bytes lie past the memory's end
abbrev pub MinusOneIsStrayForPairs : Type 0
MinusOneIsStrayForPairs = (IsStray (init_answers 0) pair_kernel → ⊥) × IsStray (init_answers (2 ^ 64 - 1)) pair_kernel

-- a module with one byte to write into its memory of 64 pages, where an expression says
abbrev pub writes_byte : Code → PureModule
writes_byte offset = record (init_answers 7) { segments = record { offset = offset; bytes = 1 ∷ [] } ∷ [] }

-- The byte fits at the last address and not past it, whatever the constant's type. An expression that isn't one
-- constant counts as 0.
abbrev pub ByteFitsUpToTheEnd : Type 0
ByteFitsUpToTheEnd = HasShape (writes_byte (next (const_i32 (2 ^ 22 - 1)) end)) int_kernel
    × (HasShape (writes_byte (next (const_i32 (2 ^ 22)) end)) int_kernel → ⊥)
    × (HasShape (writes_byte (next (const_i64 (2 ^ 63)) end)) int_kernel → ⊥)
    × HasShape (writes_byte (next (const_i64 (2 ^ 63)) (next (const_i64 (2 ^ 63)) end))) int_kernel
    × HasShape (writes_byte end) int_kernel
