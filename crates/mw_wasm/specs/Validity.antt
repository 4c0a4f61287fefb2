-- When code and modules are valid (standard: Validation). Stacks of types have the last operand's type at the end.
use Rattle.std.specs.Prelude.{◌≡◌, ℕ, ◌^◌, ◌<◌, ◌≤◌, Bool, true, List, [], ◌∷◌, ◌++◌, Option, Some, None, IsSome}
use Rattle.std.specs.Prelude.{slice_get, length, map}
use Rattle.std.specs.List.{AllByRecursion}
use Rattle.mw_wasm.specs.declared.values.ValType.{ValType}
use Rattle.mw_wasm.specs.declared.values.ValType.TheVariants.{I32, I64}
use Rattle.mw_wasm.specs.declared.numbers.NumOp.{NumOp}
use Rattle.mw_wasm.specs.declared.numbers.LoadOp.{LoadOp}
use Rattle.mw_wasm.specs.declared.numbers.LoadOp.TheVariants as load_op
use Rattle.mw_wasm.specs.declared.modules.FuncType.{FuncType}
use Rattle.mw_wasm.specs.declared.modules.Limits.{Limits}
use Rattle.mw_wasm.specs.declared.modules.Exported.{Exported}
use Rattle.mw_wasm.specs.declared.modules.Exported.TheVariants as exported
use Rattle.mw_wasm.specs.Syntax.{Instruction, Code, unreachable, nop, block, loop, cond, br, br_if, br_table, give_back}
use Rattle.mw_wasm.specs.Syntax.{call, call_indirect, drop_value, select, local_get, local_set, local_tee, global_get}
use Rattle.mw_wasm.specs.Syntax.{global_set, load, store, memory_size, memory_grow, const_i32, const_i64, numeric, end}
use Rattle.mw_wasm.specs.Syntax.{next, Function, Global, Exporting, ElementSegment, DataSegment, PureModule}
use Rattle.mw_wasm.specs.NumericTypes.{operands_of, result_type}
use Rattle.mw_wasm.specs.Store.{load_size, store_size, store_type}

-- what code may speak of: the module, and in a function its locals, the labels round the code (the innermost first,
-- each with the types that a branch to it takes) and the function's results
pub record Context : Type 0 where
  pub types : List FuncType
  pub funcs : List ℕ
  pub table : Option Limits
  pub memory : Option Limits
  pub globals : List (ValType × Bool)
  pub locals : List ValType
  pub labels : List (List ValType)
  pub results : List ValType

-- a block's result is no value or one
abbrev pub results_of : Option ValType → List ValType
results_of None = []
results_of (Some t) = t ∷ []

abbrev pub with_label : List ValType → Context → Context
with_label ts c = record c { labels = ts ∷ c.labels }

-- the function of this index has the type of that index
abbrev pub HasFunction : Context → ℕ → FuncType → Type 0
HasFunction c f t = (k : ℕ) × (slice_get c.funcs f ≡ Some k) × (slice_get c.types k ≡ Some t)

abbrev pub load_type : LoadOp → ValType
load_type load_op.I32 = I32
load_type load_op.I32S8 = I32
load_type load_op.I32U8 = I32
load_type load_op.I32S16 = I32
load_type load_op.I32U16 = I32
load_type _ = I64

-- 2 to the alignment's exponent is at most the access's width in bytes
abbrev pub IsAligned : ℕ → ℕ → Type 0
IsAligned align width = 2 ^ align ≤ width

-- Typing of instructions: from the operands that they take to those that they leave; and of code. A sequence from ts ++
-- ins to what is left goes on from ts ++ outs after an instruction from ins to outs.
mutual
  pub data HasType : Context → Instruction → List ValType → List ValType → Type 0 where
    of_unreachable : {c : Context} {ins outs : List ValType} → HasType c unreachable ins outs
    of_nop : {c : Context} → HasType c nop [] []
    of_drop : {c : Context} {t : ValType} → HasType c drop_value (t ∷ []) []
    of_select : {c : Context} {t : ValType} → HasType c select (t ∷ t ∷ I32 ∷ []) (t ∷ [])
    of_block : {c : Context} {t : Option ValType} {body : Code} {outs : List ValType} → outs ≡ results_of t
        → CodeHasType (with_label outs c) body [] outs → HasType c (block t body) [] outs
    of_loop : {c : Context} {t : Option ValType} {body : Code} {outs : List ValType} → outs ≡ results_of t
        → CodeHasType (with_label [] c) body [] outs → HasType c (loop t body) [] outs
    of_if : {c : Context} {t : Option ValType} {a b : Code} {outs : List ValType}
        → outs ≡ results_of t → CodeHasType (with_label outs c) a [] outs → CodeHasType (with_label outs c) b [] outs
        → HasType c (cond t a b) (I32 ∷ []) outs
    of_br : {c : Context} {l : ℕ} {ins outs : List ValType} (below label : List ValType) → slice_get c.labels l
        ≡ Some label → ins ≡ below ++ label → HasType c (br l) ins outs
    of_br_if : {c : Context} {l : ℕ} {ins label : List ValType} → slice_get c.labels l ≡ Some label → ins ≡ label ++ I32
        ∷ [] → HasType c (br_if l) ins label
    of_br_table : {c : Context} {ls : List ℕ} {l : ℕ} {ins outs : List ValType} (below label : List ValType)
        → AllByRecursion (λ l. slice_get c.labels l ≡ Some label) (ls ++ l ∷ []) → ins ≡ below ++ label ++ I32 ∷ []
        → HasType c (br_table ls l) ins outs
    of_return : {c : Context} {ins outs : List ValType} (below : List ValType) → ins ≡ below ++ c.results
        → HasType c give_back ins outs
    of_call : {c : Context} {f : ℕ} {ins outs : List ValType} (t : FuncType) → HasFunction c f t → ins ≡ t.params
        → outs ≡ t.results → HasType c (call f) ins outs
    of_call_indirect : {c : Context} {k : ℕ} {ins outs : List ValType} (t : FuncType)
        → IsSome c.table → slice_get c.types k ≡ Some t → ins ≡ t.params ++ I32 ∷ [] → outs ≡ t.results
        → HasType c (call_indirect k) ins outs
    of_local_get : {c : Context} {x : ℕ} {t : ValType} → slice_get c.locals x ≡ Some t
        → HasType c (local_get x) [] (t ∷ [])
    of_local_set : {c : Context} {x : ℕ} {t : ValType} → slice_get c.locals x ≡ Some t
        → HasType c (local_set x) (t ∷ []) []
    of_local_tee : {c : Context} {x : ℕ} {t : ValType} → slice_get c.locals x ≡ Some t
        → HasType c (local_tee x) (t ∷ []) (t ∷ [])
    of_global_get : {c : Context} {x : ℕ} {t : ValType} (variable : Bool) → slice_get c.globals x ≡ Some (t, variable)
        → HasType c (global_get x) [] (t ∷ [])
    of_global_set : {c : Context} {x : ℕ} {t : ValType} → slice_get c.globals x ≡ Some (t, true)
        → HasType c (global_set x) (t ∷ []) []
    of_load : {c : Context} {o : _} {align offset : ℕ} {t : ValType} → IsSome c.memory → IsAligned align (load_size o)
        → t ≡ load_type o → HasType c (load o align offset) (I32 ∷ []) (t ∷ [])
    of_store : {c : Context} {o : _} {align offset : ℕ} {t : ValType} → IsSome c.memory → IsAligned align (store_size o)
        → t ≡ store_type o → HasType c (store o align offset) (I32 ∷ t ∷ []) []
    of_memory_size : {c : Context} → IsSome c.memory → HasType c memory_size [] (I32 ∷ [])
    of_memory_grow : {c : Context} → IsSome c.memory → HasType c memory_grow (I32 ∷ []) (I32 ∷ [])
    of_const_i32 : {c : Context} {n : ℕ} → HasType c (const_i32 n) [] (I32 ∷ [])
    of_const_i64 : {c : Context} {n : ℕ} → HasType c (const_i64 n) [] (I64 ∷ [])
    of_numeric : {c : Context} {o : NumOp} {ins : List ValType} {t : ValType} → ins ≡ operands_of o → t ≡ result_type o
        → HasType c (numeric o) ins (t ∷ [])

  pub data CodeHasType : Context → Code → List ValType → List ValType → Type 0 where
    of_end : {c : Context} {ts : List ValType} → CodeHasType c end ts ts
    of_next : {c : Context} {i : Instruction} {code : Code} {ins outs : List ValType} (below taken left : List ValType)
        → HasType c i taken left → ins ≡ below ++ taken → CodeHasType c code (below ++ left) outs
        → CodeHasType c (next i code) ins outs

-- a minimum is at most its maximum, and both are at most this
abbrev pub AreLimits : ℕ → Limits → Type 0
AreLimits most limits = (limits.min ≤ most) × WithMaximum limits.max
  where
    WithMaximum : Option ℕ → Type 0
    WithMaximum None = Unit {0}
    WithMaximum (Some n) = (n ≤ most) × (limits.min ≤ n)

abbrev pub AreLimitsOf : ℕ → Option Limits → Type 0
AreLimitsOf most None = Unit {0}
AreLimitsOf most (Some limits) = AreLimits most limits

-- a constant expression of this type: one constant
abbrev pub IsConstantOf : ValType → Code → Type 0
IsConstantOf I32 (next (const_i32 n) end) = Unit {0}
IsConstantOf I64 (next (const_i64 n) end) = Unit {0}
IsConstantOf _ _ = ⊥

-- the context of a module's functions, with no locals, labels or results yet
abbrev pub context_of : PureModule → Context
context_of m = record {
  types = m.types;
  funcs = map (λ (f : Function). f.kind) m.funcs;
  table = m.table;
  memory = m.memory;
  globals = map (λ (g : Global). (g.kind, g.variable)) m.globals;
  locals = [];
  labels = [];
  results = [];
}

-- a function's body gives its results, which its label takes too
abbrev pub IsValidFunction : PureModule → Function → Type 0
IsValidFunction m f = (t : FuncType) × (slice_get m.types f.kind ≡ Some t)
    × CodeHasType (record (context_of m) {
      locals = t.params ++ f.locals;
      labels = t.results ∷ [];
      results =
          t.results;
    }) f.body [] t.results

abbrev pub IsValidElement : PureModule → ElementSegment → Type 0
IsValidElement m s = IsSome m.table × IsConstantOf I32 s.offset × AllByRecursion (λ f. f < length m.funcs) s.funcs

abbrev pub IsValidData : PureModule → DataSegment → Type 0
IsValidData m s = IsSome m.memory × IsConstantOf I32 s.offset

-- what an export names is there
abbrev pub IsThere : PureModule → Exported → Type 0
IsThere m (exported.Func f) = f < length m.funcs
IsThere m (exported.Table t) = IsSome m.table × (t ≡ 0)
IsThere m (exported.Memory x) = IsSome m.memory × (x ≡ 0)
IsThere m (exported.Global g) = g < length m.globals

-- no two exports have one name
abbrev pub NamesDiffer : List Exporting → Type 0
NamesDiffer [] = Unit {0}
NamesDiffer (e ∷ es) = AllByRecursion (λ (other : Exporting). other.name ≡ e.name → ⊥) es × NamesDiffer es

-- a module is valid
pub record IsValid (m : PureModule) : Type 0 where
  -- a function type has at most one result
  pub types : AllByRecursion (λ (t : FuncType). length t.results ≤ 1) m.types
  pub funcs : AllByRecursion (IsValidFunction m) m.funcs
  pub table : AreLimitsOf (2 ^ 32) m.table
  pub memory : AreLimitsOf 65536 m.memory
  pub globals : AllByRecursion (λ (g : Global). IsConstantOf g.kind g.init) m.globals
  pub exports : AllByRecursion (λ (e : Exporting). IsThere m e.what) m.exports
  pub names : NamesDiffer m.exports
  pub elements : AllByRecursion (IsValidElement m) m.elements
  pub segments : AllByRecursion (IsValidData m) m.segments
