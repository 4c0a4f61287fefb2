-- The tests of the validator: one pass over code with a list of what is known of its operands (standard: Appendix,
-- Validation Algorithm). Lists of operands have the last operand first. Lists of types have the last one's at the end.
use Rattle.std.specs.Prelude.{◌≡◌, ◌≤◌, ℕ, ◌^◌, Bool, true, false, ◌&&◌, nat_le, List, [], ◌∷◌, ◌++◌, Option, Some}
use Rattle.std.specs.Prelude.{None, is_some, slice_get, length, map, reverse}
use Rattle.std.specs.List.{AllByRecursion}
use Rattle.mw_wasm.specs.declared.values.ValType.{ValType}
use Rattle.mw_wasm.specs.declared.values.ValType.TheVariants.{I32, I64}
use Rattle.mw_wasm.specs.declared.modules.FuncType.{FuncType}
use Rattle.mw_wasm.specs.Syntax.{Instruction, Code, unreachable, nop, block, loop, cond, br, br_if, br_table, give_back}
use Rattle.mw_wasm.specs.Syntax.{call, call_indirect, drop_value, select, local_get, local_set, local_tee, global_get}
use Rattle.mw_wasm.specs.Syntax.{global_set, load, store, memory_size, memory_grow, const_i32, const_i64, numeric, end}
use Rattle.mw_wasm.specs.Syntax.{next, Function, Global, Exporting, PureModule}
use Rattle.mw_wasm.specs.NumericTypes.{operands_of, result_type}
use Rattle.mw_wasm.specs.Store.{load_size, store_size, store_type}
use Rattle.mw_wasm.specs.Validity.{Context, results_of, with_label, load_type, AreLimitsOf, IsConstantOf, context_of}
use Rattle.mw_wasm.specs.Validity.{IsValidElement, IsValidData, IsThere, NamesDiffer}

-- an operand's type, or unknown: then it may be any
pub data Operand : Type 0 where
  known : (t : ValType) → Operand
  unknown : Operand

-- the operands above the height of the innermost label, and whether that label is dead
pub data Operands : Type 0 where
  operands : (os : List Operand) (dead : Bool) → Operands

infixl 10 ◌>>=◌
abbrev pub ◌>>=◌ : {A B : Type 0} → Option A → (A → Option B) → Option B
None >>= f = None
(Some x) >>= f = f x

abbrev pub only_if : {A : Type 0} → Bool → Option A → Option A
only_if true x = x
only_if false x = None

-- The last operand, and those below it. At the height of a dead label there is an unknown one.
abbrev pub pop_any : Operands → Option (Operand × Operands)
pop_any (operands [] false) = None
pop_any (operands [] true) = Some (unknown, operands [] true)
pop_any (operands (o ∷ os) dead) = Some (o, operands os dead)

abbrev pub same_type : ValType → ValType → Bool
same_type I32 I32 = true
same_type I64 I64 = true
same_type _ _ = false

abbrev pub may_be : ValType → Operand → Bool
may_be t unknown = true
may_be t (known u) = same_type t u

-- without the last operand, which must be one of this type or unknown
abbrev pub pop : ValType → Operands → Option Operands
pop t s = do
  p ← pop_any s
  only_if (may_be t p.0) (Some p.1)

abbrev pub pop_each : List ValType → Operands → Option Operands
pop_each [] s = Some s
pop_each (t ∷ ts) s = pop t s >>= pop_each ts

-- without operands of these types, the last one popped first
abbrev pub pops : List ValType → Operands → Option Operands
pops ts s = pop_each (reverse ts) s

abbrev pub push : Operand → Operands → Operands
push o (operands os dead) = operands (o ∷ os) dead

-- with operands of these types, the last one on top
abbrev pub pushes : List ValType → Operands → Operands
pushes ts (operands os dead) = operands (map known (reverse ts) ++ os) dead

-- one type that both operands may be
abbrev pub joined : Operand → Operand → Option Operand
joined unknown b = Some b
joined (known t) unknown = Some (known t)
joined (known t) (known u) = only_if (same_type t u) (Some (known t))

-- at the height of a label: as it is opened, and once it is dead
abbrev pub opened : Operands
opened = operands [] false

abbrev pub dead : Operands
dead = operands [] true

abbrev pub at_height : Option Operands → Bool
at_height (Some (operands [] _)) = true
at_height _ = false

-- a list that ends here gives its label's end types, and leaves none else
abbrev pub closes : List ValType → Option Operands → Bool
closes ts ended = at_height (ended >>= pops ts)

abbrev pub same_types : List ValType → List ValType → Bool
same_types [] [] = true
same_types (t ∷ ts) (u ∷ us) = same_type t u && same_types ts us
same_types _ _ = false

abbrev pub takes : List ValType → Option (List ValType) → Bool
takes ts None = false
takes ts (Some us) = same_types us ts

-- branches to all these labels take the same types
abbrev pub all_take : List (List ValType) → List ValType → List ℕ → Bool
all_take labels ts [] = true
all_take labels ts (l ∷ ls) = takes ts (slice_get labels l) && all_take labels ts ls

-- the operands that an instruction pops and those that it pushes, where these are determined and it goes on
abbrev pub effect : Context → Instruction → Option (List ValType × List ValType)
effect c nop = Some ([], [])
effect c (br_if l) = do
  ts ← slice_get c.labels l
  Some (ts ++ I32 ∷ [], ts)
effect c (call f) = do
  k ← slice_get c.funcs f
  t ← slice_get c.types k
  Some (t.params, t.results)
effect c (call_indirect k) = only_if (is_some c.table) do
  t ← slice_get c.types k
  Some (t.params ++ I32 ∷ [], t.results)
effect c (local_get x) = do
  t ← slice_get c.locals x
  Some ([], t ∷ [])
effect c (local_set x) = do
  t ← slice_get c.locals x
  Some (t ∷ [], [])
effect c (local_tee x) = do
  t ← slice_get c.locals x
  Some (t ∷ [], t ∷ [])
effect c (global_get x) = do
  g ← slice_get c.globals x
  Some ([], g.0 ∷ [])
effect c (global_set x) = do
  g ← slice_get c.globals x
  only_if g.1 (Some (g.0 ∷ [], []))
effect c (load o align offset) =
    only_if (is_some c.memory && nat_le (2 ^ align) (load_size o)) (Some (I32 ∷ [], load_type o ∷ []))
effect c (store o align offset) =
    only_if (is_some c.memory && nat_le (2 ^ align) (store_size o)) (Some (I32 ∷ store_type o ∷ [], []))
effect c memory_size = only_if (is_some c.memory) (Some ([], I32 ∷ []))
effect c memory_grow = only_if (is_some c.memory) (Some (I32 ∷ [], I32 ∷ []))
effect c (const_i32 n) = Some ([], I32 ∷ [])
effect c (const_i64 n) = Some ([], I64 ∷ [])
effect c (numeric o) = Some (operands_of o, result_type o ∷ [])
effect c _ = None

-- the operands that an instruction pops behind which nothing is reached
abbrev pub last_pops : Context → Instruction → Option (List ValType)
last_pops c unreachable = Some []
last_pops c (br l) = slice_get c.labels l
last_pops c (br_table ls l) = do
  ts ← slice_get c.labels l
  only_if (all_take c.labels ts ls) (Some (ts ++ I32 ∷ []))
last_pops c give_back = Some c.results
last_pops c _ = None

abbrev pub goes_on : Option (List ValType × List ValType) → Operands → Option Operands
goes_on effect s = do
  t ← effect
  below ← pops t.0 s
  Some (pushes t.1 below)

abbrev pub stops : Option (List ValType) → Operands → Option Operands
stops taken s = do
  ts ← taken
  below ← pops ts s
  Some dead

-- The operands behind an instruction, and behind code: none where a test fails.
abbrev mutual
  pub after : Context → Instruction → Operands → Option Operands
  after c unreachable s = stops (last_pops c unreachable) s
  after c (br l) s = stops (last_pops c (br l)) s
  after c (br_table ls l) s = stops (last_pops c (br_table ls l)) s
  after c give_back s = stops (last_pops c give_back) s
  after c drop_value s = do
    p ← pop_any s
    Some p.1
  after c select s = do
    below ← pop I32 s
    a ← pop_any below
    b ← pop_any a.1
    t ← joined a.0 b.0
    Some (push t b.1)
  after c (block t body) s =
      only_if (closes (results_of t) (after_code (with_label (results_of t) c) body opened))
      (Some (pushes (results_of t) s))
  after c (loop t body) s =
      only_if (closes (results_of t) (after_code (with_label [] c) body opened))
      (Some (pushes (results_of t) s))
  after c (cond t a b) s = do
    below ← pop I32 s
    only_if (closes (results_of t) (after_code (with_label (results_of t) c) a opened)
        && closes (results_of t) (after_code (with_label (results_of t) c) b opened))
        (Some (pushes (results_of t) below))
  after c i s = goes_on (effect c i) s

  pub after_code : Context → Code → Operands → Option Operands
  after_code c end s = Some s
  after_code c (next i code) s = do
    left ← after c i s
    after_code c code left

-- A function's type is there, and its body passes: it begins with no operands, and its label takes and ends with its
-- results.
abbrev pub PassesBody : PureModule → Function → Type 0
PassesBody m f = (t : FuncType) × (slice_get m.types f.kind ≡ Some t)
    × (closes t.results (after_code (inside t) f.body opened) ≡ true)
  where
    inside : FuncType → Context
    inside t = record (context_of m) {
      locals = t.params ++ f.locals;
      labels = t.results ∷ [];
      results = t.results;
    }

-- the tests outside bodies
pub record PartsPass (m : PureModule) : Type 0 where
  -- a function type has at most one result
  pub types : AllByRecursion (λ (t : FuncType). length t.results ≤ 1) m.types
  pub table : AreLimitsOf (2 ^ 32) m.table
  pub memory : AreLimitsOf 65536 m.memory
  pub globals : AllByRecursion (λ (g : Global). IsConstantOf g.kind g.init) m.globals
  pub exports : AllByRecursion (λ (e : Exporting). IsThere m e.what) m.exports
  pub names : NamesDiffer m.exports
  pub elements : AllByRecursion (IsValidElement m) m.elements
  pub segments : AllByRecursion (IsValidData m) m.segments

-- none of the validator's tests fails
pub record Checks (m : PureModule) : Type 0 where
  pub parts : PartsPass m
  pub bodies : AllByRecursion (PassesBody m) m.funcs
