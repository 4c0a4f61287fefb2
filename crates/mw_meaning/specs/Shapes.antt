-- What a run needs of a module, and when a module gives what no kernel of its type can give.
use Rattle.std.specs.Prelude.{ℕ, ◌+◌, ◌≡◌, ◌⊎◌, IsTrue, IsSome, List, [], ◌∷◌, replicate, Some, Ok, codes, slice_get}
use Rattle.mw_term.specs.Terms.{GroundType, KernelType, base, product, of_ground, to}
use Rattle.mw_term.specs.declared.term.Base.TheVariants.{Int, Bool as Truth}
use Rattle.mw_wasm.specs.declared.values.ValType.TheVariants.{I64 as i64}
use Rattle.mw_wasm.specs.declared.values.Value.TheVariants.{I64}
use Rattle.mw_wasm.specs.declared.values.Trap.TheVariants.{Divide, Overflow, OutOfBounds}
use Rattle.mw_wasm.specs.declared.modules.FuncType.{FuncType}
use Rattle.mw_wasm.specs.Syntax.{Function, PureModule}
use Rattle.mw_wasm.specs.Store.{Memory, Store, is_inside, read_bytes}
use Rattle.mw_wasm.specs.Execution.{End, ended, trapped}
use Rattle.mw_wasm.specs.Instances.{exported, instantiated, invoked}
use Rattle.mw_meaning.specs.StandingFor.{Call, AreCalls, leaves}

-- the leaves of a ground type
abbrev pub leaf_count : GroundType → ℕ
leaf_count (base b) = 1
leaf_count (product s t) = leaf_count s + leaf_count t

-- the type of `init`, and of `call` for arguments of a ground type: the function's word and the leaves, to a word
abbrev pub init_type : FuncType
init_type = record { params = []; results = i64 ∷ [] }

abbrev pub call_type : GroundType → FuncType
call_type s = record { params = i64 ∷ replicate (leaf_count s) i64; results = i64 ∷ [] }

-- the module exports a function of this type under the name
pub record Exports (m : PureModule) (name : List ℕ) (t : FuncType) : Type 0 where
  pub index : ℕ
  pub is_exported : exported m name ≡ Some index
  pub function : Function
  pub is_function : slice_get m.funcs index ≡ Some function
  pub has_type : slice_get m.types function.kind ≡ Some t

-- a kernel of a ground type has no `call`
abbrev pub HasCall : PureModule → KernelType → Type 0
HasCall m (of_ground t) = Unit {0}
HasCall m (to s t) = Exports m (codes "call") (call_type s)

-- The shape of a module that a run of the kernel type needs: its exports, one memory, and segments that fit.
pub record HasShape (m : PureModule) (k : KernelType) : Type 0 where
  pub init : Exports m (codes "init") init_type
  pub call : HasCall m k
  pub memory : IsSome m.memory
  pub store : Store
  pub has_instance : instantiated m ≡ Ok store

-- A word may be one of a value of the ground type, beside this memory: a truth value's is 0 or 1, a pair's the address
-- of 16 bytes of the memory whose two words may be those of its parts.
abbrev pub IsWordOf : GroundType → ℕ → Memory → Type 0
IsWordOf (base Int) n memory = Unit {0}
IsWordOf (base Truth) n memory = (n ≡ 0) ⊎ (n ≡ 1)
IsWordOf (product s t) n memory = IsTrue (is_inside memory n 16) × IsWordOf s (read_bytes 8 n memory) memory
    × IsWordOf t (read_bytes 8 (n + 8) memory) memory

-- any word may be a function's
abbrev pub IsWordOfKernel : KernelType → ℕ → Memory → Type 0
IsWordOfKernel (of_ground t) n memory = IsWordOf t n memory
IsWordOfKernel (to s t) n memory = Unit {0}

-- An invocation ends as no kernel does: by a trap other than a kernel's, or with a word of which P doesn't hold. An end
-- with another number of words, or with an i32, can't come for a valid module of the shape, whose `init` and `call`
-- give one i64 by their types. Nor can an end where no rule fits, and where the units are spent a kernel may end too.
abbrev pub IsStrayEnd : (ℕ → Memory → Type 0) → End → Type 0
IsStrayEnd P (ended st (I64 n ∷ []) units) = P n st.memory → ⊥
IsStrayEnd P (trapped Divide st) = ⊥
IsStrayEnd P (trapped Overflow st) = ⊥
IsStrayEnd P (trapped OutOfBounds st) = ⊥
IsStrayEnd P (trapped t st) = Unit {0}
IsStrayEnd P _ = ⊥

-- Of calls on one instance, one after another, where `call` is function g and `init` gave r: each before the last ends
-- with a word, and the last as no kernel does with results of type t.
pub data EndStray (m : PureModule) (g r : ℕ) (t : GroundType) : List Call → Store → Type 0 where
  here : {c : Call} {calls : List Call} {st : Store}
      → IsStrayEnd (IsWordOf t) (invoked m st g (I64 r ∷ leaves c.argument) c.units) → EndStray m g r t (c ∷ calls) st
  later : {c : Call} {calls : List Call} {st after : Store} {n left : ℕ}
      → invoked m st g (I64 r ∷ leaves c.argument) c.units ≡ ended after (I64 n ∷ []) left
      → EndStray m g r t calls after → EndStray m g r t (c ∷ calls) st

-- A play of a module: its `init` with some units, and then calls with arguments of its type. The module is stray for
-- the kernel type where some play of it ends as no kernel of the type does.
pub data IsStray (m : PureModule) : KernelType → Type 0 where
  in_init : {k : KernelType} {st : Store} {f : ℕ} (n : ℕ) → instantiated m ≡ Ok st → exported m (codes "init") ≡ Some f
      → IsStrayEnd (IsWordOfKernel k) (invoked m st f [] n) → IsStray m k
  in_call : {s t : GroundType} {st after : Store} {f g r left : ℕ} {calls : List Call} (n : ℕ)
      → instantiated m ≡ Ok st → exported m (codes "init") ≡ Some f → exported m (codes "call") ≡ Some g
      → AreCalls s calls
      → invoked m st f [] n ≡ ended after (I64 r ∷ []) left → EndStray m g r t calls after → IsStray m (to s t)
