-- The module of converted code, in either version. Code is generated before a rest, which runs after it.
use Rattle.std.specs.Prelude.{ℕ, zero, suc, ◌+◌, ◌*◌, Bool, true, false, ◌||◌, if◌then◌else◌, List, [], ◌∷◌, ◌++◌}
use Rattle.std.specs.Prelude.{length, map, replicate, Some, codes}
use Rattle.std.specs.Int.{cast_unsigned}
use mir.Syntax.{w64}
use Rattle.mw_term.specs.declared.term.Primitive.{Primitive as Prim}
use Rattle.mw_term.specs.declared.term.Primitive.TheVariants.{Add, Sub, Mul, Div, Mod, Eq, Lt, Le}
use Rattle.mw_term.specs.Terms.{KernelType, GroundType, base, product, of_ground, to}
use Rattle.mw_meaning.specs.Shapes.{leaf_count, init_type, call_type}
use Rattle.mw_wasm.specs.declared.values.ValType.TheVariants.{I32, I64}
use Rattle.mw_wasm.specs.declared.numbers.IntOp.TheVariants as op
use Rattle.mw_wasm.specs.declared.numbers.IntOp.{IntOp}
use Rattle.mw_wasm.specs.declared.numbers.NumOp.TheVariants as number
use Rattle.mw_wasm.specs.declared.numbers.LoadOp.TheVariants as load_op
use Rattle.mw_wasm.specs.declared.numbers.StoreOp.TheVariants as store_op
use Rattle.mw_wasm.specs.declared.modules.FuncType.{FuncType}
use Rattle.mw_wasm.specs.declared.modules.Exported.TheVariants.{Func}
use Rattle.mw_wasm.specs.Syntax.{Code, end, next, loop, cond, br, call_indirect, local_get, local_set, local_tee}
use Rattle.mw_wasm.specs.Syntax.{global_get, global_set, load, store, const_i32, const_i64, numeric, Function, Global}
use Rattle.mw_wasm.specs.Syntax.{Exporting, ElementSegment, PureModule}
use Rattle.mw_ir.specs.declared.place.Place.TheVariants.{Argument, Own, Slot, Free}
use Rattle.mw_key.specs.declared.version.Version.{Version}
use Rattle.mw_key.specs.declared.version.Version.TheVariants.{One, Two}
use Rattle.mw_ir.specs.Ir as i
use Rattle.mw_ir.specs.declared.place.Place.{Place}
use Rattle.mw_ir.specs.Ir.{Ir, IrFunc}

-- the heap's end moved by m bytes
abbrev pub raising_code : ℕ → Code → Code
raising_code m rest =
    next (global_get 0) (next (const_i32 m) (next (numeric (number.I32 op.Add)) (next (global_set 0) rest)))

abbrev pub wrap : Code → Code
wrap rest = next (numeric number.Wrap) rest

abbrev pub load_word : ℕ → Code → Code
load_word offset rest = next (load load_op.I64 3 offset) rest

abbrev pub store_word : ℕ → Code → Code
store_word offset rest = next (store store_op.I64 3 offset) rest

-- a variable, where the lets' slots begin at local b
abbrev pub place_code : Place → ℕ → Code → Code
place_code Argument b rest = next (local_get 1) rest
place_code Own b rest = next (local_get 0) rest
place_code (Slot s) b rest = next (local_get (b + s)) rest
place_code (Free j) b rest = next (local_get 0) (wrap (load_word (8 * suc j) rest))

-- the places stored as words j and on at the heap's end, where they become a closure's
abbrev pub stores_code : List Place → ℕ → ℕ → Code → Code
stores_code [] j b rest = rest
stores_code (p ∷ ps) j b rest =
    next (global_get 0) (place_code p b (store_word (8 * j) (stores_code ps (suc j) b rest)))

-- the address of m bytes that were stored at the heap's end, which moves past them
abbrev pub address_code : ℕ → Code → Code
address_code m rest = next (global_get 0) (next (numeric number.ExtendU) (raising_code m rest))

-- an application of a closure to an argument, which are the operands; the function's number is the closure's first word
abbrev pub application_code : ℕ → Code → Code
application_code t rest =
    next (local_set (suc t))
    (next (local_tee t)
    (next (local_get (suc t)) (next (local_get t) (wrap (next (load load_op.I32 2 0) (next (call_indirect 0) rest))))))

-- a pair of the operands
abbrev pub pair_code : ℕ → Code → Code
pair_code t rest =
    next (local_set (suc t))
    (next (local_set t)
    (next (global_get 0)
    (next (local_get t)
    (store_word 0 (next (global_get 0) (next (local_get (suc t)) (store_word 8 (address_code 16 rest))))))))

-- a comparison, whose answer becomes a word
abbrev pub comparison_code : IntOp → Code → Code
comparison_code o rest = next (numeric (number.I64 o)) (next (numeric number.ExtendU) rest)

abbrev pub prim_code : Prim → Code → Code
prim_code Add rest = next (numeric (number.I64 op.Add)) rest
prim_code Sub rest = next (numeric (number.I64 op.Sub)) rest
prim_code Mul rest = next (numeric (number.I64 op.Mul)) rest
prim_code Div rest = next (numeric (number.I64 op.DivS)) rest
prim_code Mod rest = next (numeric (number.I64 op.RemS)) rest
prim_code Eq rest = comparison_code op.Eq rest
prim_code Lt rest = comparison_code op.LtS rest
prim_code Le rest = comparison_code op.LeS rest

abbrev pub truth_code : Bool → ℕ
truth_code true = 1
truth_code false = 0

-- the code of an expression, where the lets' slots begin at local b, and t and t + 1 are two spare locals
abbrev pub expression_code : Ir → ℕ → ℕ → Code → Code
expression_code (i.num n) b t rest = next (const_i64 (cast_unsigned w64 n)) rest
expression_code (i.truth c) b t rest = next (const_i64 (truth_code c)) rest
expression_code (i.get p) b t rest = place_code p b rest
expression_code (i.closure k ps) b t rest =
    next (global_get 0)
    (next (const_i64 k) (store_word 0 (stores_code ps 1 b (address_code (8 * suc (length ps)) rest))))
expression_code (i.app f a) b t rest = expression_code f b t (expression_code a b t (application_code t rest))
expression_code (i.bind s d e) b t rest = expression_code d b t (next (local_set (b + s)) (expression_code e b t rest))
expression_code (i.cond c x y) b t rest =
    expression_code c b t (wrap (next (cond (Some I64) (expression_code x b t end) (expression_code y b t end)) rest))
expression_code (i.pair x y) b t rest = expression_code x b t (expression_code y b t (pair_code t rest))
expression_code (i.fst e) b t rest = expression_code e b t (wrap (load_word 0 rest))
expression_code (i.snd e) b t rest = expression_code e b t (wrap (load_word 8 rest))
expression_code (i.prim p x y) b t rest = expression_code x b t (expression_code y b t (prim_code p rest))

-- whether an expression is the own name of the function round it
abbrev pub is_own : Ir → Bool
is_own (i.get Own) = true
is_own _ = false

-- the code of an expression at a tail place of a function with a loop, inside d ifs of it
abbrev pub tail_code : Ir → ℕ → ℕ → ℕ → Code
tail_code (i.app f a) b t d = if is_own f then expression_code a b t (next (local_set 1) (next (br d) end)) else
    expression_code f b t (expression_code a b t (application_code t end))
tail_code (i.bind s a e) b t d = expression_code a b t (next (local_set (b + s)) (tail_code e b t d))
tail_code (i.cond c x y) b t d =
    expression_code c b t (wrap (next (cond (Some I64) (tail_code x b t (suc d)) (tail_code y b t (suc d))) end))
tail_code e b t d = expression_code e b t end

-- whether a self tail call stands at a tail place
abbrev pub has_self_tail_call : Ir → Bool
has_self_tail_call (i.app f a) = is_own f
has_self_tail_call (i.bind s d e) = has_self_tail_call e
has_self_tail_call (i.cond c x y) = has_self_tail_call x || has_self_tail_call y
has_self_tail_call _ = false

-- whether an expression has an application or a pair, and so wants the two spare locals
abbrev pub wants_spare : Ir → Bool
wants_spare (i.app f a) = true
wants_spare (i.bind s d e) = wants_spare d || wants_spare e
wants_spare (i.cond c x y) = wants_spare c || (wants_spare x || wants_spare y)
wants_spare (i.pair x y) = true
wants_spare (i.fst e) = wants_spare e
wants_spare (i.snd e) = wants_spare e
wants_spare (i.prim p x y) = wants_spare x || wants_spare y
wants_spare _ = false

-- the same at a tail place, where a self tail call is no application
abbrev pub tail_wants_spare : Ir → Bool
tail_wants_spare (i.app f a) = if is_own f then wants_spare a else true
tail_wants_spare (i.bind s d e) = wants_spare d || tail_wants_spare e
tail_wants_spare (i.cond c x y) = wants_spare c || (tail_wants_spare x || tail_wants_spare y)
tail_wants_spare e = wants_spare e

-- how many spare locals there are
abbrev pub spare_count : Bool → ℕ
spare_count true = 2
spare_count false = 0

-- whether a function with this body is a loop
abbrev pub is_loop : Version → Ir → Bool
is_loop One e = false
is_loop Two e = has_self_tail_call e

-- of a function's body, which is a loop or not: whether it wants spare locals, and its code
abbrev pub body_wants_spare : Bool → Ir → Bool
body_wants_spare false e = wants_spare e
body_wants_spare true e = tail_wants_spare e

abbrev pub loop_code : Ir → ℕ → Code
loop_code e t = next (loop (Some I64) (tail_code e 2 t 0)) end

abbrev pub body_code : Bool → Ir → ℕ → Code
body_code false e t = expression_code e 2 t end
body_code true e t = loop_code e t

-- a function of type 0, with its closure and its argument as parameters
abbrev pub function_for : Version → IrFunc → Function
function_for v f =
    record {
      kind = 0;
      locals = replicate (f.slots + spare_count (body_wants_spare (is_loop v f.body) f.body)) I64;
      body = body_code (is_loop v f.body) f.body (2 + f.slots);
    }

-- n numbers from k on
abbrev pub counting : ℕ → ℕ → List ℕ
counting k zero = []
counting k (suc n) = k ∷ counting (suc k) n

-- an argument made of its leaves, which stand in the slots from k on
abbrev pub argument_of : GroundType → ℕ → Ir
argument_of (base b) k = i.get (Slot k)
argument_of (product s t) k = i.pair (argument_of s k) (argument_of t (k + leaf_count s))

-- the application that `call` makes: of slot 0 to the argument
abbrev pub call_of : GroundType → Ir
call_of s = i.app (i.get (Slot 0)) (argument_of s 1)

-- `init`, of type 1, runs the code outside all functions
abbrev pub init_function : ℕ → Ir → Function
init_function slots body = record {
  kind = 1;
  locals = replicate (slots + spare_count (wants_spare body)) I64;
  body =
      expression_code body 0 (0 + slots) end;
}

-- `call`, of type 2: the two spare locals follow the parameters, and then stands the local that keeps the heap's end,
-- which it gives back
abbrev pub call_function : GroundType → Function
call_function s = record {
  kind = 2;
  locals = I64 ∷ I64 ∷ I32 ∷ [];
  body =
      next (global_get 0)
      (next (local_set (suc (suc (suc (leaf_count s))))) (expression_code (call_of s) 0 (0 + suc (leaf_count s))
      (next (local_get (suc (suc (suc (leaf_count s))))) (next (global_set 0) end))));
}

-- `init` of a kernel among others: before its code it gives the heap back
abbrev pub restarting : Function → Function
restarting f = record f { body = next (const_i32 0) (next (global_set 0) f.body) }

-- `call`, whose type has this number
abbrev pub call_numbered : ℕ → GroundType → Function
call_numbered x s = record (call_function s) { kind = x }

-- the type of the code's functions: from a closure and an argument to a word
abbrev pub closure_type : FuncType
closure_type = record { params = I64 ∷ I64 ∷ []; results = I64 ∷ [] }

-- what a kernel of a function type has more
abbrev pub more_types : KernelType → List FuncType
more_types (of_ground t) = []
more_types (to s t) = call_type s ∷ []

abbrev pub more_functions : KernelType → List Function
more_functions (of_ground t) = []
more_functions (to s t) = call_function s ∷ []

abbrev pub more_exports : KernelType → ℕ → List Exporting
more_exports (of_ground t) n = []
more_exports (to s t) n = record { name = codes "call"; what = Func n } ∷ []

-- the exports, by the functions' numbers
abbrev pub all_exports : KernelType → (init call : ℕ) → List Exporting
all_exports k init call = record { name = codes "init"; what = Func init } ∷ more_exports k call

-- the heap's end, which begins at 0
abbrev pub heap_end : Global
heap_end = record { kind = I32; variable = true; init = next (const_i32 0) end }

-- the table is filled with the functions, where there are any
abbrev pub elements_of : ℕ → List ElementSegment
elements_of zero = []
elements_of (suc n) = record { offset = next (const_i32 0) end; funcs = counting 0 (suc n) } ∷ []

-- the module of the functions t, and of the code outside them with its slots: function n is number n, `init` stands
-- after them and `call` last; a memory of 64 pages
abbrev pub module_with : Version → List IrFunc → ℕ → Ir → KernelType → PureModule
module_with v t slots body k = record {
  types = closure_type ∷ init_type ∷ more_types k;
  funcs = map (function_for v) t ++ init_function slots body ∷ more_functions k;
  table = Some record { min = length t; max = Some (length t) };
  memory = Some record { min = 64; max = Some 64 };
  globals = heap_end ∷ [];
  exports = all_exports k (length t) (suc (length t));
  elements = elements_of (length t);
  segments = [];
}
