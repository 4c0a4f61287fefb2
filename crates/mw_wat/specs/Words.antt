-- The words of instructions, as the functions that read them answer.
use Rattle.std.specs.Prelude.{ℕ, List, [], ◌∷◌, ◌++◌, map, Option, Some, None}
use Rattle.std.specs.Int.{w32, w64}
use Rattle.mw_wasm.specs.declared.numbers.IntOp.{IntOp}
use Rattle.mw_wasm.specs.declared.numbers.NumOp.{NumOp}
use Rattle.mw_wasm.specs.declared.numbers.NumOp.TheVariants as num
use Rattle.mw_wasm.specs.declared.numbers.LoadOp.{LoadOp}
use Rattle.mw_wasm.specs.declared.numbers.StoreOp.{StoreOp}
use Rattle.mw_wasm.specs.Syntax.{Instruction, unreachable, nop, br, br_if, give_back, call, drop_value, select}
use Rattle.mw_wasm.specs.Syntax.{local_get, local_set, local_tee, global_get, global_set, load, store, memory_size}
use Rattle.mw_wasm.specs.Syntax.{memory_grow, const_i32, const_i64, numeric}
use Rattle.mw_wat.specs.declared.reading.words.Indexed.{Indexed}
use Rattle.mw_wat.specs.declared.reading.words.Indexed.TheVariants as with_index
use Rattle.mw_wat.specs.declared.reading.words.Name.{Name}
use Rattle.mw_wat.specs.declared.reading.words.Name.TheVariants as name
use Rattle.mw_wat.specs.declared.reading.words.Opener.{Opener as Opening}
use Rattle.mw_wat.specs.declared.reading.words.Opener.TheVariants.{Block, Loop, If}
use Rattle.mw_wat.specs.declared.reading.words.Word.{Word}
use Rattle.mw_wat.specs.declared.reading.words.Word.TheVariants as means
use Rattle.mw_wat.specs.Names.{operation_name, number_name, load_name, store_name}
use Rattle.mw_wat.specs.Reading.{Reader, ◌>>=◌, gives, one_of}
use Rattle.mw_wat.specs.Instructions.{as_constant, indexed, at_address, labels, indirect, Opener, a_block, a_loop}
use Rattle.mw_wat.specs.Instructions.{an_if, Meaning, ends, turns, opens, alone, operations, numbers, loads, stores}

-- operations by their names
abbrev pub operation_names : List (List ℕ × IntOp)
operation_names = map (λ o. (operation_name o, o)) operations

-- the same with a front before the names
abbrev pub typed_names : List ℕ → List (List ℕ × IntOp)
typed_names front = map (λ o. (front ++ operation_name o, o)) operations

abbrev pub number_names : List (List ℕ × NumOp)
number_names = map (λ o. (number_name o, o)) numbers

abbrev pub conversions : List (List ℕ × NumOp)
conversions = map (λ o. (number_name o, o)) (num.Wrap ∷ num.ExtendS ∷ num.ExtendU ∷ [])

abbrev pub load_names : List (List ℕ × LoadOp)
load_names = map (λ o. (load_name o, o)) loads

abbrev pub store_names : List (List ℕ × StoreOp)
store_names = map (λ o. (store_name o, o)) stores

abbrev pub indexing : Indexed → ℕ → Instruction
indexing with_index.Br = br
indexing with_index.BrIf = br_if
indexing with_index.Call = call
indexing with_index.LocalGet = local_get
indexing with_index.LocalSet = local_set
indexing with_index.LocalTee = local_tee
indexing with_index.GlobalGet = global_get
indexing with_index.GlobalSet = global_set

-- what stands behind the name of an instruction that holds no list
abbrev pub named : Name → Reader Instruction
named name.Unreachable = gives unreachable
named name.Nop = gives nop
named name.Return = gives give_back
named name.Drop = gives drop_value
named name.Select = gives select
named name.MemorySize = gives memory_size
named name.MemoryGrow = gives memory_grow
named (name.Indexed i) = indexed (indexing i)
named name.ConstI32 = one_of (as_constant w32) >>= λ n. gives (const_i32 n)
named name.ConstI64 = one_of (as_constant w64) >>= λ n. gives (const_i64 n)
named name.BrTable = labels
named name.CallIndirect = indirect
named (name.Num o) = gives (numeric o)
named (name.Load o) = at_address (load o)
named (name.Store o) = at_address (store o)

abbrev pub opener_of : Opening → Opener
opener_of Block = a_block
opener_of Loop = a_loop
opener_of If = an_if

abbrev pub meaning_of : Word → Meaning
meaning_of means.End = ends
meaning_of means.Else = turns
meaning_of (means.Opens o) = opens (opener_of o)
meaning_of (means.Alone n) = alone (named n)

abbrev pub meant_by : Option Word → Option Meaning
meant_by None = None
meant_by (Some w) = Some (meaning_of w)
