-- Modules and instructions as pure data, without the places in memory (standard: Structure).
use Rattle.std.specs.Prelude.{ℕ, Bool, List, Option}
use Rattle.mw_wasm.specs.declared.values.ValType.{ValType}
use Rattle.mw_wasm.specs.declared.numbers.NumOp.{NumOp}
use Rattle.mw_wasm.specs.declared.numbers.LoadOp.{LoadOp}
use Rattle.mw_wasm.specs.declared.numbers.StoreOp.{StoreOp}
use Rattle.mw_wasm.specs.declared.modules.Limits.{Limits}
use Rattle.mw_wasm.specs.declared.modules.Exported.{Exported}
use Rattle.mw_wasm.specs.declared.modules.FuncType.{FuncType}

-- instructions, and code: a list of them. cond is if, give_back is return.
mutual
  pub data Instruction : Type 0 where
    unreachable : Instruction
    nop : Instruction
    block : (t : Option ValType) (body : Code) → Instruction
    loop : (t : Option ValType) (body : Code) → Instruction
    cond : (t : Option ValType) (a b : Code) → Instruction
    br : (l : ℕ) → Instruction
    br_if : (l : ℕ) → Instruction
    br_table : (ls : List ℕ) (l : ℕ) → Instruction
    give_back : Instruction
    call : (f : ℕ) → Instruction
    call_indirect : (t : ℕ) → Instruction
    drop_value : Instruction
    select : Instruction
    local_get : (x : ℕ) → Instruction
    local_set : (x : ℕ) → Instruction
    local_tee : (x : ℕ) → Instruction
    global_get : (x : ℕ) → Instruction
    global_set : (x : ℕ) → Instruction
    load : (o : LoadOp) (align offset : ℕ) → Instruction
    store : (o : StoreOp) (align offset : ℕ) → Instruction
    memory_size : Instruction
    memory_grow : Instruction
    const_i32 : (n : ℕ) → Instruction
    const_i64 : (n : ℕ) → Instruction
    numeric : (o : NumOp) → Instruction

  pub data Code : Type 0 where
    end : Code
    next : (i : Instruction) (c : Code) → Code

-- a function: the index of its type, the types of its further locals, and its body
pub record Function : Type 0 where
  pub kind : ℕ
  pub locals : List ValType
  pub body : Code

pub record Global : Type 0 where
  pub kind : ValType
  pub variable : Bool
  pub init : Code

pub record Exporting : Type 0 where
  pub name : List ℕ
  pub what : Exported

pub record ElementSegment : Type 0 where
  pub offset : Code
  pub funcs : List ℕ

pub record DataSegment : Type 0 where
  pub offset : Code
  pub bytes : List ℕ

pub record PureModule : Type 0 where
  pub types : List FuncType
  pub funcs : List Function
  pub table : Option Limits
  pub memory : Option Limits
  pub globals : List Global
  pub exports : List Exporting
  pub elements : List ElementSegment
  pub segments : List DataSegment
