-- From the Rust types to the pure data.
use Rattle.std.specs.Prelude.{List, [], ◌∷◌, Option, ◌≡◌, refl, map}
use Rattle.std.proofs.Common.{ap, ◌∙◌}
use Rattle.mw_wasm.specs.declared.values.ValType.{ValType}
use Rattle.mw_wasm.specs.declared.instructions.Instr as instr
use Rattle.mw_wasm.specs.declared.instructions.Instr.{Instr}
use Rattle.mw_wasm.specs.declared.instructions.Instr.TheBlock.{hidden-the_row-Instr-0}
use Rattle.mw_wasm.specs.declared.instructions.Instrs.{Instrs}
use Rattle.mw_wasm.specs.declared.modules.Func.{Func}
use Rattle.mw_wasm.specs.declared.modules.GlobalVar.{GlobalVar}
use Rattle.mw_wasm.specs.declared.modules.Export.{Export}
use Rattle.mw_wasm.specs.declared.modules.Element.{Element}
use Rattle.mw_wasm.specs.declared.modules.Segment.{Segment}
use Rattle.mw_wasm.specs.declared.modules.Module.{Module}
use Rattle.mw_wasm.specs.Syntax.{Instruction, Code, unreachable, nop, block, loop, cond, br, br_if, br_table, give_back}
use Rattle.mw_wasm.specs.Syntax.{call, call_indirect, drop_value, select, local_get, local_set, local_tee, global_get}
use Rattle.mw_wasm.specs.Syntax.{global_set, load, store, memory_size, memory_grow, const_i32, const_i64, numeric, end}
use Rattle.mw_wasm.specs.Syntax.{next, Function, Global, Exporting, ElementSegment, DataSegment, PureModule}

abbrev mutual
  pub instruction_of : Instr → Instruction
  instruction_of instr.Unreachable = unreachable
  instruction_of instr.Nop = nop
  instruction_of (instr.Block' t s all) = block t (row_code all)
  instruction_of (instr.Loop' t s all) = loop t (row_code all)
  instruction_of (instr.If' t s all r rest) = cond t (row_code all) (row_code rest)
  instruction_of (instr.Br l) = br l
  instruction_of (instr.BrIf l) = br_if l
  instruction_of (instr.BrTable ls l) = br_table ls l
  instruction_of instr.Return = give_back
  instruction_of (instr.Call f) = call f
  instruction_of (instr.CallIndirect t) = call_indirect t
  instruction_of instr.Drop = drop_value
  instruction_of instr.Select = select
  instruction_of (instr.LocalGet x) = local_get x
  instruction_of (instr.LocalSet x) = local_set x
  instruction_of (instr.LocalTee x) = local_tee x
  instruction_of (instr.GlobalGet x) = global_get x
  instruction_of (instr.GlobalSet x) = global_set x
  instruction_of (instr.Load o a n) = load o a n
  instruction_of (instr.Store o a n) = store o a n
  instruction_of instr.MemorySize = memory_size
  instruction_of instr.MemoryGrow = memory_grow
  instruction_of (instr.ConstI32 n) = const_i32 n
  instruction_of (instr.ConstI64 n) = const_i64 n
  instruction_of (instr.Num o) = numeric o

  pub row_code : {m : _} → instr.Row_of-Instr m → Code
  row_code instr.end_of-Instr = end
  row_code (instr.more_of-Instr i rest) = next (instruction_of i) (row_code rest)

abbrev pub list_code : List Instr → Code
list_code [] = end
list_code (i ∷ is) = next (instruction_of i) (list_code is)

abbrev pub code_of : Instrs → Code
code_of x = list_code x.inner.items

row_list : (n : _) (k : instr.Row_of-Instr n) → row_code k ≡ list_code (instr.items-the_row-Instr n k)
row_list n instr.end_of-Instr = refl
row_list n (instr.more_of-Instr i rest) = ap (λ c. next (instruction_of i) c) (row_list _ rest)

-- instructions as a form holds them, and as a list
held : (c : Instrs) → row_code (hidden-the_row-Instr-0 c.inner) ≡ code_of c
held c = row_list _ (hidden-the_row-Instr-0 c.inner) ∙ ap list_code (instr.items_hidden-the_row-Instr-0 c.inner)

-- the forms that hold instructions, as a program takes them apart
pub block_is : (t : Option ValType) (c : Instrs) → instruction_of (instr.Block t c) ≡ block t (code_of c)
block_is t c = ap (λ d. block t d) (held c)

pub loop_is : (t : Option ValType) (c : Instrs) → instruction_of (instr.Loop t c) ≡ loop t (code_of c)
loop_is t c = ap (λ d. loop t d) (held c)

pub cond_is : (t : Option ValType) (a b : Instrs) → instruction_of (instr.If t a b) ≡ cond t (code_of a) (code_of b)
cond_is t a b = rw (held a, held b) refl

abbrev pub function_of : Func → Function
function_of f = record { kind = f.kind; locals = f.locals; body = code_of f.body }

abbrev pub global_of : GlobalVar → Global
global_of g = record { kind = g.kind; variable = g.variable; init = code_of g.init }

abbrev pub export_of : Export → Exporting
export_of e = record { name = e.name; what = e.what }

abbrev pub element_of : Element → ElementSegment
element_of e = record { offset = code_of e.offset; funcs = e.funcs }

abbrev pub segment_of : Segment → DataSegment
segment_of s = record { offset = code_of s.offset; bytes = s.bytes }

abbrev pub module_of : Module → PureModule
module_of m = record {
  types = m.types;
  funcs = map function_of m.funcs;
  table = m.table;
  memory = m.memory;
  globals = map global_of m.globals;
  exports = map export_of m.exports;
  elements = map element_of m.elements;
  segments = map segment_of m.segments;
}
