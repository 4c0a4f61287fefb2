use Rattle.std.proofs.Common.{◌≡◌, ◌++◌, refl, append_assoc, arith}
use Rattle.std.specs.List.{flat_map}
use Rattle.mw_wasm.specs.Views.{code_of}
use Rattle.mw_encode.specs.Encoding.{code_bytes}
use Rattle.mw_encode.proofs.Pieces.{rest_start, rest_step, rest_end}
use Rattle.mw_encode.proofs.Codes.{each_instruction, each_bytes, code_items, bytes_of_items, block_bytes, loop_bytes}
use Rattle.mw_encode.proofs.Codes.{cond_bytes_none, cond_bytes_some, table_count}
use Rattle.mw_encode.proofs.instructions.+put.Goals as goal

pub put_code-loop-instruction-init : goal.put_code-loop-instruction-init
put_code-loop-instruction-init t c =
    rw c.as_slice-list.ensures (rest_start each_instruction each_bytes _ _ (code_items _ c.requires))

pub put_code-returns : goal.put_code-returns
put_code-returns t c =
    let e : flat_map each_bytes c.as_slice-list.result.now ≡ code_bytes (code_of c.args.instructions.now) =
    rw c.as_slice-list.ensures (bytes_of_items c.args.instructions.now.inner.items) in
    let w : c.loop-instruction.out.items ≡ c.args.out.now.items ++ flat_map each_bytes c.as_slice-list.result.now =
    rest_end each_instruction each_bytes _ _ _ _ c.loop-instruction-test.false c.loop-instruction.invariant in
    rw (w, e) refl

pub put_instruction-returns-then-len-eq0 : goal.put_instruction-returns-then-len-eq0
put_instruction-returns-then-len-eq0 t c = rw (cond_bytes_none _ _ _ _ c.in-If.is (omega arith))
    (simp (c.in_ok-put_code-in-If.ensures, c.in_ok-put_opening-in-If.ensures, append_assoc) at
    c.put_byte-then-len-eq0.ensures)

pub put_instruction-returns-in_ok-put_code-in-If-2 : goal.put_instruction-returns-in_ok-put_code-in-If-2
put_instruction-returns-in_ok-put_code-in-If-2 t c = rw (cond_bytes_some _ _ _ _ c.in-If.is (omega arith))
    (simp (
      c.in_ok-put_code-in-If-2.ensures,
      c.in_ok-put_byte-in-If.ensures,
      c.in_ok-put_code-in-If.ensures,
      c.in_ok-put_opening-in-If.ensures,
      append_assoc,
    ) at c.put_byte-else-len-eq0-2.ensures)

pub put_code-loop-instruction-preserved : goal.put_code-loop-instruction-preserved
put_code-loop-instruction-preserved t c = rest_step each_instruction each_bytes c.as_slice-list.result.now
    c.loop-instruction.instruction-index c.instruction-item.result c.loop-instruction.out.items
    c.put_instruction.new.out.items _ c.loop-instruction-test.true c.instruction-item.is c.in_ok-put_instruction.ensures
    c.loop-instruction.invariant

pub put_instruction-returns-in_ok-put_code-in-Block : goal.put_instruction-returns-in_ok-put_code-in-Block
put_instruction-returns-in_ok-put_code-in-Block t c = rw (block_bytes _ _ _ c.in-Block.is)
    (simp (c.in_ok-put_code-in-Block.ensures, c.in_ok-put_opening-in-Block.ensures, append_assoc) at
    c.put_byte-in-Block.ensures)

pub put_instruction-returns-in_ok-put_code-in-Loop : goal.put_instruction-returns-in_ok-put_code-in-Loop
put_instruction-returns-in_ok-put_code-in-Loop t c = rw (loop_bytes _ _ _ c.in-Loop.is)
    (simp (c.in_ok-put_code-in-Loop.ensures, c.in_ok-put_opening-in-Loop.ensures, append_assoc) at
    c.put_byte-in-Loop.ensures)

pub put_instruction-returns-in-Unreachable : goal.put_instruction-returns-in-Unreachable
put_instruction-returns-in-Unreachable t c = rw c.in-Unreachable.is c.put_byte.ensures

pub put_instruction-returns-in-Nop : goal.put_instruction-returns-in-Nop
put_instruction-returns-in-Nop t c = rw c.in-Nop.is c.put_byte-in-Nop.ensures

pub put_instruction-returns-in-Br : goal.put_instruction-returns-in-Br
put_instruction-returns-in-Br t c = rw c.in-Br.is c.put_indexed.ensures

pub put_instruction-returns-in-BrIf : goal.put_instruction-returns-in-BrIf
put_instruction-returns-in-BrIf t c = rw c.in-BrIf.is c.put_indexed-in-BrIf.ensures

pub put_instruction-returns-in-Return : goal.put_instruction-returns-in-Return
put_instruction-returns-in-Return t c = rw c.in-Return.is c.put_byte-in-Return.ensures

pub put_instruction-returns-in-Call : goal.put_instruction-returns-in-Call
put_instruction-returns-in-Call t c = rw c.in-Call.is c.put_indexed-in-Call.ensures

pub put_instruction-returns-in-Drop : goal.put_instruction-returns-in-Drop
put_instruction-returns-in-Drop t c = rw c.in-Drop.is c.put_byte-in-Drop.ensures

pub put_instruction-returns-in-Select : goal.put_instruction-returns-in-Select
put_instruction-returns-in-Select t c = rw c.in-Select.is c.put_byte-in-Select.ensures

pub put_instruction-returns-in-LocalGet : goal.put_instruction-returns-in-LocalGet
put_instruction-returns-in-LocalGet t c = rw c.in-LocalGet.is c.put_indexed-in-LocalGet.ensures

pub put_instruction-returns-in-LocalSet : goal.put_instruction-returns-in-LocalSet
put_instruction-returns-in-LocalSet t c = rw c.in-LocalSet.is c.put_indexed-in-LocalSet.ensures

pub put_instruction-returns-in-LocalTee : goal.put_instruction-returns-in-LocalTee
put_instruction-returns-in-LocalTee t c = rw c.in-LocalTee.is c.put_indexed-in-LocalTee.ensures

pub put_instruction-returns-in-GlobalGet : goal.put_instruction-returns-in-GlobalGet
put_instruction-returns-in-GlobalGet t c = rw c.in-GlobalGet.is c.put_indexed-in-GlobalGet.ensures

pub put_instruction-returns-in-GlobalSet : goal.put_instruction-returns-in-GlobalSet
put_instruction-returns-in-GlobalSet t c = rw c.in-GlobalSet.is c.put_indexed-in-GlobalSet.ensures

pub put_instruction-returns-in-MemorySize : goal.put_instruction-returns-in-MemorySize
put_instruction-returns-in-MemorySize t c = rw c.in-MemorySize.is c.put_two.ensures

pub put_instruction-returns-in-MemoryGrow : goal.put_instruction-returns-in-MemoryGrow
put_instruction-returns-in-MemoryGrow t c = rw c.in-MemoryGrow.is c.put_two-in-MemoryGrow.ensures

pub put_instruction-returns-in-ConstI32 : goal.put_instruction-returns-in-ConstI32
put_instruction-returns-in-ConstI32 t c = rw c.in-ConstI32.is c.put_constant_32.ensures

pub put_instruction-returns-in-ConstI64 : goal.put_instruction-returns-in-ConstI64
put_instruction-returns-in-ConstI64 t c = rw c.in-ConstI64.is c.put_constant_64.ensures

pub put_instruction-returns-in-Load : goal.put_instruction-returns-in-Load
put_instruction-returns-in-Load t c = rw (c.in-Load.is, ← c.opcode_of_load.ensures) c.put_pair.ensures

pub put_instruction-returns-in-Store : goal.put_instruction-returns-in-Store
put_instruction-returns-in-Store t c = rw (c.in-Store.is, ← c.opcode_of_store.ensures) c.put_pair-in-Store.ensures

pub put_instruction-returns-in-Num : goal.put_instruction-returns-in-Num
put_instruction-returns-in-Num t c = rw (c.in-Num.is, ← c.opcode_of_numeric.ensures) c.put_byte-in-Num.ensures

pub put_instruction-put_branches-requires : goal.put_instruction-put_branches-requires
put_instruction-put_branches-requires t c = table_count _ _ _ c.in-BrTable.is c.requires

pub put_instruction-returns-in-BrTable : goal.put_instruction-returns-in-BrTable
put_instruction-returns-in-BrTable t c = rw c.in-BrTable.is c.put_branches.ensures

pub put_instruction-returns-in-CallIndirect : goal.put_instruction-returns-in-CallIndirect
put_instruction-returns-in-CallIndirect t c = rw c.in-CallIndirect.is c.put_indirect_call.ensures
