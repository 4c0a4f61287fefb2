use Rattle.std.proofs.Common.{◌++◌, drop}
use Rattle.std.specs.List.{flat_map}
use Rattle.mw_encode.proofs.Pieces.{Rest}
use Rattle.mw_encode.proofs.Codes.{each_instruction, each_bytes}
use Rattle.mw_encode.proofs.instructions.+put.Given as goal

abbrev pub decreases-put_code : goal.decreases-put_code
decreases-put_code l = goal.size-put_code l

abbrev pub decreases-put_instruction : goal.decreases-put_instruction
decreases-put_instruction l = goal.size-put_instruction l

abbrev pub invariant-put_code-loop-instruction : goal.invariant-put_code-loop-instruction
invariant-put_code-loop-instruction l = Rest each_instruction each_bytes (drop l.instruction-index l.list) l.out.items
    (l.fn.out.items ++ flat_map each_bytes l.list)
