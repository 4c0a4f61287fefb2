use Rattle.std.proofs.Common.{◌≡◌, ◌++◌, ◌+◌, ◌*◌, drop}
use Rattle.std.specs.List.{flat_map}
use Rattle.mw_wat.proofs.InstructionTexts.{instruction_text}
use Rattle.mw_wat.proofs.instructions.+put.Given as goal

abbrev pub decreases-put_code : goal.decreases-put_code
decreases-put_code l = 2 * goal.size-put_code l

abbrev pub decreases-put_instruction : goal.decreases-put_instruction
decreases-put_instruction l = 2 * goal.size-put_instruction l

abbrev pub decreases-put_list : goal.decreases-put_list
decreases-put_list l = 2 * goal.size-put_list l + 1

abbrev pub decreases-put_else : goal.decreases-put_else
decreases-put_else l = 2 * goal.size-put_else l + 1

abbrev pub invariant-put_code-loop-instruction : goal.invariant-put_code-loop-instruction
invariant-put_code-loop-instruction l = l.out.items ++ flat_map instruction_text (drop l.instruction-index l.list)
    ≡ l.fn.out.items ++ flat_map instruction_text l.list
