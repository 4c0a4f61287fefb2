use Rattle.mw_wasm.proofs.OpcodeRows.{instruction_rows, opcode_rows}
use Rattle.mw_wasm.proofs.laws.format.opcodes_are_spelled.Goals as goal

pub returns-clause-instructions : goal.returns-clause-instructions
returns-clause-instructions c = instruction_rows

pub returns-clause-families : goal.returns-clause-families
returns-clause-families c = opcode_rows
