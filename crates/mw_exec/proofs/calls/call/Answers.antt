use Rattle.std.proofs.Common.{arith}
use Rattle.mw_exec.proofs.CallRules.{no_type, no_function}
use Rattle.mw_exec.proofs.calls.call.Goals as goal

pub returns-else-function-len : goal.returns-else-function-len
returns-else-function-len c = no_type c.args.wasm.now c.args.f c.get-function.result.now c.args.state.now _
    c.get-function.ensures (omega arith)

pub returns-else-f-len : goal.returns-else-f-len
returns-else-f-len c = no_function c.args.wasm.now c.args.f c.args.state.now _ (omega arith)
