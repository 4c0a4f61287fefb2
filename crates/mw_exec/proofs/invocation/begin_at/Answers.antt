use Rattle.mw_exec.proofs.InvokeRules.{invocation_begins}
use Rattle.mw_exec.proofs.invocation.begin_at.Goals as goal

pub returns : goal.returns
returns c = invocation_begins c.begin.result c.args.wasm.now c.args.f c.args.args.now c.args.fuel
    c.get-function.result.now c.get-kind.result.now c.requires.can c.get-function.ensures c.get-kind.ensures
    c.begin.ensures
