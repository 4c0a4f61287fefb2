use Rattle.mw_exec.proofs.InvokeRules.{stays_typed, ends_trapped}
use Rattle.mw_exec.proofs.invocation.invoke_function.Goals as goal

pub returns-in-Done-clause-typed : goal.returns-in-Done-clause-typed
returns-in-Done-clause-typed c = stays_typed c.args.wasm.now c.args.held.now c.args.f c.args.args.now c.args.fuel
    c.in_ok-state.state c.in_ok-state.ensures c.requires.valid c.requires.typed c.run.new.held
    c.in_ok-run.ensures.stopped.stays

pub returns-in-Trap-clause-typed : goal.returns-in-Trap-clause-typed
returns-in-Trap-clause-typed c = stays_typed c.args.wasm.now c.args.held.now c.args.f c.args.args.now c.args.fuel
    c.in_ok-state.state c.in_ok-state.ensures c.requires.valid c.requires.typed c.run.new.held
    c.in_ok-run.ensures.stopped.stays

pub returns-in-Spent-clause-typed : goal.returns-in-Spent-clause-typed
returns-in-Spent-clause-typed c = stays_typed c.args.wasm.now c.args.held.now c.args.f c.args.args.now c.args.fuel
    c.in_ok-state.state c.in_ok-state.ensures c.requires.valid c.requires.typed c.run.new.held
    c.in_ok-run.ensures.stopped.stays

pub returns-in_err-run-clause-typed : goal.returns-in_err-run-clause-typed
returns-in_err-run-clause-typed c = stays_typed c.args.wasm.now c.args.held.now c.args.f c.args.args.now c.args.fuel
    c.in_ok-state.state c.in_ok-state.ensures c.requires.valid c.requires.typed c.run.new.held
    c.in_err-run.ensures.refused

pub returns-in-Trap-clause-ends : goal.returns-in-Trap-clause-ends
returns-in-Trap-clause-ends c = ends_trapped c.args.wasm.now c.args.held.now c.args.f c.args.args.now c.args.fuel
    c.in_ok-state.state c.in_ok-state.ensures c.requires.valid c.requires.typed c.in_ok-run.field-0
    c.in-Trap.trap c.run.new.held c.run.new.state c.in-Trap.is c.in_ok-run.ensures.stopped
