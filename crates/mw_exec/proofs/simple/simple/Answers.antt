use Rattle.std.proofs.Common.{refl, ap, []}
use Rattle.mw_wasm.specs.declared.values.Trap.TheVariants.{Unreachable}
use Rattle.mw_wasm.specs.Syntax.{nop, unreachable, store}
use Rattle.mw_wasm.specs.Act.{constant}
use Rattle.mw_wasm.specs.Views.{instruction_of, module_of}
use Rattle.mw_exec.specs.declared.outcome.Outcome.TheVariants as outcome
use Rattle.mw_exec.specs.Views.{store_of}
use Rattle.mw_exec.proofs.ArmRules.{arm, arm_st, arm_held, arm_aligned, arm_const, arm_size, arm_simply}
use Rattle.mw_exec.proofs.simple.simple.Goals as goal

pub returns-in-LocalGet-clause-simply : goal.returns-in-LocalGet-clause-simply
returns-in-LocalGet-clause-simply c = arm_st c.local_get.result (module_of c.args.wasm.now)
    (instruction_of c.args.instruction.now) _ (store_of c.args.held.now) c.args.base c.args.locals.now c.args.locals.now
    c.args.height c.args.stack.now c.local_get.new.stack (ap instruction_of c.in-LocalGet.is) refl
    c.local_get.ensures.comes

pub returns-in-LocalSet-clause-simply : goal.returns-in-LocalSet-clause-simply
returns-in-LocalSet-clause-simply c = arm _ _ _ _ _ _ _ _ _ _ (ap instruction_of c.in-LocalSet.is) refl
    (c.local_set.ensures.comes (module_of c.args.wasm.now) (store_of c.args.held.now))

pub returns-in-ConstI32-clause-simply : goal.returns-in-ConstI32-clause-simply
returns-in-ConstI32-clause-simply c = arm_const _ _ _ _ _ _ _ _ (ap (λ i. constant (instruction_of i)) c.in-ConstI32.is)
    c.constant.ensures.on c.constant.ensures.top

pub returns-in-ConstI64-clause-simply : goal.returns-in-ConstI64-clause-simply
returns-in-ConstI64-clause-simply c = arm_const _ _ _ _ _ _ _ _ (ap (λ i. constant (instruction_of i)) c.in-ConstI64.is)
    c.constant-in-ConstI64.ensures.on c.constant-in-ConstI64.ensures.top

pub returns-in-Num-clause-simply : goal.returns-in-Num-clause-simply
returns-in-Num-clause-simply c = arm _ _ _ _ _ _ _ _ _ _ (ap instruction_of c.in-Num.is) refl
    (c.number.ensures.comes (module_of c.args.wasm.now) (store_of c.args.held.now) _)

pub returns-in-Load-clause-simply : goal.returns-in-Load-clause-simply
returns-in-Load-clause-simply c = arm _ _ _ _ _ _ _ _ _ _ (ap instruction_of c.in-Load.is) refl
    (c.load.ensures.comes (module_of c.args.wasm.now) c.in-Load.field-1 _)

pub returns-in-Store-clause-simply : goal.returns-in-Store-clause-simply
returns-in-Store-clause-simply c = arm_aligned c.store.result (module_of c.args.wasm.now)
    (instruction_of c.args.instruction.now) (λ align. store c.in-Store.op align c.in-Store.offset) c.in-Store.field-1
    c.args.held.now c.store.new.held _ c.args.height c.args.stack.now c.store.new.stack
    (ap instruction_of c.in-Store.is) refl c.store.ensures.comes

pub returns-in-GlobalGet-clause-simply : goal.returns-in-GlobalGet-clause-simply
returns-in-GlobalGet-clause-simply c = arm_held c.global_get.result (module_of c.args.wasm.now)
    (instruction_of c.args.instruction.now) _ c.args.held.now c.args.held.now _ c.args.height c.args.stack.now
    c.global_get.new.stack (ap instruction_of c.in-GlobalGet.is) refl c.global_get.ensures.comes

pub returns-in-GlobalSet-clause-simply : goal.returns-in-GlobalSet-clause-simply
returns-in-GlobalSet-clause-simply c = arm _ _ _ _ _ _ _ _ _ _ (ap instruction_of c.in-GlobalSet.is) refl
    (c.global_set.ensures.comes (module_of c.args.wasm.now) _)

pub returns-in-Drop-clause-simply : goal.returns-in-Drop-clause-simply
returns-in-Drop-clause-simply c = arm _ _ _ _ _ _ _ _ _ _ (ap instruction_of c.in-Drop.is) refl
    (c.drop_value.ensures.comes (module_of c.args.wasm.now) (store_of c.args.held.now) _)

pub returns-in-Select-clause-simply : goal.returns-in-Select-clause-simply
returns-in-Select-clause-simply c = arm _ _ _ _ _ _ _ _ _ _ (ap instruction_of c.in-Select.is) refl
    (c.select.ensures.comes (module_of c.args.wasm.now) (store_of c.args.held.now) _)

pub returns-in-Nop-clause-simply : goal.returns-in-Nop-clause-simply
returns-in-Nop-clause-simply c = arm outcome.On (module_of c.args.wasm.now) (instruction_of c.args.instruction.now) nop
    (store_of c.args.held.now) _ _ _ _ _ (ap instruction_of c.in-Nop.is) refl refl

pub returns-in-Unreachable-clause-simply : goal.returns-in-Unreachable-clause-simply
returns-in-Unreachable-clause-simply c = arm (outcome.Trap Unreachable) (module_of c.args.wasm.now)
    (instruction_of c.args.instruction.now) unreachable (store_of c.args.held.now) _ _ (store_of c.args.held.now) [] []
    (ap instruction_of c.in-Unreachable.is) refl refl

pub returns-in-MemorySize-clause-simply : goal.returns-in-MemorySize-clause-simply
returns-in-MemorySize-clause-simply c = arm_size _ _ _ _ _ _ _ (ap instruction_of c.in-MemorySize.is)
    c.constant-in-MemorySize.ensures.on c.constant-in-MemorySize.ensures.top

pub returns-in-LocalTee-clause-simply : goal.returns-in-LocalTee-clause-simply
returns-in-LocalTee-clause-simply c = arm_simply c.local_tee.result (module_of c.args.wasm.now)
    (instruction_of c.args.instruction.now) _ (store_of c.args.held.now) c.args.base c.args.locals.now
    c.local_tee.new.locals c.args.height c.args.stack.now c.local_tee.new.stack (ap instruction_of c.in-LocalTee.is)
    c.local_tee.ensures.simply

pub returns-in-MemoryGrow-clause-simply : goal.returns-in-MemoryGrow-clause-simply
returns-in-MemoryGrow-clause-simply c = arm _ _ _ _ _ _ _ _ _ _ (ap instruction_of c.in-MemoryGrow.is) refl
    (c.grow.ensures.comes _)
