use Rattle.std.proofs.Common.{[], sym, ◌∙◌, subst, refl, Some}
use Rattle.std.specs.Arc.{arc_value}
use Rattle.mw_term.specs.Terms.{ground_of, kernel_type_of}
use Rattle.mw_meaning.specs.Shapes.{HasCall}
use Rattle.mw_wasm.specs.Instances.{invoked}
use Rattle.mw_wasm.specs.Views.{module_of}
use Rattle.mw_exec.specs.InstanceStates.{store_in}
use Rattle.mw_kernel.specs.declared.running.Began.TheVariants as began
use Rattle.mw_kernel.specs.RunningStates.{RunningState, IsStoreOf}
use Rattle.mw_kernel.specs.KernelAnswers.{IsStartOf, IsBeganAs}
use Rattle.mw_kernel.specs.Invoking.{EndsAsOutcome, LeavesStore}
use Rattle.mw_kernel.proofs.AnswerLemmas.{begins_first, ground_start, function_start, trap_start, bound_start}
use Rattle.mw_kernel.proofs.RunningLemmas.{init_ends, is_runnable}
use Rattle.mw_kernel.proofs.running.begin.Goals as goal

pub invariant_of-running : goal.invariant_of-running
invariant_of-running c =
    let wasm = arc_value c.args.module.now in
    let after = store_in c.invoke_word.new.instance in
    is_runnable wasm (arc_value c.in_ok-try_clone-in-Word.field-0) c.invoke_word.new.instance c.in-Word.function
    (ground_of c.in-Fun.argument) (ground_of c.in_ok-copied_ground-in-Word.field-0)
    (ground_of c.in_ok-copied_ground-in-Word-2.field-0)
    c.in_ok-try_clone-in-Word.ensures (c.invoke_word.ensures.same ∙ c.in_ok-instance.ensures.of)
    c.in_ok-instance.ensures.valid (begins_first (module_of wasm) c.requires.store c.requires.has_instance)
    (subst (λ k. HasCall (module_of wasm) (kernel_type_of k)) c.in-Fun.is c.requires.call)
    c.in_ok-copied_ground-in-Word.ensures
    (subst (λ w. IsStoreOf (module_of w) after) c.in_ok-instance.ensures.of
    (subst (λ o. LeavesStore o (module_of c.in_ok-instance.instance.wasm) after) c.in-Word.is
    c.in_ok-outcome.ensures.store))

pub returns-in-Ground : goal.returns-in-Ground
returns-in-Ground c = λ st f here is.
    let wasm = arc_value c.args.module.now in
    let first = store_in c.in_ok-instance.instance in
    let after = store_in c.invoke_word.new.instance in
    let e = invoked (module_of wasm) st f [] c.args.fuel in
    subst (λ k. IsStartOf c.begun_as.result wasm (kernel_type_of k) e) (sym c.in-Ground.is)
    (ground_start (ground_of c.in-Ground.ground) after wasm c.answer_of.result c.begun_as.result c.in_ok-outcome.outcome
    e c.answer_of.ensures c.begun_as.ensures
    (init_ends wasm c.in_ok-instance.instance.wasm first st after f c.args.fuel c.in_ok-outcome.outcome
    c.in_ok-instance.ensures.of c.in_ok-instance.ensures.store
    (begins_first (module_of wasm) c.requires.store c.requires.has_instance) here is c.in_ok-outcome.ensures.ends))

pub returns-in_ok-copied_ground-in-Word-2 : goal.returns-in_ok-copied_ground-in-Word-2
returns-in_ok-copied_ground-in-Word-2 c = λ st f here is.
    let wasm = arc_value c.args.module.now in
    let first = store_in c.in_ok-instance.instance in
    let after = store_in c.invoke_word.new.instance in
    let e = invoked (module_of wasm) st f [] c.args.fuel in
    let r : RunningState = record {
      wasm = arc_value c.in_ok-try_clone-in-Word.field-0;
      held = Some c.invoke_word.new.instance;
      function = c.in-Word.function;
      argument = ground_of c.in_ok-copied_ground-in-Word.field-0;
      result = ground_of c.in_ok-copied_ground-in-Word-2.field-0;
    } in
    subst (λ k. IsBeganAs wasm (kernel_type_of k) (began.Function r c.in-Word.left) e) (sym c.in-Fun.is)
    (function_start wasm (ground_of c.in-Fun.argument) (ground_of c.in-Fun.result) after c.in-Word.function
    c.in-Word.left r e
    record {
      wasm_is = c.in_ok-try_clone-in-Word.ensures;
      store_is = refl;
      function_is = refl;
      argument_is =
          c.in_ok-copied_ground-in-Word.ensures;
      result_is = c.in_ok-copied_ground-in-Word-2.ensures;
    }
    (subst (λ o. EndsAsOutcome o after e) c.in-Word.is
    (init_ends wasm c.in_ok-instance.instance.wasm first st after f c.args.fuel c.in_ok-outcome.outcome
    c.in_ok-instance.ensures.of c.in_ok-instance.ensures.store
    (begins_first (module_of wasm) c.requires.store c.requires.has_instance) here is c.in_ok-outcome.ensures.ends)))

pub returns-in-Trap : goal.returns-in-Trap
returns-in-Trap c = λ st f here is.
    let wasm = arc_value c.args.module.now in
    let first = store_in c.in_ok-instance.instance in
    let after = store_in c.invoke_word.new.instance in
    let e = invoked (module_of wasm) st f [] c.args.fuel in
    subst (λ k. IsBeganAs wasm (kernel_type_of k) (began.Trap c.in-Trap.trap) e) (sym c.in-Fun.is)
    (trap_start wasm (ground_of c.in-Fun.argument) (ground_of c.in-Fun.result) after c.in-Trap.trap e
    (subst (λ o. EndsAsOutcome o after e) c.in-Trap.is
    (init_ends wasm c.in_ok-instance.instance.wasm first st after f c.args.fuel c.in_ok-outcome.outcome
    c.in_ok-instance.ensures.of c.in_ok-instance.ensures.store
    (begins_first (module_of wasm) c.requires.store c.requires.has_instance) here is c.in_ok-outcome.ensures.ends)))

pub returns-in-Bound : goal.returns-in-Bound
returns-in-Bound c = λ st f here is.
    let wasm = arc_value c.args.module.now in
    let first = store_in c.in_ok-instance.instance in
    let after = store_in c.invoke_word.new.instance in
    let e = invoked (module_of wasm) st f [] c.args.fuel in
    subst (λ k. IsBeganAs wasm (kernel_type_of k) (began.Bound c.in-Bound.limit) e) (sym c.in-Fun.is)
    (bound_start wasm (ground_of c.in-Fun.argument) (ground_of c.in-Fun.result) after c.in-Bound.limit e
    (subst (λ o. EndsAsOutcome o after e) c.in-Bound.is
    (init_ends wasm c.in_ok-instance.instance.wasm first st after f c.args.fuel c.in_ok-outcome.outcome
    c.in_ok-instance.ensures.of c.in_ok-instance.ensures.store
    (begins_first (module_of wasm) c.requires.store c.requires.has_instance) here is c.in_ok-outcome.ensures.ends)))
