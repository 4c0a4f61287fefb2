use Rattle.std.proofs.Common.{sym, ap, ◌∙◌, subst}
use Rattle.std.specs.Arc.{arc_value}
use Rattle.mw_term.specs.Terms.{ground_of, ground_value_of}
use Rattle.mw_wasm.specs.Views.{module_of}
use Rattle.mw_exec.specs.InstanceStates.{store_in}
use Rattle.mw_meaning.specs.GroundValues.{HasGroundType}
use Rattle.mw_kernel.specs.RunningStates.{RunningState, store_held}
use Rattle.mw_kernel.specs.KernelAnswers.{AnswersCall, StoreAfterCall}
use Rattle.mw_kernel.specs.Invoking.{LeavesStore}
use Rattle.mw_kernel.proofs.RunningLemmas.{without_instance, after_call, call_gives, call_answers, call_leaves_store}
use Rattle.mw_kernel.proofs.running.Running.invoke.Goals as goal

pub invariant_of-self : goal.invariant_of-self
invariant_of-self c = without_instance _ _ c.take.ensures.after c.self.invariant

pub invariant_of-self-in_err-args : goal.invariant_of-self-in_err-args
invariant_of-self-in_err-args c = without_instance _ _ c.take.ensures.after c.self.invariant

pub invariant_of-self-in_err-outcome : goal.invariant_of-self-in_err-outcome
invariant_of-self-in_err-outcome c = without_instance _ _ c.take.ensures.after c.self.invariant

pub invoke_word-requires : goal.invoke_word-requires
invoke_word-requires c =
    let r : RunningState = record {
      wasm = arc_value c.self.inside.module;
      held = c.self.inside.instance;
      function =
          c.self.inside.function;
      argument = ground_of c.self.inside.argument;
      result =
          ground_of c.self.inside.result;
    } in
    call_gives r (ground_value_of c.args.argument.now) c.in_ok-instance.instance c.as_slice.result.now c.self.invariant
    (subst (λ (r : RunningState). HasGroundType r.argument (ground_value_of c.args.argument.now)) (sym c.self.view_is)
    c.requires.argument) c.in_ok-instance.ensures.of
    (c.in_ok-instance.ensures.store ∙ ap (λ held. store_held r.wasm held) c.take.ensures.value)
    (c.as_slice.ensures.value ∙ c.in_ok-args.ensures.values)

pub invariant_of-self-2 : goal.invariant_of-self-2
invariant_of-self-2 c =
    let r : RunningState = record {
      wasm = arc_value c.self.inside.module;
      held = c.self.inside.instance;
      function =
          c.self.inside.function;
      argument = ground_of c.self.inside.argument;
      result =
          ground_of c.self.inside.result;
    } in
    after_call r c.in_ok-outcome.outcome c.invoke_word.new.instance c.unless_spent.result c.unless_spent.ensures
    (c.invoke_word.ensures.same ∙ c.in_ok-instance.ensures.of)
    (subst (λ w. LeavesStore c.in_ok-outcome.outcome (module_of w) (store_in c.invoke_word.new.instance))
    c.in_ok-instance.ensures.of c.in_ok-outcome.ensures.store) c.self.invariant

pub returns-clause-answers : goal.returns-clause-answers
returns-clause-answers c =
    let r : RunningState = record {
      wasm = arc_value c.self.inside.module;
      held = c.self.inside.instance;
      function =
          c.self.inside.function;
      argument = ground_of c.self.inside.argument;
      result =
          ground_of c.self.inside.result;
    } in
    subst (λ r. AnswersCall c.answer_of-answer.result r (ground_value_of c.args.argument.now) c.args.fuel)
    c.self.view_is
    (call_answers r (ground_value_of c.args.argument.now) c.in_ok-instance.instance c.as_slice.result.now
    (store_in c.invoke_word.new.instance) c.args.fuel c.in_ok-outcome.outcome c.answer_of-answer.result
    c.in_ok-instance.ensures.of
    (c.in_ok-instance.ensures.store ∙ ap (λ held. store_held r.wasm held) c.take.ensures.value)
    (c.as_slice.ensures.value ∙ c.in_ok-args.ensures.values) c.in_ok-outcome.ensures.ends
    c.answer_of-answer.ensures)

pub returns-clause-store : goal.returns-clause-store
returns-clause-store c =
    let r : RunningState = record {
      wasm = arc_value c.self.inside.module;
      held = c.self.inside.instance;
      function =
          c.self.inside.function;
      argument = ground_of c.self.inside.argument;
      result =
          ground_of c.self.inside.result;
    } in
    let new : RunningState = record {
      wasm = r.wasm;
      held = c.unless_spent.result;
      function = r.function;
      argument =
          r.argument;
      result = r.result;
    } in
    subst (λ r. StoreAfterCall c.answer_of-answer.result r new (ground_value_of c.args.argument.now) c.args.fuel)
    c.self.view_is
    (call_leaves_store r (ground_value_of c.args.argument.now) c.in_ok-instance.instance c.invoke_word.new.instance
    c.as_slice.result.now c.args.fuel c.in_ok-outcome.outcome c.answer_of-answer.result c.unless_spent.result
    c.in_ok-instance.ensures.of
    (c.in_ok-instance.ensures.store ∙ ap (λ held. store_held r.wasm held) c.take.ensures.value)
    (c.as_slice.ensures.value ∙ c.in_ok-args.ensures.values) c.in_ok-outcome.ensures.ends c.unless_spent.ensures)
