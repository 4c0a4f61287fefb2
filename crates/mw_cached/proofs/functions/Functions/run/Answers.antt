use Rattle.std.proofs.Common.{length, Ok, is_ok, refl, sym, ap, ◌∙◌, subst}
use Rattle.std.proofs.lemmas.List.{length-map}
use Rattle.std.specs.Arc.{arc_value}
use Rattle.mw_term.specs.Terms.{expression_of, kernel_type_of}
use Rattle.mw_meaning.specs.Simplification.{in_mode}
use Rattle.mw_meaning.proofs.SimplificationTyping.{keeps_kernel_type}
use Rattle.mw_machine.specs.declared.kernels.Ran.TheVariants as ran
use Rattle.mw_machine.specs.KernelCalls.{IsRunAt}
use Rattle.mw_kernel.specs.declared.running.Began.TheVariants as began
use Rattle.mw_kernel.specs.KernelAnswers.{HasStartType}
use Rattle.mw_cached.specs.KeptFunctions.{IsKept, kept_of}
use Rattle.mw_cached.proofs.EmittingLemmas.{run_answers, run_typed, run_keeps}
use Rattle.mw_cached.proofs.FaultLemmas.{may_fault, start_is_not_bad, fault_answers, start_is_stray}
use Rattle.mw_cached.proofs.KeptLemmas.{all_pushed, of_either, kept_of_run}
use Rattle.mw_cached.proofs.functions.Functions.run.Goals as goal

pub returns-in-Ok-Value-clause-means : goal.returns-in-Ok-Value-clause-means
returns-in-Ok-Value-clause-means c = λ sound.
    run_answers c.args.self.now.mode _ 0 (began.Value c.in-Ok-Value.value c.in-Ok-Value.left) _ _ _
    (expression_of c.args.code.now) (kernel_type_of c.args.kind.now) c.args.fuel
    refl c.in-Ok-Value.field-0-is refl c.requires.runnable.typed c.requires.shape.literals
    (of_either _ c.args.loaded c.requires.emitted sound) c.in-Ok-Value.ensures.means

pub invariant_of-self-in-Ok-Function : goal.invariant_of-self-in-Ok-Function
invariant_of-self-in-Ok-Function c = λ open'.
    let code = expression_of c.args.code.now in
    let kind = kernel_type_of c.args.kind.now in
    let own = c.args.self.now.mode in
    let mode = c.self.inside.mode in
    let same = ap (λ s. s.mode) c.self.view_is in
    let function = c.of-function.result in
    let is = c.of-function.ensures in
    let start = c.in-Ok-Function.ensures in
    all_pushed (IsKept mode) (is_ok c.push.result) c.self.inside.functions.items c.push.new.self.items function
    c.push.ensures.items (c.self.invariant open')
    (subst (λ m. IsKept m function) (sym same)
    (kept_of_run own function c.args.code.now c.args.kind.now c.in-Ok-Function.running c.args.loaded is.running is.kept
    (run_keeps _ c.in-Ok-Function.running c.in-Ok-Function.left (arc_value c.args.module.now)
    (in_mode own code) kind c.args.fuel c.args.loaded c.in-Ok-Function.field-0-is
    (keeps_kernel_type own code kind c.requires.runnable.typed) c.requires.shape.literals
    start.types start.over start.plays start.means c.requires.emitted)))

pub returns-in_ok-map_err-in-Ok-Function-clause-means : goal.returns-in_ok-map_err-in-Ok-Function-clause-means
returns-in_ok-map_err-in-Ok-Function-clause-means c = λ sound.
    run_answers c.args.self.now.mode _ c.len-which.result
    (began.Function c.in-Ok-Function.running c.in-Ok-Function.left) _ _ _ (expression_of c.args.code.now)
    (kernel_type_of c.args.kind.now) c.args.fuel
    refl c.in-Ok-Function.field-0-is refl c.requires.runnable.typed c.requires.shape.literals
    (of_either _ c.args.loaded c.requires.emitted sound) c.in-Ok-Function.ensures.means

pub returns-in_ok-map_err-in-Ok-Function-clause-types : goal.returns-in_ok-map_err-in-Ok-Function-clause-types
returns-in_ok-map_err-in-Ok-Function-clause-types c =
    let kind = kernel_type_of c.args.kind.now in
    subst (λ next. IsRunAt (Ok (ran.Function c.len-which.result c.in-Ok-Function.left)) kind next)
    (c.len-which.ensures ∙ c.self.inside.functions.ok.0
    ∙ sym (length-map c.self.inside.functions.items (λ f. kept_of f))
    ∙ ap (λ s. length s.functions) c.self.view_is)
    (run_typed c.len-which.result (began.Function c.in-Ok-Function.running c.in-Ok-Function.left) kind
    (subst (λ b. HasStartType (Ok b) kind) c.in-Ok-Function.field-0-is c.in-Ok-Function.ensures.types))

pub returns-in-Ok-Trap-clause-means : goal.returns-in-Ok-Trap-clause-means
returns-in-Ok-Trap-clause-means c = λ sound.
    run_answers c.args.self.now.mode _ 0 (began.Trap c.in-Ok-Trap.trap) _ _ _ (expression_of c.args.code.now)
    (kernel_type_of c.args.kind.now) c.args.fuel
    refl c.in-Ok-Trap.field-0-is refl c.requires.runnable.typed c.requires.shape.literals
    (of_either _ c.args.loaded c.requires.emitted sound) c.in-Ok-Trap.ensures.means

pub returns-in-Ok-Bound-clause-means : goal.returns-in-Ok-Bound-clause-means
returns-in-Ok-Bound-clause-means c = λ sound.
    run_answers c.args.self.now.mode _ 0 (began.Bound c.in-Ok-Bound.limit) _ _ _ (expression_of c.args.code.now)
    (kernel_type_of c.args.kind.now) c.args.fuel
    refl c.in-Ok-Bound.field-0-is refl c.requires.runnable.typed c.requires.shape.literals
    (of_either _ c.args.loaded c.requires.emitted sound) c.in-Ok-Bound.ensures.means

pub fault_of-requires : goal.fault_of-requires
fault_of-requires c =
    let code = expression_of c.args.code.now in
    let kind = kernel_type_of c.args.kind.now in
    let mode = c.args.self.now.mode in
    may_fault c.in-Err.fault c.args.loaded (λ none.
    start_is_not_bad c.in-Err.fault kind _
    (c.in-Err.ensures.means (in_mode mode code)
    (keeps_kernel_type mode code kind c.requires.runnable.typed) (c.requires.emitted none)))

pub returns-in-Err-clause-means : goal.returns-in-Err-clause-means
returns-in-Err-clause-means c = λ sound.
    let code = expression_of c.args.code.now in
    let kind = kernel_type_of c.args.kind.now in
    let mode = c.args.self.now.mode in
    fault_answers c.fault_of.result c.in-Err.fault c.args.loaded _ c.fault_of.ensures
    (start_is_not_bad c.in-Err.fault kind _
    (c.in-Err.ensures.means (in_mode mode code)
    (keeps_kernel_type mode code kind c.requires.runnable.typed)
    (of_either _ c.args.loaded c.requires.emitted sound)))

pub returns-in-Err-clause-stray : goal.returns-in-Err-clause-stray
returns-in-Err-clause-stray c =
    start_is_stray c.fault_of.result c.in-Err.fault c.args.loaded (arc_value c.args.module.now)
    (kernel_type_of c.args.kind.now) c.fault_of.ensures c.in-Err.ensures.stray
