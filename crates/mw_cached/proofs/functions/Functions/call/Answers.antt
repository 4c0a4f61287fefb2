use Rattle.std.proofs.Common.{◌≡◌, Some, slice_get, sym, ap, ◌∙◌, subst}
use Rattle.std.proofs.Math.Seq.{map-set_same}
use Rattle.std.proofs.lemmas.List.Elements.{All-set}
use Rattle.mw_term.specs.Terms.{Expression, KernelType, ground_value_of}
use Rattle.mw_meaning.specs.declared.mode.Mode.{Mode}
use Rattle.mw_machine.specs.KernelCalls.{IsArgumentOf, IsCallAt, AnswersCall}
use Rattle.mw_cached.specs.Answers.{told, BadIsStray}
use Rattle.mw_cached.specs.FunctionStates.{Kept, functions_of, run_of_kept, MeansItsCode}
use Rattle.mw_cached.specs.KeptFunctions.{IsKept, kept_of}
use Rattle.mw_cached.proofs.KeptLemmas.{kept_of_item, run_of_item, all_at, all_at_run}
use Rattle.mw_cached.proofs.functions.Functions.call.Goals as goal

pub call-answer-requires-clause-kept : goal.call-answer-requires-clause-kept
call-answer-requires-clause-kept c =
    let mode = c.self.inside.mode in
    let run : Expression × KernelType = (c.requires.function.code, c.requires.function.type) in
    let here = subst (λ s. slice_get (functions_of s) c.args.which ≡ Some run) (sym c.self.view_is)
    c.requires.function.here in (
      mode,
      all_at_run (IsKept mode) c.self.inside.functions.items c.args.which c.index_mut.result.now run here
          c.index_mut.ensures.value (c.self.invariant (ap (λ s. s.stopped) c.self.view_is ∙ c.requires.open)),
    )

pub call-answer-requires-clause-argument : goal.call-answer-requires-clause-argument
call-answer-requires-clause-argument c =
    let run : Expression × KernelType = (c.requires.function.code, c.requires.function.type) in
    let here = subst (λ s. slice_get (functions_of s) c.args.which ≡ Some run) (sym c.self.view_is)
    c.requires.function.here in
    let is = run_of_item c.self.inside.functions.items c.args.which c.index_mut.result.now run here
    c.index_mut.ensures.value in
    subst (λ (r : Expression × KernelType). IsArgumentOf r.1 (ground_value_of c.args.argument.now))
    (sym is) c.requires.function.fits

pub invariant_of-self : goal.invariant_of-self
invariant_of-self c = λ goes.
    let mode = c.self.inside.mode in
    let run : Expression × KernelType = (c.requires.function.code, c.requires.function.type) in
    let here = subst (λ s. slice_get (functions_of s) c.args.which ≡ Some run) (sym c.self.view_is)
    c.requires.function.here in
    let all = c.self.invariant (ap (λ s. s.stopped) c.self.view_is ∙ c.requires.open) in
    let kept = all_at_run (IsKept mode) c.self.inside.functions.items c.args.which c.index_mut.result.now run here
    c.index_mut.ensures.value all in
    All-set (IsKept mode) c.self.inside.functions.items c.args.which c.call-answer.new.self
    (c.call-answer.ensures.keeps (sym c.is_last_call-self-inside.ensures ∙ goes) mode kept) all

pub returns-clause-types : goal.returns-clause-types
returns-clause-types c = λ code kind there.
    let here = subst (λ s. slice_get (functions_of s) c.args.which ≡ Some (code, kind)) (sym c.self.view_is) there in
    let is = run_of_item c.self.inside.functions.items c.args.which c.index_mut.result.now (code, kind) here
    c.index_mut.ensures.value in
    subst (λ (r : Expression × KernelType). IsCallAt (told c.call-answer.result) r.1) is c.call-answer.ensures.types

pub returns-clause-means : goal.returns-clause-means
returns-clause-means c = λ f there.
    let mode = c.self.inside.mode in
    let answer = told c.call-answer.result in
    let v = ground_value_of c.args.argument.now in
    let here = subst (λ s. slice_get s.functions c.args.which ≡ Some f) (sym c.self.view_is) there in
    let is = kept_of_item c.self.inside.functions.items c.args.which c.index_mut.result.now f here
    c.index_mut.ensures.value in
    let kept = all_at (IsKept mode) c.self.inside.functions.items c.args.which c.index_mut.result.now
    f here c.index_mut.ensures.value
    (c.self.invariant (ap (λ s. s.stopped) c.self.view_is ∙ c.requires.open)) in
    subst (λ (m : Mode). MeansItsCode m f → AnswersCall m answer (run_of_kept f).0 (run_of_kept f).1 v c.args.fuel)
    (ap (λ s. s.mode) c.self.view_is)
    (subst (λ (f : Kept). MeansItsCode mode f
    → AnswersCall mode answer (run_of_kept f).0 (run_of_kept f).1 v c.args.fuel) is
    (c.call-answer.ensures.means mode kept))

pub returns-clause-stray : goal.returns-clause-stray
returns-clause-stray c = λ f there.
    let here = subst (λ s. slice_get s.functions c.args.which ≡ Some f) (sym c.self.view_is) there in
    let is = kept_of_item c.self.inside.functions.items c.args.which c.index_mut.result.now f here
    c.index_mut.ensures.value in
    subst (λ (f : Kept). BadIsStray c.call-answer.result f.wasm f.loaded (run_of_kept f).1) is
    c.call-answer.ensures.stray

pub returns-clause-functions : goal.returns-clause-functions
returns-clause-functions c =
    map-set_same (λ f. kept_of f) c.self.inside.functions.items c.args.which c.call-answer.new.self
    c.index_mut.result.now (c.call-answer.ensures.kept ∙ ap (λ f. kept_of f) c.index_mut.ensures.value)
    ∙ ap (λ s. s.functions) c.self.view_is
