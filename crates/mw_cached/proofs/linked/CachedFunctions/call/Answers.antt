use Rattle.std.proofs.Common.{sym, subst}
use Rattle.mw_term.specs.Terms.{Expression, KernelType, ground_value_of}
use Rattle.mw_meaning.specs.Simplification.{in_mode}
use Rattle.mw_machine.specs.KernelCalls.{AnswersCall}
use Rattle.mw_cached.specs.Answers.{told}
use Rattle.mw_cached.specs.FunctionStates.{run_of_kept}
use Rattle.mw_cached.specs.Links.{CachedState, IsRightIn}
use Rattle.mw_cached.specs.StrayRecords.{BadIsStrayRecord}
use Rattle.mw_cached.proofs.LinkLemmas.{linked_run, linked_means}
use Rattle.mw_cached.proofs.TellingLemmas.{as_told, tells_record, stray_is_told}
use Rattle.mw_cached.proofs.linked.CachedFunctions.call.Goals as goal

pub tell-requires : goal.tell-requires
tell-requires c =
    let callable = c.requires.function in
    let run = linked_run _ _ c.args.which (callable.code, callable.type) c.self.view_is c.self.invariant
    callable.here in
    let f = run.function in
    tells_record c.self.inside.cache.now.cache.load c.call-answer.result
    (in_mode c.self.inside.functions.mode (run_of_kept f).0) (run_of_kept f).1 f.wasm f.loaded run.link
    (c.call-answer.ensures.stray f run.here)

pub returns-clause-means : goal.returns-clause-means
returns-clause-means c = λ code kind there right.
    let load = c.self.inside.cache.now.cache.load in
    let mode = c.self.inside.functions.mode in
    let v = ground_value_of c.args.argument.now in
    let answer = told c.call-answer.result in
    let run = linked_run _ _ c.args.which (code, kind) c.self.view_is c.self.invariant there in
    let right' = subst (λ (s : CachedState). IsRightIn s.cache.cache.load s.functions.mode code kind)
    (sym c.self.view_is) right in
    as_told (λ a. AnswersCall c.args.self.now.functions.mode a code kind v c.args.fuel) load c.call-answer.result
    c.tell.result c.tell.ensures (λ d h. h)
    (subst (λ (s : CachedState). AnswersCall s.functions.mode answer code kind v c.args.fuel) c.self.view_is
    (subst (λ (r : Expression × KernelType). AnswersCall mode answer r.0 r.1 v c.args.fuel) run.is
    (c.call-answer.ensures.means run.function run.here
    (linked_means load mode run.function (code, kind) run.is run.link right'))))

pub returns-clause-stray : goal.returns-clause-stray
returns-clause-stray c =
    let callable = c.requires.function in
    let run = linked_run _ _ c.args.which (callable.code, callable.type) c.self.view_is c.self.invariant
    callable.here in
    let f = run.function in
    subst (λ (s : CachedState). BadIsStrayRecord s.cache.cache.load c.tell.result) c.self.view_is
    (stray_is_told c.self.inside.cache.now.cache.load c.call-answer.result c.tell.result
    (in_mode c.self.inside.functions.mode (run_of_kept f).0) (run_of_kept f).1 f.wasm f.loaded c.tell.ensures run.link
    (c.call-answer.ensures.stray f run.here))
