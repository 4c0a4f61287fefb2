use Rattle.std.proofs.Common.{◌≡◌, ap, sym, ◌∙◌, subst}
use Rattle.std.specs.List.{All}
use Rattle.std.specs.Arc.{arc_value}
use Rattle.mw_term.specs.Terms.{expression_of, kernel_type_of}
use Rattle.mw_meaning.specs.Simplification.{in_mode}
use Rattle.mw_key.specs.CanonicalText.{IsTextOf}
use Rattle.mw_key.specs.declared.version.Version.TheVariants.{Two}
use Rattle.mw_cache.specs.Gots.{text_in}
use Rattle.mw_machine.specs.KernelCalls.{AnswersRun, kept_after}
use Rattle.mw_cached.specs.Answers.{told}
use Rattle.mw_cached.specs.FunctionStates.{kept_as, functions_of}
use Rattle.mw_cached.specs.Links.{CachedState, IsLinked, IsRightIn}
use Rattle.mw_cached.specs.StrayRecords.{BadIsStrayRecord}
use Rattle.mw_cached.proofs.LinkLemmas.{run_linked, all_linked, linked_stands}
use Rattle.mw_cached.proofs.TellingLemmas.{as_told, stray_is_told}
use Rattle.mw_cached.proofs.linked.CachedFunctions.run.Goals as goal

pub run-answer-requires-clause-shape : goal.run-answer-requires-clause-shape
run-answer-requires-clause-shape c =
    let code = in_mode c.self.inside.functions.mode (expression_of c.args.code.now) in
    let kind = kernel_type_of c.args.kind.now in
    let text = subst (λ (s : CachedState). IsTextOf (text_in s.cache.cache c.args.got.now) Two
    (in_mode s.functions.mode (expression_of c.args.code.now)) kind) (sym c.self.view_is) c.requires.text in
    record {
      shape = c.in_ok-wasm.ensures.shape Two code kind
          (subst (λ x. IsTextOf (text_in x c.args.got.now) Two code kind) (sym c.cache.ensures) text);
      literals = text.kernel.literals;
    }

pub invariant_of-self : goal.invariant_of-self
invariant_of-self c =
    let load = c.self.inside.cache.now.cache.load in
    let code = expression_of c.args.code.now in
    let kind = kernel_type_of c.args.kind.now in
    let wasm = arc_value c.in_ok-wasm.wasm in
    let linked = all_linked load c.self.inside.functions.mode (told c.run-answer.result)
    (kept_as c.args.code.now c.args.kind.now wasm c.record_of.result) c.self.inside.functions.functions
    c.run-answer.new.self.functions c.run-answer.ensures.kept
    (run_linked _ _ c.cache.result.now c.args.got.now code kind wasm c.record_of.result c.self.view_is c.cache.ensures
    c.record_of.ensures c.requires.runnable.typed c.requires.text c.in_ok-wasm.ensures.wasm
    c.in_ok-wasm.ensures.stands) c.self.invariant in
    subst (λ m. All (IsLinked load m) c.run-answer.new.self.functions) (sym c.run-answer.ensures.mode) linked

pub returns-clause-stray : goal.returns-clause-stray
returns-clause-stray c =
    let kind = kernel_type_of c.args.kind.now in
    let wasm = arc_value c.in_ok-wasm.wasm in
    subst (λ (s : CachedState). BadIsStrayRecord s.cache.cache.load c.tell.result) c.self.view_is
    (stray_is_told c.self.inside.cache.now.cache.load c.run-answer.result c.tell.result
    (in_mode c.self.inside.functions.mode (expression_of c.args.code.now)) kind wasm c.record_of.result c.tell.ensures
    (run_linked _ _ c.cache.result.now c.args.got.now (expression_of c.args.code.now) kind wasm c.record_of.result
    c.self.view_is c.cache.ensures c.record_of.ensures c.requires.runnable.typed c.requires.text
    c.in_ok-wasm.ensures.wasm c.in_ok-wasm.ensures.stands) c.run-answer.ensures.stray)

pub returns-clause-means : goal.returns-clause-means
returns-clause-means c = λ right.
    let load = c.self.inside.cache.now.cache.load in
    let mode = c.self.inside.functions.mode in
    let code = expression_of c.args.code.now in
    let kind = kernel_type_of c.args.kind.now in
    let wasm = arc_value c.in_ok-wasm.wasm in
    let answer = told c.run-answer.result in
    let right' = subst (λ (s : CachedState). IsRightIn s.cache.cache.load s.functions.mode code kind)
    (sym c.self.view_is) right in
    let link = run_linked _ _ c.cache.result.now c.args.got.now code kind wasm c.record_of.result c.self.view_is
    c.cache.ensures c.record_of.ensures c.requires.runnable.typed c.requires.text c.in_ok-wasm.ensures.wasm
    c.in_ok-wasm.ensures.stands in
    as_told (λ a. AnswersRun c.args.self.now.functions.mode a code kind c.args.fuel) load c.run-answer.result
    c.tell.result c.tell.ensures (λ d h. h)
    (subst (λ (s : CachedState). AnswersRun s.functions.mode answer code kind c.args.fuel) c.self.view_is
    (c.run-answer.ensures.means (linked_stands load (in_mode mode code) kind wasm c.record_of.result link right')))

pub returns-clause-functions : goal.returns-clause-functions
returns-clause-functions c =
    let code = expression_of c.args.code.now in
    let kind = kernel_type_of c.args.kind.now in
    let answer = told c.run-answer.result in
    as_told (λ a. functions_of c.run-answer.new.self
    ≡ kept_after a code kind (functions_of c.args.self.now.functions)) c.self.inside.cache.now.cache.load
    c.run-answer.result c.tell.result c.tell.ensures (λ d h. h)
    (c.run-answer.ensures.functions
    ∙ ap (λ (s : CachedState). kept_after answer code kind (functions_of s.functions)) c.self.view_is)
