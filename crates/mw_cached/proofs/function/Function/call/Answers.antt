use Rattle.mw_term.specs.Terms.{expression_of, kernel_type_of, ground_value_of}
use Rattle.mw_meaning.specs.Simplification.{in_mode}
use Rattle.mw_cached.proofs.EmittingLemmas.{call_meant, call_keeps}
use Rattle.mw_cached.proofs.FaultLemmas.{may_fault, call_is_not_bad, fault_answers, call_is_stray}
use Rattle.mw_cached.proofs.KeptLemmas.{kept_stands}
use Rattle.mw_cached.proofs.function.Function.call.Goals as goal

pub fault_of-requires : goal.fault_of-requires
fault_of-requires c =
    let kept = c.requires.kept.1 in
    may_fault c.in-Err.fault c.args.self.now.loaded (λ none.
    let is = kept.means (kept.emitted none) in
    call_is_not_bad c.in-Err.fault _ (c.in-Err.ensures.means is.function is.words is.keeps))

pub returns-in-Ok-clause-means : goal.returns-in-Ok-clause-means
returns-in-Ok-clause-means c = λ mode kept sound.
    let code = expression_of c.args.self.now.code.value in
    let kind = kernel_type_of c.args.self.now.kind.value in
    let is = kept.means (kept_stands mode c.args.self.now kept sound) in
    call_meant mode code kind c.args.self.now.running kept.code kept.literals kept.type is
    (ground_value_of c.args.argument.now) c.args.fuel c.in-Ok.ran c.in-Ok.ensures.fits
    (c.in-Ok.ensures.means is.function is.words is.keeps)

pub returns-in-Ok-clause-keeps : goal.returns-in-Ok-clause-keeps
returns-in-Ok-clause-keeps c = λ open' mode kept.
    let code = expression_of c.args.self.now.code.value in
    let kind = kernel_type_of c.args.self.now.kind.value in
    call_keeps c.in-Ok.ran (in_mode mode code) kind c.args.self.now.running c.call.new.self c.args.self.now.loaded kept
    c.in-Ok.ensures.same c.in-Ok.ensures.types c.in-Ok.ensures.keeps c.in-Ok.ensures.plays open'

pub returns-in-Err-clause-means : goal.returns-in-Err-clause-means
returns-in-Err-clause-means c = λ mode kept sound f words given left s e.
    let is = kept.means (kept_stands mode c.args.self.now kept sound) in
    fault_answers c.fault_of.result c.in-Err.fault c.args.self.now.loaded _ c.fault_of.ensures
    (call_is_not_bad c.in-Err.fault _ (c.in-Err.ensures.means is.function is.words is.keeps))

pub returns-in-Err-clause-stray : goal.returns-in-Err-clause-stray
returns-in-Err-clause-stray c =
    let kept = c.requires.kept.1 in
    call_is_stray c.fault_of.result c.in-Err.fault c.args.self.now.loaded c.args.self.now.running
    (kernel_type_of c.args.self.now.kind.value) kept.type kept.plays c.fault_of.ensures c.in-Err.ensures.stray
