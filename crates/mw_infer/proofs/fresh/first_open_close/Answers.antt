use Rattle.std.proofs.Common.{sym}
use Rattle.mw_term.specs.Terms.{expression_of}
use Rattle.mw_types.specs.Types.{after}
use Rattle.mw_types.specs.Solutions.{substitution_of}
use Rattle.mw_infer.specs.CloseContents.{close_contents}
use Rattle.mw_infer.specs.Inferring.{least}
use Rattle.mw_infer.proofs.CloseCodes.{code-counts}
use Rattle.mw_infer.proofs.Holding.{open-held}
use Rattle.mw_infer.proofs.Testing.{spot-below, fresh-more, read}
use Rattle.mw_infer.proofs.fresh.first_open_close.Goals as goal

pub classifier-classifier-requires : goal.classifier-classifier-requires
classifier-classifier-requires c =
    (spot-below _ _ c.args.closes.now c.loop-at.at c.index-closes-at.result c.requires.below
    c.loop-at-test.true c.index-closes-at.is).0

pub holder-requires : goal.holder-requires
holder-requires c =
    rw c.as_slice-scope.ensures.value (spot-below _ _ c.args.closes.now c.loop-at.at c.index-closes-at.result
    c.requires.below c.loop-at-test.true c.index-closes-at.is).1

pub code_of-code-requires : goal.code_of-code-requires
code_of-code-requires c = rw (← c.requires.codes) c.loop-at-test.true

pub told_binder-requires-clause-below : goal.told_binder-requires-clause-below
told_binder-requires-clause-below c =
    rw c.as_slice-scope.ensures.value (spot-below _ _ c.args.closes.now c.loop-at.at c.index-closes-at.result
    c.requires.below c.loop-at-test.true c.index-closes-at.is).1

pub told_binder-requires-clause-count : goal.told_binder-requires-clause-count
told_binder-requires-clause-count c = code-counts (expression_of c.args.term.now)
    (expression_of c.code_of-code.result.now) c.loop-at.at c.code_of-code.ensures c.requires.count

pub returns-in-Some : goal.returns-in-Some
returns-in-Some c =
    let e = read c.args.solved.now.classifiers c.index-closes-at.result.classifier 0 c.classifier-classifier.result
    c.classifier-classifier.ensures in
    open-held (substitution_of c.args.solved.now) c.args.closes.now
    (close_contents (expression_of c.args.term.now)) c.loop-at.at c.index-closes-at.result
    (expression_of c.code_of-code.result.now) c.in_ok-binder.binder c.loop-at-test.true c.index-closes-at.is
    c.loop-at.invariant c.code_of-code.ensures
    (rw (c.as_slice-scope.ensures.value, sym e) at c.in_ok-binder.ensures)

pub loop-at-preserved : goal.loop-at-preserved
loop-at-preserved c =
    let e = read c.args.solved.now.classifiers c.index-closes-at.result.classifier 0 c.classifier-classifier.result
    c.classifier-classifier.ensures in
    fresh-more (after least (substitution_of c.args.solved.now)) c.args.closes.now c.loop-at.at
    c.index-closes-at.result c.loop-at-test.true c.index-closes-at.is c.loop-at.invariant
    (rw (c.as_slice-scope.ensures.value, sym e) at c.in_default.ensures)
