use Rattle.std.proofs.Common.{refl, sym}
use Rattle.mw_types.specs.Types.{after}
use Rattle.mw_types.specs.Solutions.{substitution_of}
use Rattle.mw_infer.specs.Inferring.{least}
use Rattle.mw_infer.proofs.Testing.{spot-below, fresh-more, open-at, read, not_true}
use Rattle.mw_infer.proofs.fresh.first_open.Goals as goal

pub classifier-classifier-requires : goal.classifier-classifier-requires
classifier-classifier-requires c =
    (spot-below _ _ c.args.closes.now c.loop-spot.spot-index c.spot-item.result c.requires c.loop-spot-test.true
    c.spot-item.is).0

pub is_absent_from-requires-clause-inside : goal.is_absent_from-requires-clause-inside
is_absent_from-requires-clause-inside c =
    rw c.as_slice-scope.ensures.value (spot-below _ _ c.args.closes.now c.loop-spot.spot-index c.spot-item.result
    c.requires
    c.loop-spot-test.true c.spot-item.is).1

pub returns-then-not-is_absent_from : goal.returns-then-not-is_absent_from
returns-then-not-is_absent_from c =
    let e = read c.args.solved.now.classifiers c.spot-item.result.classifier 0 c.classifier-classifier.result
    c.classifier-classifier.ensures in
    open-at (substitution_of c.args.solved.now) c.args.closes.now c.loop-spot.spot-index c.spot-item.result
    c.loop-spot-test.true c.spot-item.is c.loop-spot.invariant.fresh
    (λ h. not_true (c.if-not-is_absent_from.ensures.1 (rw (c.as_slice-scope.ensures.value, sym e) h)))

pub learn_all-requires-clause-inside : goal.learn_all-requires-clause-inside
learn_all-requires-clause-inside c =
    rw c.as_slice-scope.ensures.value (spot-below _ _ c.args.closes.now c.loop-spot.spot-index c.spot-item.result
    c.requires c.loop-spot-test.true c.spot-item.is).1

pub loop-spot-preserved : goal.loop-spot-preserved
loop-spot-preserved c =
    let e = read c.args.solved.now.classifiers c.spot-item.result.classifier 0 c.classifier-classifier.result
    c.classifier-classifier.ensures in
    record {
      fresh = fresh-more (after least (substitution_of c.args.solved.now)) c.args.closes.now c.loop-spot.spot-index
          c.spot-item.result c.loop-spot-test.true c.spot-item.is c.loop-spot.invariant.fresh
          (rw (c.as_slice-scope.ensures.value, sym e) at (c.if-not-is_absent_from.ensures.0 refl));
      known = c.in_ok-learn_all.ensures;
    }
