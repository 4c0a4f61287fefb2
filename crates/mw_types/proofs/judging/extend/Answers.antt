use Rattle.std.proofs.Common.{refl, ◌∙◌, arith}
use Rattle.std.proofs.lemmas.Option.{slice_get_read}
use Rattle.mw_types.proofs.Verdicts.{left_within, right_within, item_stated, stated_after, never_unsolvable}
use Rattle.mw_types.proofs.judging.extend.Goals as goal

pub add-requires-clause-inside : goal.add-requires-clause-inside
add-requires-clause-inside c = left_within _ _ _ _ c.args.equations.now c.loop-index.index
    c.index-equations-index.result refl c.loop-index.invariant.stated.classifier_count c.requires.inside
    (slice_get_read c.args.equations.now _ c.loop-index.index _ refl (omega arith) c.index-equations-index.is)

pub add-requires-in-loop-index-clause-inside : goal.add-requires-in-loop-index-clause-inside
add-requires-in-loop-index-clause-inside c = right_within _ _ _ _ c.args.equations.now c.loop-index.index
    c.index-equations-index.result refl
    (c.in_ok-left.ensures.grew.classifier_count ∙ c.loop-index.invariant.stated.classifier_count) c.requires.inside
    (slice_get_read c.args.equations.now _ c.loop-index.index _ refl (omega arith) c.index-equations-index.is)

pub returns-then-not-branch-clause-clash : goal.returns-then-not-branch-clause-clash
returns-then-not-branch-clause-clash c =
    let next = item_stated _ _ _ c.args.equations.now c.loop-index.index c.index-equations-index.result _ _ _ _ _ _ refl
    c.requires.inside
    (slice_get_read c.args.equations.now _ c.loop-index.index _ refl (omega arith) c.index-equations-index.is)
    c.loop-index.invariant.stated c.in_ok-left.ensures.grew c.in_ok-right.ensures.grew c.in_ok-postpone.ensures.step
    (λ k. c.in_ok-right.ensures.shaped _ (c.in_ok-left.ensures.shaped _ k)) in
    record {
      longer = omega (arith, c.loop-index.auto.index);
      within = omega (arith, c.loop-index-test.true);
      unsolvable = never_unsolvable _ _ _ _ next (c.in_ok-settle.ensures.none c.if-not-branch.true);
    }

pub loop-index-preserved : goal.loop-index-preserved
loop-index-preserved c = record {
  stated = stated_after
      (item_stated _ _ _ c.args.equations.now c.loop-index.index c.index-equations-index.result _ _ _ _ _ _ refl
      c.requires.inside
      (slice_get_read c.args.equations.now _ c.loop-index.index _ refl (omega arith) c.index-equations-index.is)
      c.loop-index.invariant.stated c.in_ok-left.ensures.grew c.in_ok-right.ensures.grew
      c.in_ok-postpone.ensures.step (λ k. c.in_ok-right.ensures.shaped _ (c.in_ok-left.ensures.shaped _ k)))
      (c.in_ok-settle.ensures.same c.if-not-branch.false);
  settled = c.in_ok-settle.ensures.empty c.if-not-branch.false;
}
