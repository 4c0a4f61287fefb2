use Rattle.std.proofs.Common.{◌≡◌, arith}
use Rattle.mw_types.proofs.Answering.{answers, no_trees, tree_more, roots_inside}
use Rattle.mw_types.proofs.answer.answer.Goals as goal

pub loop-unknown-init : goal.loop-unknown-init
loop-unknown-init c = rw (c.in_ok-roots.ensures.items, c.in_ok-trees.ensures.items) (no_trees _ _)

pub loop-unknown-preserved : goal.loop-unknown-preserved
loop-unknown-preserved c = rw (c.in_ok-push.ensures.items, c.in_ok-push-2.ensures.items)
    (tree_more _ _ _ _ _ _ _ c.loop-unknown.invariant c.find.ensures.below
    (rw c.as_slice-in-loop-unknown-2.ensures.value at c.find.ensures.leads)
    (rw c.as_slice-in-loop-unknown-2.ensures.value at c.find.ensures.root)
    (rw c.as_slice-in-loop-unknown.ensures.value at c.in_ok-own_tree.ensures))

pub invariant_of-result : goal.invariant_of-result
invariant_of-result c = roots_inside c.loop-unknown.invariant

pub returns : goal.returns
returns c =
    let e : c.loop-unknown.unknown ≡ c.args.unknowns =
    omega (arith, c.loop-unknown-test.false, c.loop-unknown.auto.unknown-end) in
    answers _ _ _ _ _ c.requires.unknowns (rw c.as_slice.ensures.value at c.in_ok-names.ensures)
    (rw e at c.loop-unknown.invariant)
