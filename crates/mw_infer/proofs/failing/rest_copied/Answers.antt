use Rattle.std.proofs.Common.{None, sym, ◌∙◌, arith}
use Rattle.mw_types.specs.Equations.{equations_of}
use Rattle.mw_types.proofs.Halving.{eqs_length}
use Rattle.mw_infer.proofs.Copying.{get-at, rest-more, rest-same, rest-whole}
use Rattle.mw_infer.proofs.failing.rest_copied.Goals as goal
use Rattle.mw_infer.proofs.failing.rest_copied.Goals.{then-not-is_among+in_ok-copied_equation+in_ok-push}
use Rattle.mw_infer.proofs.failing.rest_copied.Goals.{else-not-is_among}

pub loop-at-preserved : goal.loop-at-preserved
loop-at-preserved c = elim c.if-not-is_among.branch [
  | then-not-is_among+in_ok-copied_equation+in_ok-push w ↦ rest-more c.args.first c.args.end c.args.pairs.now
      c.args.owners.now c.loop-at.at w.index-pairs-at.result w.in_ok-copied_equation.field-0 _ c.loop-at.rest
      c.if-not-is_among.rest c.loop-at-test.true w.index-pairs-at.is
      (get-at c.args.owners.now c.loop-at.at None (omega arith)) (sym w.if-not-is_among.ensures)
      w.in_ok-copied_equation.ensures (w.rest-is ∙ w.in_ok-push.ensures.ok) c.loop-at.invariant
  | else-not-is_among w ↦ rw w.rest-is (rest-same c.args.first c.args.end c.args.pairs.now
      c.args.owners.now c.loop-at.at _ c.loop-at.rest c.loop-at-test.true
      (get-at c.args.owners.now c.loop-at.at None (omega arith)) (sym w.if-not-is_among.ensures) c.loop-at.invariant)
]

pub returns : goal.returns
returns c =
    c.loop-at.invariant ∙ rest-whole c.args.first c.args.end c.args.owners.now (equations_of c.args.pairs.now)
    c.loop-at.at (omega arith) (omega (arith, eqs_length c.args.pairs.now))
