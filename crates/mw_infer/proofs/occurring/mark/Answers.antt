use Rattle.std.proofs.Common.{inl, inr}
use Rattle.mw_infer.proofs.Marking.{mark-here, mark-nowhere}
use Rattle.mw_infer.proofs.occurring.mark.Goals as goal
use Rattle.mw_infer.proofs.occurring.mark.Goals.{then-number-depth-via-then-number-depth}
use Rattle.mw_infer.proofs.occurring.mark.Goals.{then-number-depth-via-else-number-depth+then-marks-number}

pub returns-then-number-depth : goal.returns-then-number-depth
returns-then-number-depth c = mark-nowhere c.args.number c.args.depth c.args.marks.now
    (elim c.then-number-depth.branch [
      | then-number-depth-via-then-number-depth w ↦ inl w.if-number-depth.true
      | then-number-depth-via-else-number-depth+then-marks-number w ↦
          inr (w.if-number-depth.false, w.if-marks-number.true)
    ])

pub returns : goal.returns
returns c = mark-here c.args.number c.args.depth c.args.marks.now c.if-number-depth.false c.if-marks-number.false
