use Rattle.std.proofs.Common.{ap}
use Rattle.mw_infer.specs.Views.{tops_of}
use Rattle.mw_infer.proofs.Revealing.{show-kernel, show-value}
use Rattle.mw_infer.proofs.program.reveal.Goals as goal
use Rattle.mw_infer.proofs.program.reveal.Goals.{in-Kernel+in-Let+in-Pair-1, in-Kernel+in-Let+in-Arrow-1}
use Rattle.mw_infer.proofs.program.reveal.Goals.{in-Kernel+in-Let+in-Code-1, in-Kernel+in-Let+in-Closed-1}
use Rattle.mw_infer.proofs.program.reveal.Goals.{in-Kernel+in-Let+in-Int-1, in-Kernel+in-Kernel-1, in_default}

-- each case but the last drops another form of what stood there
pub loop-at-preserved : goal.loop-at-preserved
loop-at-preserved c = elim c.match-items-at.branch [
  | in-Kernel+in-Let+in-Pair-1 w ↦ let q = show-kernel c.args.items.now (tops_of c.args.names.now.items)
      c.loop-at.names.items c.match-items-at.names.items c.loop-at.at c.index-items-at.result w.in-Kernel.field-1 _
      c.loop-at-test.true c.index-items-at.is w.in-Kernel.is (ap (λ v. v.items) w.names-is)
      (c.loop-at.invariant.names, c.loop-at.invariant.revealed) in record { names = q.0; revealed = q.1 }
  | in-Kernel+in-Let+in-Arrow-1 w ↦ let q = show-kernel c.args.items.now (tops_of c.args.names.now.items)
      c.loop-at.names.items c.match-items-at.names.items c.loop-at.at c.index-items-at.result w.in-Kernel.field-1 _
      c.loop-at-test.true c.index-items-at.is w.in-Kernel.is (ap (λ v. v.items) w.names-is)
      (c.loop-at.invariant.names, c.loop-at.invariant.revealed) in record { names = q.0; revealed = q.1 }
  | in-Kernel+in-Let+in-Code-1 w ↦ let q = show-kernel c.args.items.now (tops_of c.args.names.now.items)
      c.loop-at.names.items c.match-items-at.names.items c.loop-at.at c.index-items-at.result w.in-Kernel.field-1 _
      c.loop-at-test.true c.index-items-at.is w.in-Kernel.is (ap (λ v. v.items) w.names-is)
      (c.loop-at.invariant.names, c.loop-at.invariant.revealed) in record { names = q.0; revealed = q.1 }
  | in-Kernel+in-Let+in-Closed-1 w ↦ let q = show-kernel c.args.items.now (tops_of c.args.names.now.items)
      c.loop-at.names.items c.match-items-at.names.items c.loop-at.at c.index-items-at.result w.in-Kernel.field-1 _
      c.loop-at-test.true c.index-items-at.is w.in-Kernel.is (ap (λ v. v.items) w.names-is)
      (c.loop-at.invariant.names, c.loop-at.invariant.revealed) in record { names = q.0; revealed = q.1 }
  | in-Kernel+in-Let+in-Int-1 w ↦ let q = show-kernel c.args.items.now (tops_of c.args.names.now.items)
      c.loop-at.names.items c.match-items-at.names.items c.loop-at.at c.index-items-at.result w.in-Kernel.field-1 _
      c.loop-at-test.true c.index-items-at.is w.in-Kernel.is (ap (λ v. v.items) w.names-is)
      (c.loop-at.invariant.names, c.loop-at.invariant.revealed) in record { names = q.0; revealed = q.1 }
  | in-Kernel+in-Kernel-1 w ↦ let q = show-kernel c.args.items.now (tops_of c.args.names.now.items)
      c.loop-at.names.items c.match-items-at.names.items c.loop-at.at c.index-items-at.result w.in-Kernel.field-1 _
      c.loop-at-test.true c.index-items-at.is w.in-Kernel.is (ap (λ v. v.items) w.names-is)
      (c.loop-at.invariant.names, c.loop-at.invariant.revealed) in record { names = q.0; revealed = q.1 }
  | in_default w ↦ let q = show-value c.args.items.now (tops_of c.args.names.now.items) c.loop-at.names.items
      c.match-items-at.names.items c.loop-at.at c.index-items-at.result c.loop-at-test.true c.index-items-at.is
      w.in_default.not-Kernel (ap (λ v. v.items) w.names-is)
      (c.loop-at.invariant.names, c.loop-at.invariant.revealed) in record { names = q.0; revealed = q.1 }
]
