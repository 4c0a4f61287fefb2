use Rattle.mw_exec.proofs.Unwinding.{stopped, passed}
use Rattle.mw_exec.proofs.labels.unwind.Goals as goal

pub returns-then-not-pass : goal.returns-then-not-pass
returns-then-not-pass c = stopped c.args.label c.loop-left.left c.args.state.now c.loop-left.state c.loop-left-test.true
    c.loop-left.invariant c.if-not-pass.ensures

pub loop-left-preserved : goal.loop-left-preserved
loop-left-preserved c = passed c.args.label c.loop-left.left c.args.state.now c.loop-left.state c.pass.new.state
    c.loop-left-test.true c.loop-left.invariant c.if-not-pass.ensures
