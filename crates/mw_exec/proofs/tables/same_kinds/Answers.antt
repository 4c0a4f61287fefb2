use Rattle.mw_exec.proofs.KindRules.{lengths_differ}
use Rattle.mw_exec.proofs.tables.same_kinds.Goals as goal

pub returns-then-a-b : goal.returns-then-a-b
returns-then-a-b c = lengths_differ c.args.a.now c.args.b.now c.if-a-b.true
