use Rattle.mw_exec.proofs.JumpRules.{in_loop}
use Rattle.std.proofs.Common.{◌∙◌}
use Rattle.mw_exec.proofs.jumps.is_in_loop.Goals as goal

pub returns-in-Loop-clause-yes : goal.returns-in-Loop-clause-yes
returns-in-Loop-clause-yes c e = in_loop c.args.state.now c.index.result.now c.len-count.result c.in-Loop.field-0
    (c.len-count.ensures ∙ c.args.state.now.waiting.ok.0) c.if-count-eq0.false c.index.ensures c.in-Loop.is
