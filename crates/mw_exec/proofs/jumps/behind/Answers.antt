use Rattle.mw_exec.proofs.JumpRules.{behind_rule}
use Rattle.mw_exec.proofs.jumps.behind.Goals as goal

pub returns : goal.returns
returns c = behind_rule c.args.waiting c.args.from c.args.one c.args.state.now c.restore.new.state c.keep.new.stack
    c.requires.formed c.requires.kind c.keep.ensures c.restore.ensures
