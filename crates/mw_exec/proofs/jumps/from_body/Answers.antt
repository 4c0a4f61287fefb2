use Rattle.mw_exec.proofs.JumpRules.{frame_rule, return_rule}
use Rattle.mw_exec.proofs.jumps.from_body.Goals as goal

pub returns-clause-branched : goal.returns-clause-branched
returns-clause-branched c = frame_rule c.args.waiting c.args.from c.args.one c.args.outside c.args.state.now
    c.restore_outside.new.state c.keep.new.stack c.requires.formed c.requires.kind c.keep.ensures
    c.restore_outside.ensures

pub returns-clause-returned : goal.returns-clause-returned
returns-clause-returned c = return_rule c.args.waiting c.args.from c.args.one c.args.outside c.args.state.now
    c.restore_outside.new.state c.keep.new.stack c.requires.formed c.requires.kind c.keep.ensures
    c.restore_outside.ensures
