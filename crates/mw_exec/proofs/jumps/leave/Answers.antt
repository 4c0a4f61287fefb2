use Rattle.std.proofs.Common.{inl, inr}
use Rattle.mw_exec.proofs.CodeEnds.{label_leaves, frame_leaves}
use Rattle.mw_exec.proofs.jumps.leave.Goals as goal

pub returns-in-Block : goal.returns-in-Block
returns-in-Block c = label_leaves c.in-Some.waiting c.args.state.now c.take_waiting.new.state c.restore.new.state
    c.in-Some.ensures.taken c.in-Some.ensures.formed
    (λ one outside e. elim c.in-Block.is [ inl h ↦ cc | inr h ↦ cc ]) c.restore.ensures

pub returns-in-Frame : goal.returns-in-Frame
returns-in-Frame c = frame_leaves c.in-Some.waiting c.in-Frame.field-0 c.in-Frame.outside c.args.state.now
    c.take_waiting.new.state c.restore_outside.new.state c.in-Some.ensures.taken c.in-Some.ensures.formed
    c.in-Frame.is c.restore_outside.ensures
