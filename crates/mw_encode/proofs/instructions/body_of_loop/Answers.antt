use Rattle.mw_encode.proofs.Codes.{loop_body}
use Rattle.mw_encode.proofs.instructions.body_of_loop.Goals as goal

pub returns : goal.returns
returns c = loop_body _ _ _ c.requires.held c.requires.spelled
