use Rattle.mw_encode.proofs.Codes.{block_body}
use Rattle.mw_encode.proofs.instructions.body_of_block.Goals as goal

pub returns : goal.returns
returns c = block_body _ _ _ c.requires.held c.requires.spelled
