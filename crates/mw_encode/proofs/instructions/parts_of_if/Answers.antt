use Rattle.mw_encode.proofs.Codes.{cond_first, cond_second}
use Rattle.mw_encode.proofs.instructions.parts_of_if.Goals as goal

pub returns-clause-then : goal.returns-clause-then
returns-clause-then c = cond_first _ _ _ _ c.requires.held c.requires.spelled

pub returns-clause-otherwise : goal.returns-clause-otherwise
returns-clause-otherwise c = cond_second _ _ _ _ c.requires.held c.requires.spelled
