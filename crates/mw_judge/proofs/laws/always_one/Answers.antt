use Rattle.mw_judge.proofs.FileLaws.{binary_or_bad, file_or_bad}
use Rattle.mw_judge.proofs.laws.always_one.Goals as goal

pub returns-clause-file : goal.returns-clause-file
returns-clause-file c = λ bytes are. file_or_bad bytes are

pub returns-clause-binary : goal.returns-clause-binary
returns-clause-binary c = λ bytes are. binary_or_bad bytes are
