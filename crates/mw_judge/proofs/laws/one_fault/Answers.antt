use Rattle.mw_judge.proofs.FileLaws.{one_binary_fault, one_file_fault}
use Rattle.mw_judge.proofs.laws.one_fault.Goals as goal

pub returns-clause-file : goal.returns-clause-file
returns-clause-file c = λ bytes f g a b. one_file_fault bytes f g a b

pub returns-clause-binary : goal.returns-clause-binary
returns-clause-binary c = λ bytes f g a b. one_binary_fault bytes f g a b
