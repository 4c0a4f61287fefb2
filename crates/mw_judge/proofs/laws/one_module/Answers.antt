use Rattle.mw_judge.proofs.FileLaws.{one_binary_module, one_file_module}
use Rattle.mw_judge.proofs.laws.one_module.Goals as goal

pub returns-clause-file : goal.returns-clause-file
returns-clause-file c = λ bytes m n a b. one_file_module bytes m n a b

pub returns-clause-binary : goal.returns-clause-binary
returns-clause-binary c = λ bytes m n a b. one_binary_module bytes m n a b
