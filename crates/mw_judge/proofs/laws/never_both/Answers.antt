use Rattle.mw_judge.proofs.FileLaws.{never_bad_and_binary, never_bad_and_file}
use Rattle.mw_judge.proofs.laws.never_both.Goals as goal

pub returns-clause-file : goal.returns-clause-file
returns-clause-file c = λ bytes m f h b. never_bad_and_file bytes m f h b

pub returns-clause-binary : goal.returns-clause-binary
returns-clause-binary c = λ bytes m f h b. never_bad_and_binary bytes m f h b
