use Rattle.mw_words.specs.Words.{check_command}
use Rattle.mw_words.proofs.Items.{on_err}
use Rattle.mw_words.proofs.Usage.{no_check}
use Rattle.mw_words.proofs.files.read_check.Goals as goal

pub returns-in_err-file-clause-usage : goal.returns-in_err-file-clause-usage
returns-in_err-file-clause-usage c = on_err c.from_residual.result _ (no_check c.in_err-file.ensures.usage)

pub returns-clause-some : goal.returns-clause-some
returns-clause-some c = rw c.in_ok-file.ensures.alone (check_command c.in_ok-file.ensures.named)
