use Rattle.mw_words.specs.Words.{cert_command}
use Rattle.mw_words.proofs.Items.{on_err}
use Rattle.mw_words.proofs.Usage.{no_cert}
use Rattle.mw_words.proofs.files.read_cert.Goals as goal

pub returns-in_err-file-clause-usage : goal.returns-in_err-file-clause-usage
returns-in_err-file-clause-usage c = on_err c.from_residual.result _ (no_cert c.in_err-file.ensures.usage)

pub returns-clause-some : goal.returns-clause-some
returns-clause-some c = rw c.in_ok-file.ensures.alone (cert_command c.in_ok-file.ensures.named)
