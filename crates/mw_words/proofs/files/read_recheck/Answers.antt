use Rattle.mw_words.specs.Words.{recheck_command}
use Rattle.mw_words.proofs.Items.{on_err}
use Rattle.mw_words.proofs.Usage.{no_recheck}
use Rattle.mw_words.proofs.files.read_recheck.Goals as goal

pub returns-in_err-cert-clause-usage : goal.returns-in_err-cert-clause-usage
returns-in_err-cert-clause-usage c = on_err c.from_residual.result _ (no_recheck c.in_err-cert.ensures.usage)

pub returns-clause-some : goal.returns-clause-some
returns-clause-some c = let found = c.in_ok-cert.ensures in rw found.alone (recheck_command found.first_named
    found.second_named)
