use Rattle.mw_words.specs.Words.{parts_command, link_of}
use Rattle.mw_words.proofs.Items.{on_err}
use Rattle.mw_words.proofs.Usage.{no_link}
use Rattle.mw_words.proofs.read_link.Goals as goal

pub returns-in_err-have_only-clause-usage : goal.returns-in_err-have_only-clause-usage
returns-in_err-have_only-clause-usage c =
    on_err c.from_residual.result _ (no_link
    (λ parts whole has. c.in_err-have_only.ensures.usage parts whole has.options))

pub returns-in_err-number_of-clause-usage : goal.returns-in_err-number_of-clause-usage
returns-in_err-number_of-clause-usage c =
    on_err c.from_residual-in_err-number_of.result _ (no_link
    (λ parts whole has. c.in_err-number_of.ensures.usage parts whole has.workers.0 has.workers.1))

pub returns-in_err-fuel_of-clause-usage : goal.returns-in_err-fuel_of-clause-usage
returns-in_err-fuel_of-clause-usage c =
    on_err c.from_residual-in_err-fuel_of.result _ (no_link
    (λ parts whole has. c.in_err-fuel_of.ensures.usage parts whole has.fuel.0 has.fuel.1))

pub returns-in_err-file_of-clause-usage : goal.returns-in_err-file_of-clause-usage
returns-in_err-file_of-clause-usage c =
    on_err c.from_residual-in_err-file_of.result _ (no_link
    (λ parts whole has. c.in_err-file_of.ensures.usage parts whole has.file.0 has.file.1))

pub returns-clause-some : goal.returns-clause-some
returns-clause-some c =
    let all = c.in_ok-have_only.ensures.ok in
    let parts = all.0 in
    let whole = all.1.0 in
    parts_command whole (link_of all.1.1 (c.in_ok-number_of.ensures.ok parts whole)
    (c.in_ok-fuel_of.ensures.ok parts whole) (c.in_ok-file_of.ensures.ok parts whole))
