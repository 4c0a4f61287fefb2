use Rattle.std.proofs.Common.{◌∙◌, sym, ap, subst, option_map, codes}
use Rattle.std.proofs.lemmas.Option.{none-some}
use Rattle.mw_words.specs.Words.{IsWordOf, parts_command, migrate_of, word_in}
use Rattle.mw_words.proofs.Items.{on_err}
use Rattle.mw_words.proofs.Usage.{no_migrate}
use Rattle.mw_words.proofs.LawLemmas.{one_word}
use Rattle.mw_words.proofs.read_migrate.Goals as goal

pub returns-in_err-have_only-clause-usage : goal.returns-in_err-have_only-clause-usage
returns-in_err-have_only-clause-usage c =
    on_err c.from_residual.result _ (no_migrate
    (λ parts whole has. c.in_err-have_only.ensures.usage parts whole has.options))

pub returns-in_err-word_of-clause-usage : goal.returns-in_err-word_of-clause-usage
returns-in_err-word_of-clause-usage c =
    on_err c.from_residual-in_err-word_of.result _ (no_migrate
    (λ parts whole has. c.in_err-word_of.ensures.usage parts whole _ has.cache.1))

pub returns-in_err-cache-clause-usage : goal.returns-in_err-cache-clause-usage
returns-in_err-cache-clause-usage c =
    on_err c.from_residual-in_err-cache.result _ (no_migrate (λ parts whole has.
    let same = one_word (c.in_ok-word_of.ensures.ok parts whole) has.cache.1 in
    none-some _ (sym (ap (option_map word_in) c.in_err-cache.ensures.ok_part) ∙ same)))

pub returns-in_err-have_no_file-clause-usage : goal.returns-in_err-have_no_file-clause-usage
returns-in_err-have_no_file-clause-usage c =
    on_err c.from_residual-in_err-have_no_file.result _ (no_migrate
    (λ parts whole has. c.in_err-have_no_file.ensures.usage parts whole has.no_file))

pub returns-clause-some : goal.returns-clause-some
returns-clause-some c =
    let all = c.in_ok-have_only.ensures.ok in
    let parts = all.0 in
    let whole = all.1.0 in
    let named = ap (option_map word_in) c.in_ok-cache.ensures.ok_part in
    parts_command whole (migrate_of all.1.1
    (subst (IsWordOf (codes "--cache") parts) named (c.in_ok-word_of.ensures.ok parts whole))
    (c.in_ok-have_no_file.ensures.ok parts whole))
