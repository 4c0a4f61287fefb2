use Rattle.std.proofs.Common.{rules, ◌≡◌, ◌∷◌}
use Rattle.mw_words.proofs.Usage.{unknown}
use Rattle.mw_words.proofs.read_words.Goals as goal

pub returns-in_default-clause-usage : goal.returns-in_default-clause-usage
returns-in_default-clause-usage c =
    let first : c.args.words.now ≡ c.in_ok-command.command.now ∷ c.in_ok-command.rest.now = search rules in
    let other = c.in_default in
    rw (first, ← c.as_str.ensures.value) (unknown other.not-run other.not-erased other.not-link other.not-sample
    other.not-migrate other.not-wat other.not-check other.not-cert other.not-recheck)
