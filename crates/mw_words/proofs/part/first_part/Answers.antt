use Rattle.std.proofs.Common.{rules, ◌≡◌, ◌∷◌, sym, ◌∙◌, ap, map}
use Rattle.std.specs.String.{string_bytes}
use Rattle.mw_words.specs.Words.{filed}
use Rattle.mw_words.proofs.Items.{then_ok, then_err}
use Rattle.mw_words.proofs.PartLemmas.{option_begins, no_option_begins}
use Rattle.mw_words.proofs.part.first_part.Goals as goal

pub returns-then-names_file-clause-ok : goal.returns-then-names_file-clause-ok
returns-then-names_file-clause-ok c =
    let first : c.args.words.now ≡ c.in_ok-word.word.now ∷ c.in_ok-word.rest.now = search rules in
    rw (first, c.as_str-then-names_file.ensures.value, ← c.as_str.ensures.value) (filed
    (c.names_file.ensures.0 c.if-names_file.true))

pub returns-clause-ok : goal.returns-clause-ok
returns-clause-ok c =
    let first : c.args.words.now ≡ c.in_ok-word.word.now ∷ c.in_ok-word.rest.now = search rules in
    then_ok c.option_part.result _ _ c.option_part.ensures.ok (λ p is. option_begins _ _ _ _ _ _ _
    (ap (map string_bytes) first) (rw c.as_str-2.ensures.value at c.split_word.ensures) is)

pub returns-clause-usage : goal.returns-clause-usage
returns-clause-usage c =
    let first : c.args.words.now ≡ c.in_ok-word.word.now ∷ c.in_ok-word.rest.now = search rules in
    then_err c.option_part.result _ _ c.option_part.ensures.usage
    (λ none. no_option_begins _ _ c.as_str-2.result.now _ _
    (ap (map string_bytes) first ∙ ap (λ w. w ∷ map string_bytes c.in_ok-word.rest.now)
    (sym c.as_str-2.ensures.value)) (search rules) c.split_word.ensures none)
