use Rattle.std.proofs.Common.{◌∙◌, ap, option_map, option_to_list, Some}
use Rattle.mw_words.specs.Words.{option, without_word, word_in}
use Rattle.mw_words.specs.Gathered.{part_in}
use Rattle.mw_words.proofs.PartSelection.{once_worded}
use Rattle.mw_words.proofs.given.word_of.Goals as goal

pub returns-in-None-clause-ok : goal.returns-in-None-clause-ok
returns-in-None-clause-ok c = λ parts whole. without_word (c.in_ok-only_part.ensures.ok parts whole ∙ ap
    (λ found. option_to_list (option_map part_in found)) c.in-None.is)

pub returns-in-Some-Named-default-Some-clause-ok : goal.returns-in-Some-Named-default-Some-clause-ok
returns-in-Some-Named-default-Some-clause-ok c = λ parts whole.
    let found = c.in-Some-Named-default-Some in
    once_worded parts c.args.name.now found.field-0-0.now found.word.now
    (c.in_ok-only_part.ensures.ok parts whole
    ∙ (ap (λ one. option_to_list (option_map part_in one)) found.is
    ∙ (ap (λ one. option_to_list (Some (part_in one))) found.field-0-is
    ∙ ap (λ one. option_to_list (Some (option found.field-0-0.now (option_map word_in one)))) found.field-0-1-is)))
    (c.names_file.ensures.0 c.if-names_file.true)
