use Rattle.std.proofs.Common.{refl, arith}
use Rattle.std.proofs.lemmas.Str.Pattern.{split_parts}
use Rattle.std.specs.Prelude.{Some, None}
use Rattle.mw_words.proofs.part.split_word.Goals as goal

pub returns-in-Some : goal.returns-in-Some
returns-in-Some c = split_parts 61 c.args.word.now (Some (c.in-Some.name, c.in-Some.value)) c.in-Some.ensures.cases
    (omega arith)

pub returns-in-None : goal.returns-in-None
returns-in-None c = (refl, split_parts 61 c.args.word.now None c.in-None.ensures.cases (omega arith))
