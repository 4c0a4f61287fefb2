use Rattle.mw_wat.specs.Words.{meaning_of}
use Rattle.mw_wat.proofs.WordTables.{control_word, number_word}
use Rattle.mw_wat.proofs.reading.words.word_of.Goals as goal

pub returns-in-Some : goal.returns-in-Some
returns-in-Some c = control_word c.args.word.now (meaning_of c.in-Some.found) c.in-Some.ensures

pub returns-in-Some-number_of : goal.returns-in-Some-number_of
returns-in-Some-number_of c =
    number_word c.args.word.now c.in-Some-number_of.op c.in-None.ensures c.in-Some-number_of.ensures
