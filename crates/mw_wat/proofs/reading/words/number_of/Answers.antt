use Rattle.mw_wat.proofs.WordTables.{number_first, number_second}
use Rattle.mw_wat.proofs.reading.words.number_of.Goals as goal

pub returns-in-Some : goal.returns-in-Some
returns-in-Some c = number_first c.args.word.now c.in-Some.op c.in-Some.ensures

pub returns-in-Some-typed_of : goal.returns-in-Some-typed_of
returns-in-Some-typed_of c =
    number_second c.args.word.now c.in-Some-typed_of.op c.in-None.ensures c.in-Some-typed_of.ensures
