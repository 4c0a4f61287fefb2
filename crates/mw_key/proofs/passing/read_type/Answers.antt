use Rattle.mw_key.proofs.SkippedCode.{type_read, type_refused}
use Rattle.mw_key.proofs.passing.read_type.Goals as goal

pub returns-clause-read : goal.returns-clause-read
returns-clause-read c = type_read c.args.bytes.now c.whole_type.result
    (rw c.new.ensures.words at c.whole_type.ensures)

pub returns-clause-refused : goal.returns-clause-refused
returns-clause-refused c = type_refused c.args.bytes.now c.whole_type.result
    (rw c.new.ensures.words at c.whole_type.ensures)
