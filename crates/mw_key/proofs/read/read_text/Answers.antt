use Rattle.mw_key.proofs.TextAnswers.{text_read, text_refused, text_answered}
use Rattle.mw_key.proofs.read.read_text.Goals as goal

pub returns-clause-read : goal.returns-clause-read
returns-clause-read c = text_read c.args.bytes.now c.whole_text.result (rw c.new.ensures.words at c.whole_text.ensures)

pub returns-clause-refused : goal.returns-clause-refused
returns-clause-refused c = text_refused c.args.bytes.now c.whole_text.result
    (rw c.new.ensures.words at c.whole_text.ensures)

pub returns-clause-found : goal.returns-clause-found
returns-clause-found c = text_answered c.args.bytes.now c.whole_text.result
    (rw c.new.ensures.words at c.whole_text.ensures)
