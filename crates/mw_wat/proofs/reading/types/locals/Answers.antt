use Rattle.std.proofs.Common.{[], ap}
use Rattle.mw_wat.specs.Reading.{and_then, as_type, gives, some_of, types_and_close}
use Rattle.mw_wat.specs.Modules.{some_locals}
use Rattle.mw_wat.specs.Cursors.{tokens_at}
use Rattle.mw_wat.specs.Parts.{locals}
use Rattle.mw_wat.proofs.CursorReaders.{choice_opened, gives_same}
use Rattle.mw_wat.proofs.reading.types.locals.Goals as goal

pub returns-then-opened : goal.returns-then-opened
returns-then-opened c =
    gives_same _ _ (types_and_close (some_of 49_999 as_type) (tokens_at c.in_ok-rest.rest))
    (locals (tokens_at c.args.cursor))
    (choice_opened some_locals (gives []) (tokens_at c.args.cursor) c.in_ok-opened.opened
    (tokens_at c.in_ok-opened.rest) (types_and_close (some_of 49_999 as_type) (tokens_at c.in_ok-rest.rest))
    c.in_ok-opened.ensures c.if-opened.true
    (ap (λ r. and_then r λ _ rest. types_and_close (some_of 49_999 as_type) rest) c.in_ok-rest.ensures))
    c.some_types_and_close.ensures
