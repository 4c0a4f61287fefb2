use Rattle.std.proofs.Common.{arith}
use Rattle.mw_wat.specs.Cursors.{tokens_at}
use Rattle.mw_wat.proofs.FieldLoops.{word_no_longer, either_shorter}
use Rattle.mw_wat.proofs.reading.fields.one_field.Goals as goal

pub returns-clause-shorter : goal.returns-clause-shorter
returns-clause-shorter g c =
    omega (
      arith,
      word_no_longer c.args.word.now (tokens_at c.args.cursor) c.in_ok-found.found (tokens_at c.in_ok-found.rest)
          c.in_ok-found.ensures,
      c.in_ok-field.ensures.shorter,
      either_shorter (tokens_at c.in_ok-field.rest) c.in_ok-more.more (tokens_at c.in_ok-more.rest)
          c.in_ok-more.ensures,
    )
