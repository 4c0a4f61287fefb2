use Rattle.std.proofs.Common.{rules, ◌∙◌}
use Rattle.mw_wat.specs.Cursors.{tokens_at}
use Rattle.mw_wat.proofs.CursorReaders.{gives_same}
use Rattle.mw_wat.proofs.PartReaders.{limits_are}
use Rattle.mw_wat.proofs.reading.parts.limits.Goals as goal

pub returns-in_err-min : goal.returns-in_err-min
returns-in_err-min c = gives_same _ _ _ _ (limits_are c.args.most (tokens_at c.args.cursor)) (search rules)

pub returns-in_err-max : goal.returns-in_err-max
returns-in_err-max c = gives_same _ _ _ _ (limits_are c.args.most (tokens_at c.args.cursor)) (search rules)

pub returns : goal.returns
returns c = limits_are c.args.most (tokens_at c.args.cursor) ∙ search rules
