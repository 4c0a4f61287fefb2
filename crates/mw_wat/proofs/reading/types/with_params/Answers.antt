use Rattle.mw_wat.specs.Cursors.{tokens_at}
use Rattle.mw_wat.proofs.CursorReaders.{gives_same}
use Rattle.mw_wat.proofs.CursorParts.{params_choice}
use Rattle.std.proofs.Common.{rules, ◌∙◌}
use Rattle.mw_wat.proofs.reading.types.with_params.Goals as goal

pub returns-in_err-found : goal.returns-in_err-found
returns-in_err-found c = gives_same _ _ _ _ (params_choice (tokens_at c.args.cursor)) (search rules)

pub returns-in_err-params : goal.returns-in_err-params
returns-in_err-params c = gives_same _ _ _ _ (params_choice (tokens_at c.args.cursor)) (search rules)

pub returns-then-found : goal.returns-then-found
returns-then-found c = gives_same _ _ _ _ (params_choice (tokens_at c.args.cursor)) (search rules)

pub returns-in_err-results : goal.returns-in_err-results
returns-in_err-results c = gives_same _ _ _ _ (params_choice (tokens_at c.args.cursor)) (search rules)

pub returns-in_err-rest : goal.returns-in_err-rest
returns-in_err-rest c = gives_same _ _ _ _ (params_choice (tokens_at c.args.cursor)) (search rules)

pub returns : goal.returns
returns c = params_choice (tokens_at c.args.cursor) ∙ search rules
