use Rattle.std.proofs.Common.{◌+◌, ap, sym, ◌∙◌, subst}
use Rattle.std.proofs.lemmas.List.{take_rest}
use Rattle.std.proofs.lemmas.Result.{err_from_is_err_and}
use Rattle.mw_lex.specs.Tokens.{symbol_of, tokens_of}
use Rattle.mw_lex.specs.Steps.{IsRead}
use Rattle.mw_lex.specs.Pieces.{front}
use Rattle.mw_lex.proofs.StepsOn.{step_gap, step_mark, step_run, step_strange, same_answer, step_stops}
use Rattle.mw_lex.proofs.step.step.Goals as goal

pub returns-in-Gap-clause-next : goal.returns-in-Gap-clause-next
returns-in-Gap-clause-next c =
    let seen = ap front (sym (take_rest c.args.bytes.now c.args.at)) ∙ sym c.in-Gap.ensures.value in
    step_gap c.args.bytes.now c.args.at (tokens_of c.args.tokens.now) c.requires.read c.requires.more c.in-Gap.length
    seen

pub returns-in-Strange-clause-fault : goal.returns-in-Strange-clause-fault
returns-in-Strange-clause-fault c =
    let seen = ap front (sym (take_rest c.args.bytes.now c.args.at)) ∙ sym c.in-Strange.ensures.value in
    step_strange c.args.bytes.now c.args.at (tokens_of c.args.tokens.now) c.requires.read c.requires.more
    c.in-Strange.offset seen

pub returns-in_ok-add-in-Mark-clause-next : goal.returns-in_ok-add-in-Mark-clause-next
returns-in_ok-add-in-Mark-clause-next c =
    let seen = ap front (sym (take_rest c.args.bytes.now c.args.at)) ∙ sym c.in-Mark.ensures.value in
    let pushed = c.in_ok-add-in-Mark.ensures in
    subst (λ t. IsRead c.args.bytes.now (c.args.at + c.in-Mark.length) t) (sym pushed)
    (step_mark c.args.bytes.now c.args.at (tokens_of c.args.tokens.now) c.requires.read c.requires.more
    (symbol_of c.in-Mark.mark) c.in-Mark.length seen)

pub returns-in_ok-add-in-Run-clause-next : goal.returns-in_ok-add-in-Run-clause-next
returns-in_ok-add-in-Run-clause-next c =
    let rest = take_rest c.args.bytes.now c.args.at in
    let seen = ap front (sym rest) ∙ sym c.in-Run.ensures.value in
    let pushed = c.in_ok-add-in-Run.ensures in
    let answer = same_answer c.args.bytes.now c.args.at (tokens_of c.args.tokens.now) c.requires.read c.requires.more
    c.in-Run.length c.opens_literal-lowest.result (tokens_of c.as_slice.result.now) _ c.opens_literal-lowest.ensures
    (ap tokens_of c.as_slice.ensures) rest in
    subst (λ t. IsRead c.args.bytes.now (c.args.at + c.in-Run.length) t) (sym pushed)
    (step_run c.args.bytes.now c.args.at (tokens_of c.args.tokens.now) c.requires.read c.requires.more c.in-Run.length
    (symbol_of c.in_ok-kind-in-Run.kind) seen (answer ∙ c.in_ok-kind-in-Run.ensures))

pub returns-in_err-kind-in-Run-clause-fault : goal.returns-in_err-kind-in-Run-clause-fault
returns-in_err-kind-in-Run-clause-fault c =
    let rest = take_rest c.args.bytes.now c.args.at in
    let seen = ap front (sym rest) ∙ sym c.in-Run.ensures.value in
    let answer = same_answer c.args.bytes.now c.args.at (tokens_of c.args.tokens.now) c.requires.read c.requires.more
    c.in-Run.length c.opens_literal-lowest.result (tokens_of c.as_slice.result.now) _ c.opens_literal-lowest.ensures
    (ap tokens_of c.as_slice.ensures) rest in
    let p = err_from_is_err_and c.from_residual-in_err-kind-in-Run.result
    c.from_residual-in_err-kind-in-Run.ensures.1 in
    rw (p.1, p.2) (step_stops c.args.bytes.now c.args.at (tokens_of c.args.tokens.now) c.requires.read c.requires.more
    c.in-Run.length c.in_err-kind-in-Run.field-0.0 _ seen answer c.in_err-kind-in-Run.ensures).0

pub returns-in_err-kind-in-Run-clause-of_lexing : goal.returns-in_err-kind-in-Run-clause-of_lexing
returns-in_err-kind-in-Run-clause-of_lexing c =
    let rest = take_rest c.args.bytes.now c.args.at in
    let seen = ap front (sym rest) ∙ sym c.in-Run.ensures.value in
    let answer = same_answer c.args.bytes.now c.args.at (tokens_of c.args.tokens.now) c.requires.read c.requires.more
    c.in-Run.length c.opens_literal-lowest.result (tokens_of c.as_slice.result.now) _ c.opens_literal-lowest.ensures
    (ap tokens_of c.as_slice.ensures) rest in
    let p = err_from_is_err_and c.from_residual-in_err-kind-in-Run.result
    c.from_residual-in_err-kind-in-Run.ensures.1 in
    rw (p.1, p.2) (step_stops c.args.bytes.now c.args.at (tokens_of c.args.tokens.now) c.requires.read c.requires.more
    c.in-Run.length c.in_err-kind-in-Run.field-0.0 _ seen answer c.in_err-kind-in-Run.ensures).1
