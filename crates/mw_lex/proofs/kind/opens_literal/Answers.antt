use Rattle.std.proofs.Common.{◌&&◌, ap, sym, ◌∙◌}
use Rattle.mw_lex.specs.Tokens.{symbol_of}
use Rattle.mw_lex.specs.Pieces.{is_minus}
use Rattle.mw_lex.proofs.LastTokens.{opens_at}
use Rattle.mw_lex.proofs.kind.opens_literal.Goals as goal

pub returns-then-is_paren_left : goal.returns-then-is_paren_left
returns-then-is_paren_left c =
    let e = opens_at c.args.tokens.now c.first-item.result c.second-item.result c.in-len2-up.len_at_least
    c.first-item.is c.second-item.is in
    c.is_minus.ensures
    ∙ sym (e ∙ ap (λ s. s && is_minus (symbol_of c.second-item.result.kind))
    (sym c.is_paren_left.ensures ∙ c.if-is_paren_left.true))

pub returns-else-is_paren_left : goal.returns-else-is_paren_left
returns-else-is_paren_left c =
    let e = opens_at c.args.tokens.now c.first-item.result c.second-item.result c.in-len2-up.len_at_least
    c.first-item.is c.second-item.is in
    c.if-is_paren_left.false
    ∙ sym (e ∙ ap (λ s. s && is_minus (symbol_of c.second-item.result.kind))
    (sym c.is_paren_left.ensures ∙ c.if-is_paren_left.false))
