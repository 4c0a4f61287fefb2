use Rattle.mw_reading.proofs.SourceReadings.{refused_at_lexing, first_at_lexing, refused_at_parsing, first_at_parsing}
use Rattle.mw_reading.proofs.SourceReadings.{read_program, only_program, few_nodes_read, refused_at_resolving}
use Rattle.mw_reading.proofs.SourceReadings.{first_at_resolving}
use Rattle.mw_reading.proofs.read.Goals as goal

pub returns-in_err-tokens-clause-refused : goal.returns-in_err-tokens-clause-refused
returns-in_err-tokens-clause-refused c =
    refused_at_lexing _ _ c.lex.ensures _ _ c.in_err-tokens.was c.from_residual.ensures.1

pub returns-in_err-tokens-clause-first : goal.returns-in_err-tokens-clause-first
returns-in_err-tokens-clause-first c =
    first_at_lexing _ _ c.lex.ensures _ _ c.in_err-tokens.was c.from_residual.ensures.1

pub returns-in_err-surface-clause-refused : goal.returns-in_err-surface-clause-refused
returns-in_err-surface-clause-refused c =
    refused_at_parsing _ _ c.lex.ensures _ c.in_ok-tokens.was _ c.parse.ensures _ _ c.in_err-surface.was
    c.from_residual-in_err-surface.ensures.1

pub returns-in_err-surface-clause-first : goal.returns-in_err-surface-clause-first
returns-in_err-surface-clause-first c =
    first_at_parsing _ _ c.lex.ensures _ c.in_ok-tokens.was _ c.parse.ensures _ _ c.in_err-surface.was
    c.from_residual-in_err-surface.ensures.1

pub returns-clause-found : goal.returns-clause-found
returns-clause-found c =
    read_program _ _ c.lex.ensures _ c.in_ok-tokens.was _ c.parse.ensures _ c.in_ok-surface.was _ c.resolve.ensures

pub returns-clause-only : goal.returns-clause-only
returns-clause-only c =
    only_program _ _ c.lex.ensures _ c.in_ok-tokens.was _ c.parse.ensures _ c.in_ok-surface.was _ c.resolve.ensures

pub returns-clause-refused : goal.returns-clause-refused
returns-clause-refused c =
    refused_at_resolving _ _ c.lex.ensures _ c.in_ok-tokens.was _ c.parse.ensures _ c.in_ok-surface.was _
    c.resolve.ensures

pub returns-clause-first : goal.returns-clause-first
returns-clause-first c =
    first_at_resolving _ _ c.lex.ensures _ c.in_ok-tokens.was _ c.parse.ensures _ c.in_ok-surface.was _
    c.resolve.ensures

pub resolve-requires-clause-nodes : goal.resolve-requires-clause-nodes
resolve-requires-clause-nodes c =
    few_nodes_read _ _ c.lex.ensures _ c.in_ok-tokens.was _ c.parse.ensures _ c.in_ok-surface.was
