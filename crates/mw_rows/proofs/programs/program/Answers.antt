use Rattle.mw_lex.specs.Tokens.{tokens_of}
use Rattle.mw_grammar.specs.SurfaceTrees.{surface_of}
use Rattle.mw_grammar.proofs.Sparse.{few_nodes}
use Rattle.std.proofs.Common.{length}
use Rattle.mw_script.proofs.CheckedPrograms.{are_resolved, lexed_small}
use Rattle.mw_rows.proofs.programs.program.Goals as goal

pub resolve-requires-clause-nodes : goal.resolve-requires-clause-nodes
resolve-requires-clause-nodes c =
    few_nodes (tokens_of c.in_ok-tokens.tokens) (length c.args.bytes.now)
    (surface_of c.in_ok-surface.surface) c.in_ok-tokens.ensures.in_order
    (lexed_small (length c.args.bytes.now) c.lex.result c.in_ok-tokens.tokens c.in_ok-tokens.was
    c.lex.ensures.only_too_large) c.in_ok-surface.ensures.sparse

pub returns : goal.returns
returns c =
    are_resolved (tokens_of c.in_ok-tokens.tokens) (surface_of c.in_ok-surface.surface) c.resolve.result
    c.in_ok-surface.ensures.found c.resolve.ensures.found c.resolve.ensures.names c.resolve.ensures.nodes
