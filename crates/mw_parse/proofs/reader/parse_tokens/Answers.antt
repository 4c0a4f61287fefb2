use Rattle.std.proofs.Common.{rules, arith, ap, length, map, ◌≡◌, ◌<◌}
use Rattle.mw_lex.specs.Tokens.{tokens_of}
use Rattle.mw_grammar.specs.SurfaceTrees.{item_of, surface_of}
use Rattle.mw_grammar.specs.Answers.{kernels}
use Rattle.mw_parse.proofs.Parsed.{many_kernels, nothing_left}
use Rattle.mw_parse.proofs.reader.parse_tokens.Goals as goal

pub returns-then-kernel_count-gt100 : goal.returns-then-kernel_count-gt100
returns-then-kernel_count-gt100 c =
    let e : length c.in-Ok.rest.now ≡ 0 = search rules in
    let k : 100 < c.kernel_count.result = search rules in
    many_kernels (tokens_of c.args.tokens.now) (surface_of c.in-Ok.surface) c.in-Ok.field-0-1
    (tokens_of c.in-Ok.rest.now) c.in-Ok.ensures.gives (nothing_left c.in-Ok.rest.now e)
    (omega (arith, k, c.kernel_count.ensures.count, ap (λ is. kernels (map item_of is)) c.as_slice.ensures))
