use Rattle.std.proofs.Common.{◌++◌, drop, map}
use Rattle.mw_encode.specs.Encoding.{vector_bytes}
use Rattle.mw_encode.proofs.Pieces.{Rest}
use Rattle.mw_encode.proofs.sections.put_all.Given as goal

abbrev pub invariant-loop-one : goal.invariant-loop-one
invariant-loop-one g l =
    Rest (λ x. g.T.Encoded.spelled (g.T.Encoded.seen x)) (λ x. g.T.Encoded.bytes (g.T.Encoded.seen x))
    (drop l.one-index l.list) l.out.items
    (l.fn.out.items ++ vector_bytes g.T.Encoded.bytes (map g.T.Encoded.seen l.list))
