use Rattle.std.proofs.Common.{◌≡◌, ◌++◌, drop}
use Rattle.std.specs.List.{flat_map}
use Rattle.mw_wat.specs.CanonicalTexts.{line}
use Rattle.mw_wat.proofs.fields.put_all.Given as goal

abbrev pub invariant-loop-one : goal.invariant-loop-one
invariant-loop-one g l = l.out.items ++ flat_map (λ x. line (g.T.Field.lexemes (g.T.Field.seen x)))
    (drop l.one-index l.list)
    ≡ l.fn.out.items ++ flat_map (λ x. line (g.T.Field.lexemes (g.T.Field.seen x))) l.list
