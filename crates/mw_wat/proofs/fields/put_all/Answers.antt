use Rattle.std.proofs.Common.{ap, ◌∙◌, ◌++◌}
use Rattle.mw_wat.specs.CanonicalTexts.{line}
use Rattle.mw_wat.proofs.TextParts.{left_step, left_end}
use Rattle.mw_wat.proofs.FieldTexts.{lines_of}
use Rattle.mw_wat.proofs.fields.put_all.Goals as goal

pub loop-one-preserved : goal.loop-one-preserved
loop-one-preserved g c = left_step
    (λ x. line (g.T.Field.lexemes (g.T.Field.seen x))) c.args.list.now c.loop-one.one-index _ _
    c.loop-one.out.items c.put.new.out.items _ c.loop-one-test.true c.one-item.is c.in_ok-put.ensures
    c.loop-one.invariant

pub returns : goal.returns
returns g c = left_end
    (λ x. line (g.T.Field.lexemes (g.T.Field.seen x))) c.args.list.now c.loop-one.one-index c.loop-one.out.items _
    c.loop-one-test.false c.loop-one.invariant
    ∙ ap (λ text. c.args.out.now.items ++ text) (lines_of g.T.Field.seen g.T.Field.lexemes c.args.list.now)
