use Rattle.mw_encode.proofs.Pieces.{viewed_count, viewed_start, rest_item, rest_step, rest_end}
use Rattle.mw_encode.proofs.sections.put_all.Goals as goal

pub put_count-requires : goal.put_count-requires
put_count-requires g c = viewed_count g.T.Encoded.spelled g.T.Encoded.seen _ c.requires

pub loop-one-init : goal.loop-one-init
loop-one-init g c =
    viewed_start g.T.Encoded.spelled g.T.Encoded.bytes g.T.Encoded.seen _ _ _ c.requires c.in_ok-put_count.ensures

pub put-requires : goal.put-requires
put-requires g c = rest_item (λ x. g.T.Encoded.spelled (g.T.Encoded.seen x))
    (λ x. g.T.Encoded.bytes (g.T.Encoded.seen x)) _ _ _ _ _ c.loop-one-test.true c.one-item.is c.loop-one.invariant

pub loop-one-preserved : goal.loop-one-preserved
loop-one-preserved g c = rest_step (λ x. g.T.Encoded.spelled (g.T.Encoded.seen x))
    (λ x. g.T.Encoded.bytes (g.T.Encoded.seen x)) c.args.list.now c.loop-one.one-index c.one-item.result
    c.loop-one.out.items c.put.new.out.items _ c.loop-one-test.true c.one-item.is c.in_ok-put.ensures
    c.loop-one.invariant

pub returns : goal.returns
returns g c = rest_end (λ x. g.T.Encoded.spelled (g.T.Encoded.seen x)) (λ x. g.T.Encoded.bytes (g.T.Encoded.seen x))
    c.args.list.now c.loop-one.one-index c.loop-one.out.items _ c.loop-one-test.false c.loop-one.invariant
