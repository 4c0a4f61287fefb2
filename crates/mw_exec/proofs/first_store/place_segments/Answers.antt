use Rattle.std.proofs.Common.{arith, refl}
use Rattle.mw_exec.proofs.FirstStores.{segment_inside, segments_more, at_most, is_placed_from}
use Rattle.mw_exec.proofs.first_store.place_segments.Goals as goal

pub place_segment-requires-clause-fits : goal.place_segment-requires-clause-fits
place_segment-requires-clause-fits c = at_most _ _ _ _ _ _ c.offset_of-at.ensures c.as_slice.ensures refl
    (segment_inside c.args.segments.now c.args.size c.loop-segment.segment-index c.segment-item.result c.requires.fit
    (omega arith) c.segment-item.is)

pub loop-segment-preserved : goal.loop-segment-preserved
loop-segment-preserved c = segments_more c.args.size c.loop-segment.segment-index c.args.segments.now
    c.segment-item.result c.args.bytes.now.items c.loop-segment.bytes.items c.place_segment.new.bytes.items
    c.loop-segment.invariant (omega arith) c.segment-item.is
    (is_placed_from _ _ _ _ _ _ c.offset_of-at.ensures c.as_slice.ensures c.in_ok-place_segment.ensures.placed)
    c.in_ok-place_segment.ensures.short
