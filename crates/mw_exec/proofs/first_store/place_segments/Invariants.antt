use Rattle.mw_exec.proofs.FirstStores.{PlacingSegments}
use Rattle.mw_exec.proofs.first_store.place_segments.Given as goal

abbrev pub invariant-loop-segment : goal.invariant-loop-segment
invariant-loop-segment l = PlacingSegments l.size l.segment-index l.segments l.initial.bytes.items l.bytes.items
