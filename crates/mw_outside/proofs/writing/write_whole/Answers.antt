use Rattle.std.proofs.Common.{◌∙◌, arith, length-drop}
use Rattle.mw_outside.proofs.Pieces.{longer_front}
use Rattle.mw_outside.proofs.writing.write_whole.Goals as goal

-- the front that was written before and the part that this call wrote are a longer front
pub loop-done-preserved : goal.loop-done-preserved
loop-done-preserved g c = record {
  bound = omega (arith, c.in-Ok.ensures.bound, length-drop c.loop-done.done c.args.piece.now);
  front = λ told. longer_front _ _ _ _ _ _ (c.loop-done.invariant.front told) (c.in-Ok.ensures.ok told);
  count = c.in-Ok.ensures.same_count ∙ c.loop-done.invariant.count;
}
