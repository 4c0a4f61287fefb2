use Rattle.std.proofs.Common.{◌∙◌, arith}
use Rattle.mw_console.proofs.TextLemmas.{line_written, front_written}
use Rattle.mw_console.proofs.lines.write_lines.Goals as goal

pub loop-done-preserved : goal.loop-done-preserved
loop-done-preserved g c = record {
  bound = c.line_end-end.ensures.within;
  front = λ told. line_written _ _ _ c.args.text.now c.loop-done.done c.line_end-end.result
      (omega (arith, c.line_end-end.ensures.above)) (c.loop-done.invariant.front told) (c.in-Ok.ensures.ok told);
  count = c.in-Ok.ensures.same_count ∙ c.loop-done.invariant.count;
}

pub returns-in-Err-clause-front : goal.returns-in-Err-clause-front
returns-in-Err-clause-front g c = λ told. front_written _ _ _ c.args.text.now c.loop-done.done c.line_end-end.result
    (omega (arith, c.line_end-end.ensures.above)) c.line_end-end.ensures.within (c.loop-done.invariant.front told)
    (c.in-Err.ensures.front told)
