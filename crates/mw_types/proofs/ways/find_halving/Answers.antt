use Rattle.std.proofs.Common.{◌<◌, arith, ap, ◌∙◌, length}
use Rattle.std.specs.Prelude.{slice_index_or}
use Rattle.std.proofs.lemmas.Grind.{get_or_default_zero}
use Rattle.mw_types.proofs.Shortening.{step_shorter}
use Rattle.mw_types.proofs.ways.find_halving.Goals as goal

pub loop-at-preserved : goal.loop-at-preserved
loop-at-preserved c =
    let qs = c.loop-at.parent.items in
    let lt : c.loop-at.at < length qs = omega (arith, c.loop-at.invariant.long, c.loop-at.invariant.inside) in
    let z = c.index.ensures ∙ get_or_default_zero qs c.loop-at.at _ lt in
    let y = c.index-in-loop-at.ensures ∙ get_or_default_zero qs c.loop-at.at _ lt in
    let low = c.loop-at.invariant.low c.loop-at.at lt in
    let e = c.index-up.ensures ∙ get_or_default_zero qs c.index-in-loop-at.result.now _ (omega (arith, y, lt, low))
    ∙ ap (λ i. slice_index_or qs i 0) y in
    (step_shorter c.args.parent.now.items qs c.args.from c.loop-at.at c.index-up.result.now c.loop-at.invariant
    (λ f. c.loop-at-test.true (z ∙ f)) e).0
