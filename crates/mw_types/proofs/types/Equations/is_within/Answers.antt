use Rattle.std.proofs.Common.{true≢false, refl, sym, ◌∙◌, arith, length}
use Rattle.std.proofs.lemmas.Option.{slice_get_read}
use Rattle.mw_types.proofs.Verdicts.{item_within, within_more}
use Rattle.mw_types.proofs.types.Equations.is_within.Goals as goal

pub returns-then-not-names_within : goal.returns-then-not-names_within
returns-then-not-names_within c = (
  (λ h. absurd (true≢false (sym h))),
  (λ w. let p =
      c.names_within.ensures.1
      (item_within c.args.self.now.unknowns c.args.self.now.classifiers c.as_slice-equation-items.result.now
      c.loop-equation.equation-index c.equation-item.result (rw c.as_slice-equation-items.ensures w)
      (slice_get_read c.as_slice-equation-items.result.now (length c.as_slice-equation-items.result.now)
      c.loop-equation.equation-index c.equation-item.result refl (omega arith) c.equation-item.is)).0 in
      absurd (true≢false (sym p ∙ c.if-not-names_within.true))),
)

pub returns-then-not-names_within-2 : goal.returns-then-not-names_within-2
returns-then-not-names_within-2 c = (
  (λ h. absurd (true≢false (sym h))),
  (λ w. let p = c.names_within-in-loop-equation.ensures.1
      (item_within c.args.self.now.unknowns c.args.self.now.classifiers c.as_slice-equation-items.result.now
      c.loop-equation.equation-index c.equation-item.result (rw c.as_slice-equation-items.ensures w)
      (slice_get_read c.as_slice-equation-items.result.now (length c.as_slice-equation-items.result.now)
      c.loop-equation.equation-index c.equation-item.result refl (omega arith) c.equation-item.is)).1 in
      absurd (true≢false (sym p ∙ c.if-not-names_within-2.true))),
)

pub loop-equation-preserved : goal.loop-equation-preserved
loop-equation-preserved c = within_more c.args.self.now.unknowns c.args.self.now.classifiers c.args.self.now.pairs
    c.loop-equation.equation-index c.equation-item.result
    (rw c.as_slice-equation-items.ensures at
    (slice_get_read c.as_slice-equation-items.result.now (length c.as_slice-equation-items.result.now)
    c.loop-equation.equation-index c.equation-item.result refl (omega arith) c.equation-item.is))
    c.loop-equation.invariant (c.names_within.ensures.0 c.if-not-names_within.false)
    (c.names_within-in-loop-equation.ensures.0 c.if-not-names_within-2.false)
