use Rattle.std.proofs.Common.{inl, inr, true≢false, sym, ap, ◌∙◌, arith, length}
use Rattle.mw_types.proofs.Halving.{halved_start, halved_low, halved_high, blank_front, copy_front, ready_front}
use Rattle.mw_types.proofs.Halving.{first_unsolvable, first_too_big}
use Rattle.mw_types.proofs.solving.first_fault.Goals as goal

pub loop-high-init : goal.loop-high-init
loop-high-init c = (
  halved_start c.args.unknowns c.args.equations.now c.args.faulty c.requires.judged c.requires.fault,
  c.requires.within,
  omega arith,
  blank_front c.args.unknowns c.args.classifiers c.args.equations.now c.in_ok-state.state c.in_ok-state.ensures,
)

pub returns-in-Clash : goal.returns-in-Clash
returns-in-Clash c = first_unsolvable c.args.unknowns c.args.equations.now c.loop-high.low c.loop-high.high.end
    c.loop-high.high.verdict c.loop-high.invariant.0 (omega arith) c.loop-high.invariant.1 (inl c.in-Clash.is)

pub returns-in-Cycle : goal.returns-in-Cycle
returns-in-Cycle c = first_unsolvable c.args.unknowns c.args.equations.now c.loop-high.low c.loop-high.high.end
    c.loop-high.high.verdict c.loop-high.invariant.0 (omega arith) c.loop-high.invariant.1 (inr c.in-Cycle.is)

pub returns : goal.returns
returns c = first_too_big c.args.unknowns c.args.equations.now c.loop-high.low c.loop-high.high.end
    c.loop-high.high.verdict c.loop-high.invariant.0 (omega arith) c.loop-high.invariant.1 c.in-TooBig.is

pub judge_longer-requires-clause-stated : goal.judge_longer-requires-clause-stated
judge_longer-requires-clause-stated c = copy_front c.in_ok-longer.ensures c.loop-high.invariant.3

pub loop-high-preserved-then-is_fine : goal.loop-high-preserved-then-is_fine
loop-high-preserved-then-is_fine c =
    let f = c.is_fine.ensures.0 c.if-is_fine.true in (
      halved_low c.args.unknowns c.args.equations.now c.loop-high.low c.loop-high.high.end c.between-middle.result
          c.loop-high.high.verdict c.in_ok-front.front c.loop-high.invariant.0 c.in_ok-front.ensures.judged f
          (c.in_ok-front.ensures.whole f),
      c.loop-high.invariant.1,
      omega arith,
      ready_front c.args.unknowns c.args.classifiers _ c.between-middle.result c.args.equations.now
          c.judge_longer.new.state
          (ap length c.in_ok-longer.ensures.classifier ∙ c.loop-high.invariant.3.stated.classifier_count)
          (c.in_ok-front.ensures.ready f),
    )

pub loop-high-preserved : goal.loop-high-preserved
loop-high-preserved c = (
  halved_high c.args.unknowns c.args.equations.now c.loop-high.low c.loop-high.high.end c.loop-high.high.verdict
      c.in_ok-front.front c.loop-high.invariant.0 c.in_ok-front.ensures.judged
      (λ e. true≢false (sym (c.is_fine.ensures.1 e) ∙ c.if-is_fine.false)),
  omega (arith, c.in_ok-front.ensures.within, c.between-middle.ensures.below, c.loop-high.invariant.1),
  (let longer = c.in_ok-front.ensures.longer c.between-middle.ensures.above in omega (arith, longer)),
  c.loop-high.invariant.3,
)
