use Rattle.std.proofs.Common.{true≢false, sym, ◌∙◌, arith}
use Rattle.mw_types.proofs.Walking.{start_walk, is_met, all_shut, top_in}
use Rattle.mw_types.proofs.Walking.{walk_at, finish_top, cycle, ready_smaller, down_smaller, now_new, now_open}
use Rattle.mw_types.proofs.Walking.{went_down, set_not_new}
use Rattle.mw_types.proofs.walk.visit.Goals as goal

pub inspect-requires-clause-inside : goal.inspect-requires-clause-inside
inspect-requires-clause-inside c = (top_in _ _ _ _ _ c.loop-top.invariant.0 c.in-Some.ensures.items).0

pub inspect-requires-clause-root : goal.inspect-requires-clause-root
inspect-requires-clause-root c = (top_in _ _ _ _ _ c.loop-top.invariant.0 c.in-Some.ensures.items).1

pub index_mut-requires-in-Ready : goal.index_mut-requires-in-Ready
index_mut-requires-in-Ready c =
    let p = (top_in _ _ _ _ _ c.loop-top.invariant.0 c.in-Some.ensures.items).0 in
    omega (arith, p, c.loop-top.invariant.0.marked.count)

pub loop-top-smaller-in-Ready : goal.loop-top-smaller-in-Ready
loop-top-smaller-in-Ready c = ready_smaller _ _ _ _ _ c.in-Some.ensures.items

pub loop-top-preserved-in-Ready : goal.loop-top-preserved-in-Ready
loop-top-preserved-in-Ready c = (
  finish_top _ _ _ _ _ (walk_at _ _ _ _ c.in-Some.ensures.items c.loop-top.invariant.0) c.in-Ready.ensures
      ((top_in _ _ _ _ _ c.loop-top.invariant.0 c.in-Some.ensures.items).0),
  set_not_new _ c.in-Some.top c.args.start (λ e. absurd (cc)) c.loop-top.invariant.1,
)

pub returns-then-is_open-clause-none : goal.returns-then-is_open-clause-none
returns-then-is_open-clause-none c t =
    let l = rw c.as_slice.ensures.value at c.in-Down.ensures in
    cycle _ _ _ _ _ (walk_at _ _ _ _ c.in-Some.ensures.items c.loop-top.invariant.0) l
    (now_open _ _ _ _ _ c.loop-top.invariant.0.marked l c.index-in-Down.ensures (c.is_open.ensures.0 c.if-is_open.true))

pub loop-top-smaller : goal.loop-top-smaller
loop-top-smaller c =
    let l = rw c.as_slice.ensures.value at c.in-Down.ensures in
    let new = now_new _ _ _ _ _ c.loop-top.invariant.0.marked l c.index-in-Down.ensures
    (λ e. true≢false (sym (c.is_open.ensures.1 e) ∙ c.if-is_open.false)) in
    down_smaller _ _ _ _ _ _ _ c.in-Some.ensures.items c.in_ok-push-in-Down.ensures.items
    c.in_ok-push-in-Down-2.ensures.items (omega (arith, l.inside, c.loop-top.invariant.0.marked.count)) new

pub loop-top-preserved : goal.loop-top-preserved
loop-top-preserved c = (
  went_down _ _ _ _ _ _ _ _ c.in-Some.ensures.items c.in_ok-push-in-Down.ensures.items
      c.in_ok-push-in-Down-2.ensures.items c.loop-top.invariant.0 (rw c.as_slice.ensures.value at c.in-Down.ensures),
  set_not_new _ c.in-Down.next c.args.start (λ e. absurd (cc)) c.loop-top.invariant.1,
)

pub returns-in-Done-clause-met : goal.returns-in-Done-clause-met
returns-in-Done-clause-met c t = is_met c.args.marks.now.items c.args.start _ (λ e. absurd (cc))
    (omega (arith, c.requires.inside, c.requires.marked.count)) c.index.ensures c.in-Done.is

pub returns-in-Open-clause-met : goal.returns-in-Open-clause-met
returns-in-Open-clause-met c t = is_met c.args.marks.now.items c.args.start _ (λ e. absurd (cc))
    (omega (arith, c.requires.inside, c.requires.marked.count)) c.index.ensures c.in-Open.is

pub loop-top-init : goal.loop-top-init
loop-top-init c = start_walk _ _ _ _ _ c.requires.marked c.requires.shut c.requires.inside c.requires.root
    c.requires.empty c.in_ok-push.ensures.items

pub returns-clause-shut : goal.returns-clause-shut
returns-clause-shut c t = all_shut _ _ _ c.loop-top.invariant.0
    (sym c.loop-top.path.ok.0 ∙ c.in_default.ensures.cases.0)
