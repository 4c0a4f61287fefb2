use Rattle.std.proofs.Common.{ap, ◌∙◌, arith}
use Rattle.std.proofs.lemmas.Grind.{get_or_default_zero}
use Rattle.mw_types.proofs.Verdicts.{never_unsolvable, fine, ready, big}
use Rattle.mw_types.proofs.Work.{never_later}
use Rattle.mw_types.proofs.judging.judge_longer.Goals as goal

pub returns-in-None-clause-judged : goal.returns-in-None-clause-judged
returns-in-None-clause-judged c = never_unsolvable _ _ _ _ (rw c.in_default.is at c.in_ok-clash.ensures.stated).stated
    (never_later c.flatten.ensures.same (rw c.in-None.is at c.in_ok-sizes.ensures.none))

pub returns-then-index-clause-judged : goal.returns-then-index-clause-judged
returns-then-index-clause-judged c =
    let front = rw c.in_default.is at c.in_ok-clash.ensures.stated in
    let all = rw c.in-Some-2.is at c.in_ok-sizes.ensures.sized in
    let lt = c.loop-index-test.true in
    let z = get_or_default_zero c.in-Some-2.all.items c.loop-index.index c.index.result.now
    (omega (arith, all.count, c.flatten.ensures.same.node_count, front.stated.long, lt)) in
    big _ _ _ _ _ front.stated c.flatten.ensures.same (ap (λ v. v.items) c.flatten.ensures.waiting ∙ front.settled) _
    all c.loop-index.index lt (omega (arith, z, c.index.ensures, c.if-index.true))

pub returns-after-loop-index-clause-judged : goal.returns-after-loop-index-clause-judged
returns-after-loop-index-clause-judged c =
    let front = rw c.in_default.is at c.in_ok-clash.ensures.stated in
    fine _ _ _ _ _ front.stated c.flatten.ensures.same
    (ap (λ v. v.items) c.flatten.ensures.waiting ∙ front.settled) _ (rw c.in-Some-2.is at c.in_ok-sizes.ensures.sized)
    (λ u lt. c.loop-index.invariant u (omega (arith, c.loop-index-test.false, lt)))

pub returns-after-loop-index-clause-ready : goal.returns-after-loop-index-clause-ready
returns-after-loop-index-clause-ready c e =
    let front = rw c.in_default.is at c.in_ok-clash.ensures.stated in
    ready _ _ _ _ _ front.stated c.flatten.ensures.same
    (ap (λ v. v.items) c.flatten.ensures.waiting ∙ front.settled) _ (rw c.in-Some-2.is at c.in_ok-sizes.ensures.sized)
    (λ u lt. c.loop-index.invariant u (omega (arith, c.loop-index-test.false, lt)))
