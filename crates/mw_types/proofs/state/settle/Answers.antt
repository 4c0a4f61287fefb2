use Rattle.std.proofs.Common.{refl}
use Rattle.mw_types.proofs.Steps.{popped, popped_never, popped_sound}
use Rattle.mw_types.proofs.Work.{same_step, never_later}
use Rattle.mw_types.proofs.state.settle.Goals as goal

pub merge-requires : goal.merge-requires
merge-requires c = let p = popped_sound (record c.loop-wait.state { waiting = c.pop.new.self }) _ c.in-Some.wait refl
    refl refl c.in-Some.ensures.items c.loop-wait.invariant.sound in record { sound = p.0; left = p.1; right = p.2 }

pub returns-then-not-branch-clause-none : goal.returns-then-not-branch-clause-none
returns-then-not-branch-clause-none c t = never_later c.loop-wait.invariant
    (popped_never (record c.loop-wait.state { waiting = c.pop.new.self }) c.loop-wait.state c.in-Some.wait refl refl
    refl c.in-Some.ensures.items (c.in_ok-merge.ensures.none c.if-not-branch.true))

pub loop-wait-preserved : goal.loop-wait-preserved
loop-wait-preserved c = same_step c.loop-wait.invariant
    (popped (record c.loop-wait.state { waiting = c.pop.new.self }) c.loop-wait.state c.in-Some.wait refl refl refl
    c.in-Some.ensures.items (c.in_ok-merge.ensures.same c.if-not-branch.false))
