use Rattle.mw_types.proofs.Steps.{then_step, finish, no_step}
use Rattle.mw_types.proofs.state.link.Goals as goal

pub returns-in_ok-postpone-in-Two-2-clause-same : goal.returns-in_ok-postpone-in-Two-2-clause-same
returns-in_ok-postpone-in-Two-2-clause-same c t = finish _ (λ e. absurd (cc)) (rw c.in-Two.is at c.put.ensures.linked)
    (then_step c.in_ok-postpone-in-Two.ensures.step c.in_ok-postpone-in-Two-2.ensures.step)

pub returns-in_ok-postpone-in-Classes-clause-same :
    goal.returns-in_ok-postpone-in-Classes-clause-same
returns-in_ok-postpone-in-Classes-clause-same c t =
    finish _ (λ e. absurd (cc)) (rw c.in-Classes.is at c.put.ensures.linked)
    (then_step c.in_ok-postpone-in-Classes.ensures.step c.join.ensures.step)

pub returns-in_ok-postpone-in-One-clause-same : goal.returns-in_ok-postpone-in-One-clause-same
returns-in_ok-postpone-in-One-clause-same c t = finish _ (λ e. absurd (cc)) (rw c.in-One.is at c.put.ensures.linked)
    c.in_ok-postpone-in-One.ensures.step

pub returns-in-Keep-clause-same : goal.returns-in-Keep-clause-same
returns-in-Keep-clause-same c t = finish _ (λ e. absurd (cc)) (rw c.in-Keep.is at c.put.ensures.linked)
    (no_step c.put.ensures.linked.sound (λ a h. tt))

pub put-requires-clause-extra : goal.put-requires-clause-extra
put-requires-clause-extra c = c.meet-met.ensures.inside _ _ c.class_shape.ensures.inside c.class_shape-2.ensures.inside
