use Rattle.std.proofs.Common.{◌≡◌, ap, sym, arith}
use Rattle.mw_types.proofs.Steps.{if_ok, no_step, turn_step}
use Rattle.mw_types.proofs.Shortening.{linked_finds, never_finds}
use Rattle.mw_types.proofs.state.merge.Goals as goal

pub returns-then-one-two-clause-same : goal.returns-then-one-two-clause-same
returns-then-one-two-clause-same c =
    if_ok c.link.result (λ fine f t. linked_finds c.seek-one.ensures.found c.seek-two.ensures.found (f t))
    c.link.ensures.same

pub returns-then-one-two-clause-none : goal.returns-then-one-two-clause-none
returns-then-one-two-clause-none c =
    if_ok c.link.result (λ fine f t. never_finds c.seek-one.ensures.found c.seek-two.ensures.found (f t))
    c.link.ensures.none

pub returns-then-two-one-clause-same : goal.returns-then-two-one-clause-same
returns-then-two-one-clause-same c =
    if_ok c.link-then-two-one.result (λ fine f t. linked_finds c.seek-one.ensures.found c.seek-two.ensures.found
    (turn_step (f t))) c.link-then-two-one.ensures.same

pub returns-then-two-one-clause-none : goal.returns-then-two-one-clause-none
returns-then-two-one-clause-none c =
    if_ok c.link-then-two-one.result (λ fine f t. never_finds c.seek-one.ensures.found c.seek-two.ensures.found
    (λ a h e. f t a h (sym e))) c.link-then-two-one.ensures.none

pub returns-else-two-one-clause-same : goal.returns-else-two-one-clause-same
returns-else-two-one-clause-same c t = linked_finds c.seek-one.ensures.found c.seek-two.ensures.found
    (no_step c.seek-two.ensures.found.step.sound (λ a h. ap a.ty one_two))
  where
    one_two : c.seek-one.result ≡ c.seek-two.result
    one_two = omega arith
