use Rattle.mw_types.proofs.Steps.{if_ok}
use Rattle.std.proofs.Common.{refl, ◌∙◌}
use Rattle.mw_types.proofs.Growing.{add_two, add_one}
use Rattle.mw_types.proofs.build.+add.Goals as goal

pub returns-in_ok-right-in-Pair-clause-grew : goal.returns-in_ok-right-in-Pair-clause-grew
returns-in_ok-right-in-Pair-clause-grew t c = rw (c.in-Pair.is, ← c.deref.ensures, ← c.deref-in-Pair.ensures)
    (if_ok c.node-in-Pair.result
    (λ i. add_two c.in_ok-left-in-Pair.ensures.grew c.in_ok-right-in-Pair.ensures.grew (λ a x y z. z ∙ rw (x, y) refl))
    c.node-in-Pair.ensures.grew)

pub returns-in_ok-right-in-Arrow-clause-grew : goal.returns-in_ok-right-in-Arrow-clause-grew
returns-in_ok-right-in-Arrow-clause-grew t c =
    rw (c.in-Arrow.is, ← c.deref-in-Arrow.ensures, ← c.deref-in-Arrow-2.ensures) (if_ok c.node-in-Arrow.result
    (λ i. add_two c.in_ok-left-in-Arrow.ensures.grew c.in_ok-right-in-Arrow.ensures.grew
    (λ a x y z. z ∙ rw (x, y) refl))
    c.node-in-Arrow.ensures.grew)

pub returns-in_ok-below-in-Code-clause-grew : goal.returns-in_ok-below-in-Code-clause-grew
returns-in_ok-below-in-Code-clause-grew t c = rw (c.in-Code.is, ← c.deref-in-Code.ensures)
    (if_ok c.node-in-Code.result (λ i. add_one c.in_ok-below-in-Code.ensures.grew (λ a x z. z ∙ rw x refl))
    c.node-in-Code.ensures.grew)

pub returns-in_ok-below-in-Closed-clause-grew : goal.returns-in_ok-below-in-Closed-clause-grew
returns-in_ok-below-in-Closed-clause-grew t c = rw (c.in-Closed.is, ← c.deref-in-Closed.ensures)
    (if_ok c.node-in-Closed.result (λ i. add_one c.in_ok-below-in-Closed.ensures.grew (λ a x z. z ∙ rw x refl))
    c.node-in-Closed.ensures.grew)

pub returns-in-Int-clause-shaped : goal.returns-in-Int-clause-shaped
returns-in-Int-clause-shaped t c = if_ok c.node.result (λ i f. f (λ e. absurd (cc))) c.node.ensures.shaped

pub returns-in-Bool-clause-shaped : goal.returns-in-Bool-clause-shaped
returns-in-Bool-clause-shaped t c = if_ok c.node-in-Bool.result (λ i f. f (λ e. absurd (cc)))
    c.node-in-Bool.ensures.shaped

pub returns-in_ok-right-in-Pair-clause-shaped : goal.returns-in_ok-right-in-Pair-clause-shaped
returns-in_ok-right-in-Pair-clause-shaped t c =
    if_ok c.node-in-Pair.result
    (λ i f n k. f (λ e. absurd (cc)) n
    (c.in_ok-right-in-Pair.ensures.shaped n (c.in_ok-left-in-Pair.ensures.shaped n k)))
    c.node-in-Pair.ensures.shaped

pub returns-in_ok-right-in-Arrow-clause-shaped : goal.returns-in_ok-right-in-Arrow-clause-shaped
returns-in_ok-right-in-Arrow-clause-shaped t c =
    if_ok c.node-in-Arrow.result
    (λ i f n k. f (λ e. absurd (cc)) n
    (c.in_ok-right-in-Arrow.ensures.shaped n (c.in_ok-left-in-Arrow.ensures.shaped n k)))
    c.node-in-Arrow.ensures.shaped

pub returns-in_ok-below-in-Code-clause-shaped : goal.returns-in_ok-below-in-Code-clause-shaped
returns-in_ok-below-in-Code-clause-shaped t c =
    if_ok c.node-in-Code.result (λ i f n k. f (λ e. absurd (cc)) n (c.in_ok-below-in-Code.ensures.shaped n k))
    c.node-in-Code.ensures.shaped

pub returns-in_ok-below-in-Closed-clause-shaped : goal.returns-in_ok-below-in-Closed-clause-shaped
returns-in_ok-below-in-Closed-clause-shaped t c =
    if_ok c.node-in-Closed.result (λ i f n k. f (λ e. absurd (cc)) n (c.in_ok-below-in-Closed.ensures.shaped n k))
    c.node-in-Closed.ensures.shaped
