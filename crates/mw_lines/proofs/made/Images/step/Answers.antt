use Rattle.std.proofs.Common.{ℕ, ◌+◌, ◌≡◌, Option, Some, arith}
use Rattle.mw_lines.proofs.ImageSearch.{adds_as}
use Rattle.mw_lines.proofs.made.Images.step.Goals as goal

pub returns-in-Pair-image-clause-added : goal.returns-in-Pair-image-clause-added
returns-in-Pair-image-clause-added c =
    rw (c.in-Pair.is, c.in-Pair-image.is) (λ t p h. c.set_both.ensures.added t p h.0 h.1)

pub returns-in-Pair-image-clause-refused : goal.returns-in-Pair-image-clause-refused
returns-in-Pair-image-clause-refused c =
    rw (c.in-Pair.is, c.in-Pair-image.is) (λ t f g i j a. c.set_both.ensures.refused t f g i j a)

pub returns-in-Arrow-image-clause-added : goal.returns-in-Arrow-image-clause-added
returns-in-Arrow-image-clause-added c =
    rw (c.in-Arrow.is, c.in-Arrow-image.is) (λ t p h. c.set_both-in-Arrow-image.ensures.added t p h.0 h.1)

pub returns-in-Arrow-image-clause-refused : goal.returns-in-Arrow-image-clause-refused
returns-in-Arrow-image-clause-refused c =
    rw (c.in-Arrow.is, c.in-Arrow-image.is) (λ t f g i j a. c.set_both-in-Arrow-image.ensures.refused t f g i j a)

pub returns-in-Code-image-clause-added : goal.returns-in-Code-image-clause-added
returns-in-Code-image-clause-added c = rw (c.in-Code.is, c.in-Code-image.is) c.set_code.ensures.added

pub returns-in-Code-image-clause-refused : goal.returns-in-Code-image-clause-refused
returns-in-Code-image-clause-refused c = rw (c.in-Code.is, c.in-Code-image.is) c.set_code.ensures.refused

pub returns-in-Closed-image-clause-added : goal.returns-in-Closed-image-clause-added
returns-in-Closed-image-clause-added c =
    rw (c.in-Closed.is, c.in-Closed-image.is) (λ t p h.
    adds_as c.args.self.now c.set.new.self (c.in-Closed.content + 1) p
    (λ (f : ℕ → Option ℕ) (g : ℕ → Option ℕ). f c.in-Closed.content ≡ Some c.in-Closed-image.first)
    (λ (f : ℕ → Option ℕ) (g : ℕ → Option ℕ). f c.in-Closed.content ≡ Some c.in-Closed-image.first) (omega arith)
    (c.set.ensures.added t) (λ e. e) (λ f g i j e. e))

pub returns-in-Closed-image-clause-refused : goal.returns-in-Closed-image-clause-refused
returns-in-Closed-image-clause-refused c = rw (c.in-Closed.is, c.in-Closed-image.is) c.set.ensures.refused
