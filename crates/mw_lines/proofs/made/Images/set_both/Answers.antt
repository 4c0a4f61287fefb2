use Rattle.std.proofs.Common.{ℕ, ◌+◌, ◌≡◌, Option, Some, arith}
use Rattle.mw_lines.proofs.ImageSearch.{adds_two}
use Rattle.mw_lines.proofs.made.Images.set_both.Goals as goal

pub returns-then-not-set-clause-refused : goal.returns-then-not-set-clause-refused
returns-then-not-set-clause-refused c t f g i j a = c.set.ensures.refused c.if-not-set.true f g i j a.0

pub returns-clause-added : goal.returns-clause-added
returns-clause-added c t p l r =
    adds_two c.args.self.now c.set.new.self c.set-2.new.self (c.args.lines.0 + 1) (c.args.lines.1 + 1) p
    (λ (f : ℕ → Option ℕ) (g : ℕ → Option ℕ). f c.args.lines.0 ≡ Some c.args.images.0)
    (λ (f : ℕ → Option ℕ) (g : ℕ → Option ℕ). f c.args.lines.1 ≡ Some c.args.images.1) (omega arith) (omega arith)
    (c.set.ensures.added c.if-not-set.false) (c.set-2.ensures.added t)
    ((c.set-2.ensures.added t).images c.args.lines.0 c.args.images.0)

pub returns-clause-refused : goal.returns-clause-refused
returns-clause-refused c t f g i j a =
    let x = (c.set.ensures.added c.if-not-set.false).least f g i j a.0 in
    c.set-2.ensures.refused t f g x.0 x.1 a.1
