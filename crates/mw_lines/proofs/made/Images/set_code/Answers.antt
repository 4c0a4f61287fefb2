use Rattle.std.proofs.Common.{ℕ, ◌+◌, ◌≡◌, Option, Some, arith}
use Rattle.mw_lines.proofs.ImageSearch.{adds_two}
use Rattle.mw_lines.proofs.made.Images.set_code.Goals as goal

pub returns-then-not-branch-clause-refused : goal.returns-then-not-branch-clause-refused
returns-then-not-branch-clause-refused c t f g i j a = c.in_ok-name.ensures.refused c.if-not-branch.true f g i j a.0

pub returns-clause-added : goal.returns-clause-added
returns-clause-added c t p l =
    adds_two c.args.self.now c.name.new.self c.set.new.self 0 (c.args.line.1 + 1) p
    (λ (f : ℕ → Option ℕ) (g : ℕ → Option ℕ). g c.args.line.0 ≡ Some c.args.image.0)
    (λ (f : ℕ → Option ℕ) (g : ℕ → Option ℕ). f c.args.line.1 ≡ Some c.args.image.1) (omega arith) (omega arith)
    (c.in_ok-name.ensures.added c.if-not-branch.false) (c.set.ensures.added t)
    ((c.set.ensures.added t).names c.args.line.0 c.args.image.0)

pub returns-clause-refused : goal.returns-clause-refused
returns-clause-refused c t f g i j a =
    let x = (c.in_ok-name.ensures.added c.if-not-branch.false).least f g i j a.0 in
    c.set.ensures.refused t f g x.0 x.1 a.1
