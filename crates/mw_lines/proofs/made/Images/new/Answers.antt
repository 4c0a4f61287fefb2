use Rattle.std.proofs.Common.{◌≡◌, subst, arith}
use Rattle.mw_lines.proofs.ImageSearch.{AreBlank}
use Rattle.mw_lines.proofs.ImageSearch.{no_blanks, blank_more, first_image}
use Rattle.mw_lines.proofs.made.Images.new.Goals as goal

pub loop-line-init : goal.loop-line-init
loop-line-init c = rw c.new-places.ensures.items no_blanks

pub loop-line-preserved : goal.loop-line-preserved
loop-line-preserved c =
    blank_more c.loop-line.places.items c.push.new.self.items c.loop-line._line c.in_ok-push.ensures.items
    c.loop-line.invariant

pub returns : goal.returns
returns c =
    let e : c.loop-line._line ≡ c.args.last = omega (arith, c.loop-line-test.false, c.loop-line.auto._line-end) in
    first_image (record { places = c.push-2.new.self; classifiers = c.new.result }) c.loop-line.places.items
    c.args.last c.args.image
    (subst (λ n. AreBlank c.loop-line.places.items n) e c.loop-line.invariant) c.in_ok-push-2.ensures.items
    c.new.ensures.empty
