use Rattle.std.proofs.Common.{◌≡◌, sym, subst, length, arith}
use Rattle.mw_lines.specs.Marks.{EndsCode}
use Rattle.mw_lines.proofs.ClassifierMarks.{AreMarks}
use Rattle.mw_lines.proofs.ClassifierMarks.{first_walk}
use Rattle.mw_lines.proofs.marks.reaches.Goals as goal

pub loop-left-init : goal.loop-left-init
loop-left-init c =
    let e : c.loop-place.place-index ≡ length c.args.places.now =
    omega (arith, c.loop-place-test.false, c.loop-place.auto.place-index-end) in
    first_walk c.args.types.now c.args.classifier c.args.places.now c.loop-place.marks
    (subst (λ n. EndsCode c.args.types.now c.args.places.now (length c.args.places.now) n)
    (sym c.loop-place.auto.marks) c.requires.ends)
    (subst (λ n. AreMarks c.args.types.now c.args.places.now n c.loop-place.marks) e c.loop-place.invariant)
