use Rattle.mw_types.specs.Types.{type_of}
use Rattle.mw_infer.proofs.Renumbering.{Renumbers-pair, Renumbers-function}
use Rattle.mw_infer.proofs.renumber.+renumbering.Goals as goal

pub renumber-returns-in_ok-right-in-Pair : goal.renumber-returns-in_ok-right-in-Pair
renumber-returns-in_ok-right-in-Pair t c =
    rw c.in-Pair.is (Renumbers-pair c.args.unknowns.now c.args.classifiers.now c.boxed.new.unknowns
    c.boxed.new.classifiers c.boxed-in-Pair.new.unknowns c.boxed-in-Pair.new.classifiers (type_of c.in-Pair.s.value)
    (type_of c.in-Pair.t.value) (type_of c.in_ok-left-in-Pair.left.value) (type_of c.in_ok-right-in-Pair.right.value)
    (rw c.deref.ensures at c.in_ok-left-in-Pair.ensures) (rw c.deref-in-Pair.ensures at c.in_ok-right-in-Pair.ensures))

pub renumber-returns-in_ok-to-in-Arrow : goal.renumber-returns-in_ok-to-in-Arrow
renumber-returns-in_ok-to-in-Arrow t c =
    rw c.in-Arrow.is (Renumbers-function c.args.unknowns.now c.args.classifiers.now c.boxed-in-Arrow.new.unknowns
    c.boxed-in-Arrow.new.classifiers c.boxed-in-Arrow-2.new.unknowns c.boxed-in-Arrow-2.new.classifiers
    (type_of c.in-Arrow.s.value) (type_of c.in-Arrow.t.value) (type_of c.in_ok-from-in-Arrow.from.value)
    (type_of c.in_ok-to-in-Arrow.to.value) (rw c.deref-in-Arrow.ensures at c.in_ok-from-in-Arrow.ensures)
    (rw c.deref-in-Arrow-2.ensures at c.in_ok-to-in-Arrow.ensures))
