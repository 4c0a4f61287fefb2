use Rattle.std.proofs.Common.{◌-◌, arith}
use Rattle.mw_types.specs.Equations.{equation_of, equations_of}
use Rattle.mw_types.specs.Solutions.{substitution_of}
use Rattle.mw_types.specs.Types.{type_of}
use Rattle.mw_types.proofs.Halving.{eqs_length}
use Rattle.mw_infer.proofs.Copying.{equation-get, sides-at, within-at, within-take}
use Rattle.mw_infer.proofs.failing.FailingPart.sides.Goals as goal

pub front_copied-requires : goal.front_copied-requires
front_copied-requires c =
    rw c.as_slice.ensures (omega (arith, c.requires.low, eqs_length c.args.self.now.equations.pairs))

pub solve-requires : goal.solve-requires
solve-requires c = record {
  within = rw (c.in_ok-front_copied.ensures, c.as_slice.ensures)
      (within-take _ _ (c.args.self.now.front - 1) (equations_of c.args.self.now.equations.pairs) c.requires.within);
}

pub get-requires : goal.get-requires
get-requires c =
    omega (arith, c.requires.front, c.requires.low, eqs_length c.args.self.now.equations.pairs)

pub applied_sides-requires-clause-left : goal.applied_sides-requires-clause-left
applied_sides-requires-clause-left c =
    rw (c.in-Ok.ensures.types, c.in-Ok.ensures.classifiers)
    (within-at _ _ (equations_of c.args.self.now.equations.pairs) _ (equation_of c.get.result.now) c.requires.within
    (equation-get c.args.self.now.equations.pairs _ c.get.result.now c.get.ensures)).0

pub applied_sides-requires-clause-right : goal.applied_sides-requires-clause-right
applied_sides-requires-clause-right c =
    rw (c.in-Ok.ensures.types, c.in-Ok.ensures.classifiers)
    (within-at _ _ (equations_of c.args.self.now.equations.pairs) _ (equation_of c.get.result.now) c.requires.within
    (equation-get c.args.self.now.equations.pairs _ c.get.result.now c.get.ensures)).1

pub returns-in-Ok : goal.returns-in-Ok
returns-in-Ok c =
    sides-at c.applied_sides.result (λ sides. type_of sides.0) (λ sides. type_of sides.1) c.args.self.now
    (substitution_of c.in-Ok.solved) c.get.result.now
    (rw (c.in_ok-front_copied.ensures, c.as_slice.ensures) at c.in-Ok.ensures.most_general) c.get.ensures
    c.applied_sides.ensures.left c.applied_sides.ensures.right
