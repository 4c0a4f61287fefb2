use Rattle.std.proofs.Common.{refl, sym}
use Rattle.mw_types.proofs.Steps.{shape_inside}
use Rattle.mw_types.proofs.Walking.{shape_read}
use Rattle.mw_types.proofs.state.class_shape.Goals as goal

pub returns-clause-shape : goal.returns-clause-shape
returns-clause-shape c = sym
    (shape_read c.args.state.now c.args.root _ _ c.requires.sound c.requires.inside c.index.ensures refl)

pub returns-clause-inside : goal.returns-clause-inside
returns-clause-inside c = shape_inside c.args.state.now c.args.root _ c.requires.sound c.requires.inside c.index.ensures
