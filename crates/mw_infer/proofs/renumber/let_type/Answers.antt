use Rattle.mw_types.specs.Types.{type_of}
use Rattle.mw_infer.proofs.SameInstances.{renumbering}
use Rattle.mw_infer.proofs.renumber.let_type.Goals as goal

pub returns : goal.returns
returns c = renumbering c.in_ok-unknowns.unknowns c.in_ok-classifiers.classifiers c.renumber.new.unknowns
    c.renumber.new.classifiers (type_of c.args.ty.now) (type_of c.in_ok-ty.ty) c.in_ok-ty.ensures
    c.in_ok-unknowns.ensures.count c.in_ok-classifiers.ensures.count c.requires.small
