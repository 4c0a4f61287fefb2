use Rattle.std.proofs.Common.{refl}
use Rattle.mw_types.proofs.Shortening.{found}
use Rattle.mw_types.proofs.state.seek.Goals as goal

pub returns-clause-found : goal.returns-clause-found
returns-clause-found c = found c.args.state.now (record c.args.state.now { parent = c.find_halving.new.parent })
    c.args.node c.find_halving.result c.requires.sound c.find_halving.ensures.shorter refl refl refl
