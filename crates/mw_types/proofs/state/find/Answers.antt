use Rattle.std.proofs.Common.{refl, arith}
use Rattle.mw_types.specs.Forest.{here, up}
use Rattle.mw_types.proofs.state.find.Goals as goal

pub loop-at-init : goal.loop-at-init
loop-at-init c = (here, omega arith)

pub loop-at-preserved : goal.loop-at-preserved
loop-at-preserved c =
    (up c.loop-at.invariant.0 (omega arith) refl, omega (arith, c.requires.low c.loop-at.at (omega arith)))
