use Rattle.std.proofs.Common.{refl, ◌∙◌}
use Rattle.mw_types.proofs.Steps.{no_step}
use Rattle.mw_types.proofs.Work.{same_step}
use Rattle.mw_types.proofs.Shortening.{found_same}
use Rattle.mw_types.proofs.state.flatten.Goals as goal

pub loop-node-init : goal.loop-node-init
loop-node-init c = (no_step c.requires.sound (λ a h. tt), refl)

pub loop-node-preserved : goal.loop-node-preserved
loop-node-preserved c = (
  same_step c.loop-node.invariant.0 (found_same c.seek-root.ensures.found),
  c.seek-root.ensures.waiting
      ∙ c.loop-node.invariant.1,
)
