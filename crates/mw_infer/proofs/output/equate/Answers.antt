use Rattle.std.proofs.Common.{refl}
use Rattle.mw_infer.specs.declared.output.Emitted.TheVariants.{Written}
use Rattle.mw_infer.proofs.Emission.{Adds-one}
use Rattle.mw_infer.proofs.output.equate.Goals as goal

pub returns : goal.returns
returns c = Adds-one c.args.out.now _ (Written (record { left = c.args.left; right = c.args.right })) refl refl
    c.in_ok-push.ensures.items refl refl
