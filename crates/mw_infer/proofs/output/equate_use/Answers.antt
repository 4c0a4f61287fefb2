use Rattle.std.proofs.Common.{refl}
use Rattle.mw_infer.specs.declared.output.Emitted.TheVariants.{NameUse}
use Rattle.mw_infer.proofs.Emission.{Adds-one}
use Rattle.mw_infer.proofs.output.equate_use.Goals as goal

pub returns : goal.returns
returns c = Adds-one c.args.out.now _ (NameUse c.args.own c.args.name) refl refl c.in_ok-push.ensures.items refl refl
