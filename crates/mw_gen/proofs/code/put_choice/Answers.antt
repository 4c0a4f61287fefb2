use Rattle.std.proofs.Common.{arith}
use Rattle.std.specs.Prelude.{Some}
use Rattle.std.proofs.lemmas.Grind.{common_steps}
use Rattle.mw_wasm.specs.declared.values.ValType.TheVariants.{I64}
use Rattle.mw_wasm.specs.Views.{cond_is}
use Rattle.mw_gen.proofs.code.put_choice.Goals as goal

pub returns : goal.returns
returns c = rw (← cond_is (Some I64) c.args.then c.args.otherwise) (grind (arith, common_steps))
