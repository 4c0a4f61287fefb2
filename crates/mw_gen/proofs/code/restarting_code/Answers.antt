use Rattle.std.proofs.Common.{◌≡◌, ◌∷◌, arith, map}
use Rattle.std.proofs.lemmas.Grind.{common_steps}
use Rattle.mw_wasm.specs.Syntax.{const_i32, global_set}
use Rattle.mw_wasm.specs.Views.{instruction_of}
use Rattle.mw_ir.specs.Views.{ir_of}
use Rattle.mw_gen.specs.Listing.{code_list}
use Rattle.mw_gen.specs.Parts.{moved}
use Rattle.mw_gen.proofs.InstructionLists.{restarting_is}
use Rattle.mw_gen.proofs.code.restarting_code.Goals as goal

pub returns : goal.returns
returns c =
    let p : map instruction_of c.put_code.new.out.inner.items
    ≡ const_i32 0 ∷ global_set 0 ∷ code_list (moved c.args.from (ir_of c.args.code.now)) 0 c.args.spare =
    grind (arith, common_steps) in
    restarting_is c.put_code.new.out (moved c.args.from (ir_of c.args.code.now)) c.args.spare p
