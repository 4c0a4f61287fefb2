use Rattle.std.proofs.Common.{◌≡◌, [], ◌∷◌, ap, ◌∙◌, arith, map}
use Rattle.std.specs.Prelude.{Some}
use Rattle.std.proofs.lemmas.Grind.{common_steps}
use Rattle.mw_wasm.specs.declared.instructions.Instr as instr
use Rattle.mw_wasm.specs.declared.values.ValType.TheVariants.{I64}
use Rattle.mw_wasm.specs.Syntax.{next, end, loop}
use Rattle.mw_wasm.specs.Views.{instruction_of, list_code, loop_is}
use Rattle.mw_ir.specs.Views.{ir_of}
use Rattle.mw_gen.specs.Listing.{tail_list}
use Rattle.mw_gen.specs.Parts.{moved}
use Rattle.mw_gen.proofs.InstructionLists.{tail_is}
use Rattle.mw_gen.proofs.functions.loop_alone.Goals as goal

pub returns : goal.returns
returns c =
    let p : map instruction_of c.put_tail.new.out.inner.items
    ≡ tail_list (moved c.args.from (ir_of c.args.code.now)) 2 c.args.spare 0 =
    grind (arith, common_steps) in
    let e = tail_is c.put_tail.new.out (moved c.args.from (ir_of c.args.code.now)) 2 c.args.spare 0 p in
    let q : c.push.new.self.inner.items ≡ instr.Loop (Some I64) c.put_tail.new.out ∷ [] = grind (arith, common_steps) in
    ap list_code q ∙ ap (λ i. next i end) (loop_is (Some I64) c.put_tail.new.out ∙ ap (λ d. loop (Some I64) d) e)
