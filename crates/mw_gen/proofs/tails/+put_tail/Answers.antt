use Rattle.std.proofs.Common.{◌≡◌, ◌+◌, arith, map}
use Rattle.std.proofs.lemmas.Grind.{common_steps}
use Rattle.mw_wasm.specs.Views.{instruction_of}
use Rattle.mw_ir.specs.Views.{ir_of}
use Rattle.mw_gen.specs.Listing.{tail_list}
use Rattle.mw_gen.specs.Parts.{moved}
use Rattle.mw_gen.proofs.InstructionLists.{tail_is}
use Rattle.mw_gen.proofs.tails.+put_tail.Goals as goal

pub returns-in_ok-put_tail-in-If-2 : goal.returns-in_ok-put_tail-in-If-2
returns-in_ok-put_tail-in-If-2 t c =
    let p : map instruction_of c.put_tail-in-If.new.out.inner.items
    ≡ tail_list (moved c.args.from (ir_of c.deref-in-If-2.result.now)) 2 c.args.spare (c.args.label + 1) =
    grind (arith, common_steps) in
    let q : map instruction_of c.put_tail-in-If-2.new.out.inner.items
    ≡ tail_list (moved c.args.from (ir_of c.deref-in-If-3.result.now)) 2 c.args.spare (c.args.label + 1) =
    grind (arith, common_steps) in
    let e =
    tail_is c.put_tail-in-If.new.out (moved c.args.from (ir_of c.deref-in-If-2.result.now)) 2 c.args.spare
    (c.args.label + 1) p in
    let f =
    tail_is c.put_tail-in-If-2.new.out (moved c.args.from (ir_of c.deref-in-If-3.result.now)) 2 c.args.spare
    (c.args.label + 1) q in
    grind (arith, common_steps, e, f)
