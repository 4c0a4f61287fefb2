use Rattle.std.proofs.Common.{◌≡◌, arith, map}
use Rattle.std.proofs.lemmas.Grind.{common_steps}
use Rattle.mw_wasm.specs.Views.{instruction_of}
use Rattle.mw_ir.specs.Views.{ir_of}
use Rattle.mw_gen.specs.Listing.{code_list}
use Rattle.mw_gen.specs.Parts.{moved}
use Rattle.mw_gen.proofs.InstructionLists.{code_is}
use Rattle.mw_gen.proofs.code.+put_code.Goals as goal

pub returns-in_ok-put_code-in-If-3 : goal.returns-in_ok-put_code-in-If-3
returns-in_ok-put_code-in-If-3 t c =
    let p : map instruction_of c.put_code-in-If-2.new.out.inner.items
    ≡ code_list (moved c.args.from (ir_of c.deref-in-If-2.result.now)) c.args.base c.args.spare =
    grind (arith, common_steps) in
    let q : map instruction_of c.put_code-in-If-3.new.out.inner.items
    ≡ code_list (moved c.args.from (ir_of c.deref-in-If-3.result.now)) c.args.base c.args.spare =
    grind (arith, common_steps) in
    let e =
    code_is c.put_code-in-If-2.new.out (moved c.args.from (ir_of c.deref-in-If-2.result.now)) c.args.base
    c.args.spare p in
    let f =
    code_is c.put_code-in-If-3.new.out (moved c.args.from (ir_of c.deref-in-If-3.result.now)) c.args.base
    c.args.spare q in
    grind (arith, common_steps, e, f)
