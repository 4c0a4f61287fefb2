use Rattle.std.proofs.Common.{◌≡◌, ◌+◌, ◌++◌, [], ◌∷◌, arith, map}
use Rattle.std.proofs.lemmas.Grind.{common_steps}
use Rattle.mw_term.specs.Terms.{ground_of}
use Rattle.mw_meaning.specs.Shapes.{leaf_count}
use Rattle.mw_wasm.specs.Syntax.{global_get, global_set, local_get, local_set}
use Rattle.mw_wasm.specs.Views.{instruction_of}
use Rattle.mw_gen.specs.Generate.{call_of}
use Rattle.mw_gen.specs.Listing.{code_list}
use Rattle.mw_gen.proofs.InstructionLists.{call_is}
use Rattle.mw_gen.proofs.call.call_body.Goals as goal

pub returns : goal.returns
returns c =
    let m = leaf_count (ground_of c.args.kind.now) in
    let p : map instruction_of c.put_call.new.out.inner.items ≡ global_get 0 ∷ local_set (m + 3)
    ∷ code_list (call_of (ground_of c.args.kind.now)) 0 (m + 1) = grind (arith, common_steps) in
    let q : map instruction_of c.push-4.new.self.inner.items ≡ global_get 0 ∷ local_set (m + 3)
    ∷ (code_list (call_of (ground_of c.args.kind.now)) 0 (m + 1) ++ local_get (m + 3) ∷ global_set 0 ∷ []) =
    grind (arith, common_steps, p) in
    call_is c.push-4.new.self (ground_of c.args.kind.now) q
