use Rattle.std.proofs.Common.{◌++◌, ◌^◌, ◌<◌, length, arith}
use Rattle.std.proofs.lemmas.Grind.{common_steps}
use Rattle.mw_wasm.specs.Views.{code_of}
use Rattle.mw_encode.specs.Encoding.{locals_bytes, expression_bytes}
use Rattle.mw_encode.proofs.Best.{best_then, content_small}
use Rattle.mw_encode.proofs.BestInstructions.{best_expression}
use Rattle.mw_encode.proofs.BestLocals.{best_locals}
use Rattle.mw_encode.proofs.parts.FuncEncoded.put.Goals as goal

pub put_sized-requires : goal.put_sized-requires
put_sized-requires c =
    let h : length (locals_bytes c.args.self.now.locals ++ expression_bytes (code_of c.args.self.now.body)) < 2 ^ 32 =
    content_small (best_then (best_locals _) (best_expression _)) c.requires in
    grind (arith, common_steps)
