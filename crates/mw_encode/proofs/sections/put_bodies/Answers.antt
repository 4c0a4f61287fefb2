use Rattle.mw_wasm.specs.BinaryModules.{function_code}
use Rattle.mw_wasm.specs.Views.{function_of}
use Rattle.mw_encode.specs.Encoding.{function_code_bytes}
use Rattle.mw_encode.proofs.BestModules.{best_function_code}
use Rattle.mw_encode.proofs.AppendedBytes.{content_small}
use Rattle.mw_encode.proofs.sections.put_bodies.Goals as goal

pub put_items-requires-clause-spelled : goal.put_items-requires-clause-spelled
put_items-requires-clause-spelled c = rw c.as_slice.ensures c.requires

pub put_items-requires-clause-small : goal.put_items-requires-clause-small
put_items-requires-clause-small c =
    rw c.as_slice.ensures (content_small 10 function_code function_code_bytes best_function_code function_of
    c.args.list.now c.requires)

pub returns : goal.returns
returns c = rw c.as_slice.ensures at c.put_items.ensures
