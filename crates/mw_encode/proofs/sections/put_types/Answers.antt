use Rattle.mw_wasm.specs.BinaryModules.{function_type}
use Rattle.mw_encode.specs.Encoding.{function_type_bytes}
use Rattle.mw_encode.proofs.BestModules.{best_function_type}
use Rattle.mw_encode.proofs.Pieces.{seen_same, section_small}
use Rattle.mw_encode.proofs.sections.put_types.Goals as goal

pub put_items-requires-clause-spelled : goal.put_items-requires-clause-spelled
put_items-requires-clause-spelled c = rw (c.as_slice.ensures, seen_same c.args.list.now) c.requires

pub put_items-requires-clause-small : goal.put_items-requires-clause-small
put_items-requires-clause-small c = rw (c.as_slice.ensures, seen_same c.args.list.now)
    (λ some. section_small 1 function_type function_type_bytes best_function_type c.args.list.now some c.requires)

pub returns : goal.returns
returns c = rw (c.as_slice.ensures, seen_same c.args.list.now) at c.put_items.ensures
