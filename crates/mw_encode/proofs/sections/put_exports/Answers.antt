use Rattle.mw_wasm.specs.BinaryModules.{export}
use Rattle.mw_wasm.specs.Views.{export_of}
use Rattle.mw_encode.specs.Encoding.{export_bytes}
use Rattle.mw_encode.proofs.BestModules.{best_export}
use Rattle.mw_encode.proofs.AppendedBytes.{content_small}
use Rattle.mw_encode.proofs.sections.put_exports.Goals as goal

pub put_items-requires-clause-spelled : goal.put_items-requires-clause-spelled
put_items-requires-clause-spelled c = rw c.as_slice.ensures c.requires

pub put_items-requires-clause-small : goal.put_items-requires-clause-small
put_items-requires-clause-small c =
    rw c.as_slice.ensures (content_small 7 export export_bytes best_export export_of c.args.list.now c.requires)

pub returns : goal.returns
returns c = rw c.as_slice.ensures at c.put_items.ensures
