use Rattle.mw_wasm.specs.BinaryModules.{data_segment}
use Rattle.mw_wasm.specs.Views.{segment_of}
use Rattle.mw_encode.specs.Encoding.{segment_bytes}
use Rattle.mw_encode.proofs.BestModules.{best_segment}
use Rattle.mw_encode.proofs.AppendedBytes.{content_small}
use Rattle.mw_encode.proofs.sections.put_segments.Goals as goal

pub put_items-requires-clause-spelled : goal.put_items-requires-clause-spelled
put_items-requires-clause-spelled c = rw c.as_slice.ensures c.requires

pub put_items-requires-clause-small : goal.put_items-requires-clause-small
put_items-requires-clause-small c =
    rw c.as_slice.ensures (content_small 11 data_segment segment_bytes best_segment segment_of c.args.list.now
    c.requires)

pub returns : goal.returns
returns c = rw c.as_slice.ensures at c.put_items.ensures
