use Rattle.mw_wasm.specs.BinaryInstructions.{value_type}
use Rattle.mw_encode.proofs.Pieces.{spelled_first, spelled_second, spelled_count}
use Rattle.mw_encode.proofs.parts.FuncTypeEncoded.put.Goals as goal

pub put_value_types-requires : goal.put_value_types-requires
put_value_types-requires c = spelled_count value_type _ (spelled_first (spelled_second c.requires))

pub put_value_types-requires-2 : goal.put_value_types-requires-2
put_value_types-requires-2 c = spelled_count value_type _ (spelled_second (spelled_second c.requires))
