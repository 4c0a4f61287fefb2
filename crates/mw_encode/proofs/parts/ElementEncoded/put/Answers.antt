use Rattle.mw_wasm.specs.Pieces.{u32}
use Rattle.mw_encode.proofs.Pieces.{spelled_second, spelled_count}
use Rattle.mw_encode.proofs.parts.ElementEncoded.put.Goals as goal

pub put_indices-requires : goal.put_indices-requires
put_indices-requires c = spelled_count u32 _ (spelled_second (spelled_second c.requires))
