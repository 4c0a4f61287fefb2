use Rattle.mw_wasm.specs.Pieces.{octet}
use Rattle.mw_encode.proofs.Pieces.{spelled_second, spelled_count}
use Rattle.mw_encode.proofs.parts.SegmentEncoded.put.Goals as goal

pub put_octets-requires : goal.put_octets-requires
put_octets-requires c = spelled_count octet _ (spelled_second (spelled_second c.requires))
