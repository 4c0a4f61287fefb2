use Rattle.mw_wasm.specs.Pieces.{octet}
use Rattle.mw_encode.proofs.Pieces.{spelled_first, spelled_count}
use Rattle.mw_encode.proofs.parts.ExportEncoded.put.Goals as goal

pub put_octets-requires : goal.put_octets-requires
put_octets-requires c = spelled_count octet _ (spelled_first c.requires)
