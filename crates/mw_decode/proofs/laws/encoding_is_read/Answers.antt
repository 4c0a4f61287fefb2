use Rattle.mw_encode.specs.Encoding.{encoding}
use Rattle.mw_encode.proofs.BestModules.{encoding_shortest}
use Rattle.mw_decode.proofs.ModuleCompleteness.{spelled_file_is_read}
use Rattle.mw_decode.proofs.laws.encoding_is_read.Goals as goal

pub returns : goal.returns
returns c = λ m bytes s w l. spelled_file_is_read m (encoding m) l ((encoding_shortest m bytes s).0) w
