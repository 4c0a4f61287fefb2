use Rattle.mw_encode.proofs.BestModules.{encoding_shortest}
use Rattle.mw_encode.proofs.laws.encoding_is_shortest.Goals as goal

pub returns : goal.returns
returns c = encoding_shortest
