use Rattle.std.proofs.Common.{arith}
use Rattle.std.proofs.lemmas.Grind.{common_steps}
use Rattle.mw_encode.proofs.Pieces.{octets_are}
use Rattle.mw_encode.proofs.vectors.put_octets.Goals as goal

pub returns : goal.returns
returns c = rw (octets_are c.args.octets.now) (grind (arith, common_steps))
