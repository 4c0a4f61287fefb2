use Rattle.mw_gen.proofs.Meaning.{generation_keeps_meaning}
use Rattle.mw_gen.proofs.laws.generation_keeps_meaning.Goals as goal

pub returns : goal.returns
returns c = generation_keeps_meaning
