use Rattle.mw_gen.proofs.EmissionProof.{emission_holds}
use Rattle.mw_gen.proofs.laws.emission_holds.Goals as goal

pub returns : goal.returns
returns c = emission_holds
