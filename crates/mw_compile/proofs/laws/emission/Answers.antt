use Rattle.mw_compile.proofs.EmittedEntries.{each_emission}
use Rattle.mw_compile.proofs.laws.emission.Goals as goal

pub returns : goal.returns
returns c = each_emission
