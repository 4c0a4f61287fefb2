use Rattle.mw_compile.proofs.EmittedEntries.{one_emission}
use Rattle.mw_compile.proofs.laws.one_emission.Goals as goal

pub returns : goal.returns
returns c = one_emission
