use Rattle.mw_term.proofs.Sources.{sources}
use Rattle.mw_term.proofs.laws.terms_are_sources.Goals as goal

pub returns : goal.returns
returns c = sources
