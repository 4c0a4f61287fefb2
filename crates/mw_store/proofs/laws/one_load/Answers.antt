use Rattle.mw_store.proofs.Files.{load_same}
use Rattle.mw_store.proofs.laws.one_load.Goals as goal

pub returns : goal.returns
returns c = load_same
