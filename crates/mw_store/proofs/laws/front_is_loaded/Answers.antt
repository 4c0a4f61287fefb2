use Rattle.mw_store.proofs.Files.{front_loaded}
use Rattle.mw_store.proofs.laws.front_is_loaded.Goals as goal

pub returns : goal.returns
returns c = front_loaded
