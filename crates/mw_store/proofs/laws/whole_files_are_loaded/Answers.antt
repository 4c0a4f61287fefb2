use Rattle.mw_store.proofs.Files.{whole_files}
use Rattle.mw_store.proofs.laws.whole_files_are_loaded.Goals as goal

pub returns : goal.returns
returns c = whole_files
