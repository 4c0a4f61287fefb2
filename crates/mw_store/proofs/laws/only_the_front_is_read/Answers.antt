use Rattle.mw_store.proofs.Files.{only_the_front}
use Rattle.mw_store.proofs.laws.only_the_front_is_read.Goals as goal

pub returns : goal.returns
returns c = only_the_front
