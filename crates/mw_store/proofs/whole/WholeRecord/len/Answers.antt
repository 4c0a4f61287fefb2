use Rattle.std.proofs.Common.{sym}
use Rattle.mw_store.specs.Whole.{kept_in}
use Rattle.mw_store.proofs.Files.{record_length}
use Rattle.mw_store.proofs.whole.WholeRecord.len.Goals as goal

pub returns : goal.returns
returns c = sym (record_length (kept_in c.args.self.now))
