use Rattle.mw_code.proofs.FreshBinders.{Stands-put_in}
use Rattle.mw_code.proofs.laws.shared_code_is_shifted.Goals as goal

pub returns : goal.returns
returns c = Stands-put_in
