use Rattle.mw_infer.proofs.OneScheme.{one_scheme}
use Rattle.mw_infer.proofs.laws.schemes_in_order_are_one.Goals as goal

pub returns : goal.returns
returns c = one_scheme
