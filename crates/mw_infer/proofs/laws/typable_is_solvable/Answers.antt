use Rattle.mw_infer.proofs.Items.{typable-solvable}
use Rattle.mw_infer.proofs.laws.typable_is_solvable.Goals as goal

pub returns : goal.returns
returns c = λ tops schemes place e known source d. typable-solvable tops schemes known e source place d
