use Rattle.mw_infer.proofs.Items.{most_general-scheme}
use Rattle.mw_infer.proofs.laws.most_general_is_scheme.Goals as goal

pub returns : goal.returns
returns c = λ tops schemes e s known source g w f. most_general-scheme tops schemes known e source s g w f
