use Rattle.mw_infer.proofs.Items.{typable-fresh, fresh-typable}
use Rattle.mw_infer.proofs.laws.typable_where_fresh.Goals as goal

pub returns : goal.returns
returns c = λ tops schemes place e s known source g.
    (typable-fresh tops schemes known e source s place g, fresh-typable tops schemes known e source s place g)
