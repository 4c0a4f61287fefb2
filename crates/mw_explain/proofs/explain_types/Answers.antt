use Rattle.mw_explain.proofs.Verdicts.{same_refusal}
use Rattle.mw_explain.proofs.explain_types.Goals as goal

pub returns-in-Ok-clause-only : goal.returns-in-Ok-clause-only
returns-in-Ok-clause-only c = c.in-Ok.ensures.first

pub returns-in_ok-told-in-Err-Refused-clause-only :
    goal.returns-in_ok-told-in-Err-Refused-clause-only
returns-in_ok-told-in-Err-Refused-clause-only c =
    λ r h. same_refusal c.check.result _ _ r c.in-Err-Refused.is c.in-Err-Refused.field-0-is (c.check.ensures.first r h)
