use Rattle.std.proofs.Common.{refl, subst}
use Rattle.mw_term.specs.Stops.{IfRefused}
use Rattle.mw_reading.specs.SourceReading.{IsRefused}
use Rattle.mw_explain.proofs.Verdicts.{explains_reading, never_read, only_reading, only_types, resolved}
use Rattle.mw_explain.proofs.Verdicts.{same_refusal, source_verdict}
use Rattle.mw_explain.proofs.explain.Goals as goal

pub explain_types-requires : goal.explain_types-requires
explain_types-requires c = resolved c.args.bytes.now c.in-Ok.program c.in-Ok.ensures.found

pub returns-in-Ok-clause-verdict : goal.returns-in-Ok-clause-verdict
returns-in-Ok-clause-verdict c =
    source_verdict c.args.bytes.now c.in-Ok.program c.in-Ok.ensures.found c.in-Ok.ensures.only c.in-Ok.ensures.first _
    c.explain_types.ensures.verdict

pub returns-in-Ok-clause-only : goal.returns-in-Ok-clause-only
returns-in-Ok-clause-only c =
    λ r h. c.explain_types.ensures.only r
    (only_types c.args.bytes.now c.in-Ok.program c.in-Ok.ensures.found c.in-Ok.ensures.only c.in-Ok.ensures.first r h)

pub returns-in-Err-Refused-clause-verdict : goal.returns-in-Err-Refused-clause-verdict
returns-in-Err-Refused-clause-verdict c =
    let e = c.in-Err-Refused.refusal-is in
    rw e (explains_reading c.args.bytes.now c.in-Err-Refused.refusal _ refl
    (subst (IfRefused (IsRefused c.args.bytes.now)) c.in-Err-Refused.field-0-is c.in-Err-Refused.ensures.refused)
    (λ p read. never_read c.read.result _ _ p c.in-Err-Refused.is c.in-Err-Refused.field-0-is
    (c.read.ensures.only p read)))

pub returns-in-Err-Refused-clause-only : goal.returns-in-Err-Refused-clause-only
returns-in-Err-Refused-clause-only c =
    let e = c.in-Err-Refused.refusal-is in
    λ r h. rw e (only_reading c.args.bytes.now c.in-Err-Refused.refusal r
    (λ q k. same_refusal c.read.result _ _ q c.in-Err-Refused.is c.in-Err-Refused.field-0-is (c.read.ensures.first q k))
    (λ p read. never_read c.read.result _ _ p c.in-Err-Refused.is c.in-Err-Refused.field-0-is
    (c.read.ensures.only p read))
    h)
