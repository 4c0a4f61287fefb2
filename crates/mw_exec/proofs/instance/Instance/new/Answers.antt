use Rattle.std.proofs.Common.{◌∙◌, sym, subst}
use Rattle.std.specs.Arc.{arc_value}
use Rattle.mw_validate.specs.Kept.{IsKept}
use Rattle.mw_exec.specs.Fitting.{AllFit}
use Rattle.mw_exec.proofs.InstanceRules.{ready_first, begins_first}
use Rattle.mw_exec.proofs.instance.Instance.new.Goals as goal

pub invariant_of-result : goal.invariant_of-result
invariant_of-result c =
    let m = c.module.ensures.«module» ∙ c.deref.ensures in
    let m2 = c.module-2.ensures.«module» ∙ c.deref-2.ensures in
    ready_first (arc_value c.args.module) c.in_ok-held.held (subst IsKept c.deref.ensures c.module.ensures.valid)
    c.in_ok-held.ensures.held
    (begins_first (arc_value c.args.module) c.module-2.result.now c.in_ok-held.held m2
    (subst AllFit (m ∙ sym m2) c.in_default.ensures.none) c.in_ok-held.ensures.store)

pub returns-clause-begins : goal.returns-clause-begins
returns-clause-begins c =
    let m = c.module.ensures.«module» ∙ c.deref.ensures in
    let m2 = c.module-2.ensures.«module» ∙ c.deref-2.ensures in
    begins_first (arc_value c.args.module) c.module-2.result.now c.in_ok-held.held m2
    (subst AllFit (m ∙ sym m2) c.in_default.ensures.none) c.in_ok-held.ensures.store
