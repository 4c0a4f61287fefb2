use Rattle.std.proofs.Common.{ap, ◌∙◌, subst}
use Rattle.mw_exec.specs.InstanceStates.{InstanceState}
use Rattle.mw_exec.specs.Instancing.{IsFunctionAt}
use Rattle.mw_exec.proofs.instance.Instance.export.Goals as goal

pub returns-clause-some : goal.returns-clause-some
returns-clause-some c = (
  c.in_ok-kind.field-0-0.now,
  subst (λ w. IsFunctionAt w c.args.name.now c.in_ok-kind.field-0-0.now c.in_ok-kind.kind.now)
      (c.module.ensures.«module» ∙ (c.deref.ensures ∙ ap (λ (i : InstanceState). i.wasm) c.self.view_is))
      c.in_ok-kind.ensures.some,
)
