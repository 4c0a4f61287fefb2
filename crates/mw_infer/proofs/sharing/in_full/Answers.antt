use Rattle.std.proofs.Common.{ap, sym, ◌∙◌}
use Rattle.mw_types.specs.Equations.{equation_of}
use Rattle.mw_infer.specs.Sharing.{meaning}
use Rattle.mw_infer.specs.Views.{tops_of}
use Rattle.mw_infer.proofs.Shortened.{one-in_full}
use Rattle.mw_infer.proofs.sharing.in_full.Goals as goal
use Rattle.mw_infer.proofs.sharing.in_full.Goals.{in-Written, in-NameUse+in_ok-equation-in-NameUse}

pub loop-one-preserved : goal.loop-one-preserved
loop-one-preserved c =
    let tops = tops_of c.args.names.now in
    one-in_full tops c.loop-one.yielded c.in-Some.one c.loop-one.pairs c.push.new.self c.match-one.equation
    c.in_ok-push.ensures.ok
    (elim c.match-one.branch [
      | in-Written w ↦ ap equation_of w.equation-is ∙ sym (ap (meaning tops) w.in-Written.is)
      | in-NameUse+in_ok-equation-in-NameUse w ↦ ap equation_of w.equation-is
          ∙ w.in_ok-equation-in-NameUse.ensures ∙ sym (ap (meaning tops) w.in-NameUse.is)
    ])
    c.loop-one.invariant
