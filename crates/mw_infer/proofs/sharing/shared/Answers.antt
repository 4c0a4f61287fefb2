use Rattle.std.proofs.Common.{ap, sym, ◌∙◌}
use Rattle.mw_types.specs.Equations.{equation_of}
use Rattle.mw_infer.specs.Sharing.{meaning}
use Rattle.mw_infer.specs.Views.{tops_of}
use Rattle.mw_infer.proofs.Shortened.{one-shared, one-written}
use Rattle.mw_infer.proofs.sharing.shared.Goals as goal
use Rattle.mw_infer.proofs.sharing.shared.Goals.{in-Written, in-NameUse+in_ok-equation-in-NameUse}

pub loop-one-preserved : goal.loop-one-preserved
loop-one-preserved c =
    let tops = tops_of c.args.names.now in
    let es = c.loop-one.yielded in
    elim c.match-one.branch [
      | in-Written w ↦ let r = one-written tops es c.in-Some.one c.loop-one.pairs c.push.new.self
          c.match-one.equation c.match-one.firsts.items c.in_ok-push.ensures.ok
          (ap equation_of w.equation-is ∙ sym (ap (meaning tops) w.in-Written.is)) c.loop-one.invariant.alike
          (rw w.firsts-is c.loop-one.invariant.uses) in record { alike = r.0; uses = r.1 }
      | in-NameUse+in_ok-equation-in-NameUse w ↦ let r = one-shared tops es c.in-Some.one c.loop-one.pairs
          c.push.new.self c.match-one.equation c.loop-one.firsts.items c.match-one.firsts.items w.in-NameUse.own
          w.in-NameUse.name c.in_ok-push.ensures.ok w.in-NameUse.is
          (rw (w.equation-is, w.firsts-is) w.in_ok-equation-in-NameUse.ensures) c.loop-one.invariant.alike
          c.loop-one.invariant.uses in record { alike = r.0; uses = r.1 }
    ]
