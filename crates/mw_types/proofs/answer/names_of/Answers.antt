use Rattle.std.proofs.Common.{◌≡◌, length, subst, arith}
use Rattle.mw_types.specs.Answering.{NamedTo}
use Rattle.mw_types.proofs.Answering.{name_more, no_names}
use Rattle.mw_types.proofs.answer.names_of.Goals as goal

pub loop-class-init : goal.loop-class-init
loop-class-init c = rw c.in_ok-names.ensures.items (no_names c.args.parent.now)

pub loop-class-preserved : goal.loop-class-preserved
loop-class-preserved c =
    rw c.in_ok-push.ensures.items (name_more c.args.parent.now c.loop-class.names.items c.loop-class.class c.name.result
    c.requires.low (omega arith) c.loop-class.invariant (rw c.as_slice.ensures.value at c.name.ensures))

pub returns : goal.returns
returns c = let e : c.loop-class.class ≡ length c.args.parent.now = omega arith in
    subst (λ k. NamedTo c.args.parent.now c.loop-class.names.items k) e c.loop-class.invariant
