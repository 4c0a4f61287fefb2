use Rattle.std.proofs.Common.{◌≡◌, ◌∙◌, sym, subst, refl, length, arith}
use Rattle.mw_term.specs.Terms.{expression_of}
use Rattle.mw_types.specs.Solutions.{substitution_of}
use Rattle.mw_infer.specs.CloseContents.{occurs_in}
use Rattle.mw_infer.proofs.Holding.{NoneNamed, held-at, held-slot, none-more, told-named, told-nearest}
use Rattle.mw_infer.proofs.Marking.{named-at, named-length}
use Rattle.mw_infer.proofs.Testing.{binder-below, not_true}
use Rattle.mw_infer.proofs.fresh.told_binder.Goals as goal
use Rattle.mw_infer.proofs.fresh.told_binder.Goals.{then-named-binder+else-not-is_absent_at, else-named-binder}

pub bounds-named-binder : goal.bounds-named-binder
bounds-named-binder c =
    let n = named-length (λ n. occurs_in n (expression_of c.args.code.now)) c.as_slice-named.result.now
    (length c.args.scope.now) (c.as_slice-named.ensures.value ∙ c.in_ok-marks.ensures) in
    rw n c.loop-binder-test.true

pub is_absent_at-requires-clause-inside : goal.is_absent_at-requires-clause-inside
is_absent_at-requires-clause-inside c = binder-below _ _ c.args.scope.now c.loop-binder.binder _ c.requires.below
    c.loop-binder-test.true

pub returns-then-not-is_absent_at : goal.returns-then-not-is_absent_at
returns-then-not-is_absent_at c =
    let e = named-at (λ n. occurs_in n (expression_of c.args.code.now)) c.as_slice-named.result.now
    (length c.args.scope.now) c.loop-binder.binder (c.as_slice-named.ensures.value ∙ c.in_ok-marks.ensures)
    c.loop-binder-test.true in
    told-named (substitution_of c.args.solved.now) c.args.classifier c.args.scope.now (expression_of c.args.code.now)
    c.loop-binder.binder c.loop-binder.invariant
    (held-at (substitution_of c.args.solved.now) c.args.classifier c.args.scope.now c.loop-binder.binder _
    c.loop-binder-test.true (λ h. not_true (c.if-not-is_absent_at.ensures.1 h)))
    (sym e ∙ c.if-named-binder.true)

pub loop-binder-preserved : goal.loop-binder-preserved
loop-binder-preserved c =
    let e = named-at (λ n. occurs_in n (expression_of c.args.code.now)) c.as_slice-named.result.now
    (length c.args.scope.now) c.loop-binder.binder (c.as_slice-named.ensures.value ∙ c.in_ok-marks.ensures)
    c.loop-binder-test.true in
    none-more (substitution_of c.args.solved.now) c.args.classifier c.args.scope.now (expression_of c.args.code.now)
    c.loop-binder.binder c.loop-binder.invariant
    (elim c.if-named-binder.branch [
      | then-named-binder+else-not-is_absent_at w ↦ (λ h. absurd
          (held-slot (substitution_of c.args.solved.now) c.args.classifier c.args.scope.now c.loop-binder.binder _
          c.loop-binder-test.true h (w.if-not-is_absent_at.ensures.0 refl)))
      | else-named-binder w ↦ (λ h. sym e ∙ w.if-named-binder.false)
    ])

pub returns : goal.returns
returns c =
    let n : c.loop-binder.binder ≡ length c.args.scope.now =
    omega (arith, c.loop-binder-test.false, c.loop-binder.auto.binder-end) in
    told-nearest (substitution_of c.args.solved.now) c.args.classifier c.args.scope.now
    (expression_of c.args.code.now) c.args.nearest
    (subst (NoneNamed (substitution_of c.args.solved.now) c.args.classifier c.args.scope.now
    (expression_of c.args.code.now)) n c.loop-binder.invariant) c.requires.nearest
