use Rattle.std.proofs.Common.{sym, ◌∙◌, append-nil, refl, arith}
use Rattle.mw_encode.proofs.Runs.{none_left, runs_start, same_step, other_step, runs_number, runs_bytes}
use Rattle.mw_encode.proofs.parts.put_runs.Goals.{then-is_same, else-is_same+in_ok-put_run}
use Rattle.mw_encode.proofs.parts.put_runs.Goals as goal

pub returns-then-list-eq0-clause-number : goal.returns-then-list-eq0-clause-number
returns-then-list-eq0-clause-number c = rw (none_left c.args.list.now c.if-list-eq0.true) refl

pub returns-then-list-eq0-clause-bytes : goal.returns-then-list-eq0-clause-bytes
returns-then-list-eq0-clause-bytes c = rw (none_left c.args.list.now c.if-list-eq0.true) (sym (append-nil _))

pub loop-at-init : goal.loop-at-init
loop-at-init c = runs_start _ _ _ (let h = c.if-list-eq0.false in omega arith)

pub loop-at-preserved : goal.loop-at-preserved
loop-at-preserved c = elim c.if-is_same.branch [
  | then-is_same w ↦ rw (w.out-is, w.kind-is, w.count-is, w.before-is)
      (same_step _ _ _ _ _ _ _ _ c.loop-at-test.true (sym c.is_same.ensures ∙ w.if-is_same.true) c.loop-at.invariant)
  | else-is_same+in_ok-put_run w ↦ rw (w.out-is, w.kind-is, w.count-is, w.before-is)
      (other_step _ _ _ _ _ _ _ _ _ c.loop-at-test.true (sym c.is_same.ensures ∙ w.if-is_same.false)
      w.in_ok-put_run.ensures c.loop-at.auto.at c.loop-at.invariant)
]

pub returns-clause-number : goal.returns-clause-number
returns-clause-number c = runs_number _ _ _ _ _ _ _ c.loop-at-test.false c.loop-at.invariant

pub returns-clause-bytes : goal.returns-clause-bytes
returns-clause-bytes c = runs_bytes _ _ _ _ _ _ _ _ c.loop-at-test.false c.in_ok-put_run-2.ensures c.loop-at.invariant
