use Rattle.std.proofs.Common.{inl, inr}
use Rattle.mw_infer.specs.Views.{level_at, slots_of, tops_of}
use Rattle.mw_infer.proofs.Emission.{Adds-app, Adds-cond, Adds-pair, Adds-prim, on-ok}
use Rattle.mw_infer.proofs.emit.+emit.Goals as goal

pub returns-in_ok-emit-in-If-2 : goal.returns-in_ok-emit-in-If-2
returns-in_ok-emit-in-If-2 t c =
    rw c.in-If.is
    (on-ok c.emit-in-If-3.result
    (λ h. Adds-cond (tops_of c.args.setting.now.names.now) c.args.own (slots_of c.args.scope.now)
    (level_at c.args.level) _ _ _ (rw c.in-If.is at c.in_ok-emit_own.ensures)
    (rw c.deref-in-If.ensures at c.in_ok-emit-in-If.ensures)
    (rw c.deref-in-If-2.ensures at c.in_ok-emit-in-If-2.ensures) (rw c.deref-in-If-3.ensures at h))
    c.emit-in-If-3.ensures)

pub returns-in_ok-emit-in-App : goal.returns-in_ok-emit-in-App
returns-in_ok-emit-in-App t c = elim c.in-App.is [
  | inl e ↦ rw e
      (on-ok c.emit-in-App-2.result
      (λ h. Adds-app (tops_of c.args.setting.now.names.now) c.args.own (slots_of c.args.scope.now)
      (level_at c.args.level) _ _ (rw e at c.in_ok-emit_own.ensures)
      (rw c.deref-in-App.ensures at c.in_ok-emit-in-App.ensures) (rw c.deref-in-App-2.ensures at h))
      c.emit-in-App-2.ensures)
  | inr o ↦ elim o [
    | inl e ↦ rw e
        (on-ok c.emit-in-App-2.result
        (λ h. Adds-pair (tops_of c.args.setting.now.names.now) c.args.own (slots_of c.args.scope.now)
        (level_at c.args.level) _ _ (rw e at c.in_ok-emit_own.ensures)
        (rw c.deref-in-App.ensures at c.in_ok-emit-in-App.ensures) (rw c.deref-in-App-2.ensures at h))
        c.emit-in-App-2.ensures)
    | inr p ↦ let e = p.1 in rw e
        (on-ok c.emit-in-App-2.result
        (λ h. Adds-prim (tops_of c.args.setting.now.names.now) c.args.own (slots_of c.args.scope.now)
        (level_at c.args.level) _ _ _ (rw e at c.in_ok-emit_own.ensures)
        (rw c.deref-in-App.ensures at c.in_ok-emit-in-App.ensures) (rw c.deref-in-App-2.ensures at h))
        c.emit-in-App-2.ensures)
  ]
]
