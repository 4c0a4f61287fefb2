use Rattle.std.proofs.Common.{◌≡◌, List, suc, Some}
use Rattle.mw_grammar.specs.SurfaceTrees.{tree_of}
use Rattle.mw_scope.specs.declared.fault.Fault.{Fault}
use Rattle.mw_scope.specs.Keeping.{kept}
use Rattle.mw_scope.specs.Looking.{rebound, faults_by}
use Rattle.mw_scope.specs.Views.{binder_at, place_at, SameBinders}
use Rattle.mw_scope.proofs.Firsts.{kept_two, kept_three}
use Rattle.mw_scope.proofs.Looked.{restored_binders, same_then}
use Rattle.mw_scope.proofs.walk.+walk.Goals as goal

pub binding-returns-in_ok-leave-in-Fun-clause-binders : goal.binding-returns-in_ok-leave-in-Fun-clause-binders
binding-returns-in_ok-leave-in-Fun-clause-binders t c =
    let entered = c.in_ok-hidden-in-Fun.ensures in
    let left = c.in_ok-leave-in-Fun.ensures in
    restored_binders c.in-Fun.x (Some (c.args.binders.now.count, c.args.level)) c.in_ok-hidden-in-Fun.hidden
    entered.hidden entered.bound entered.count c.in_ok-e-in-Fun.ensures.binders left.bound left.count

pub binding-returns-in_ok-leave-in-Rec-2-clause-binders : goal.binding-returns-in_ok-leave-in-Rec-2-clause-binders
binding-returns-in_ok-leave-in-Rec-2-clause-binders t c =
    let own = c.in_ok-own-in-Rec.ensures in
    let argument = c.in_ok-argument-in-Rec.ensures in
    let left = c.in_ok-leave-in-Rec.ensures in
    let last = c.in_ok-leave-in-Rec-2.ensures in
    let inner : SameBinders c.enter-in-Rec.new.self c.leave-in-Rec.new.self =
    restored_binders c.in-Rec.x (Some (c.enter-in-Rec.new.self.count, c.args.level))
    c.in_ok-argument-in-Rec.argument argument.hidden argument.bound argument.count c.in_ok-e-in-Rec.ensures.binders
    left.bound left.count in
    restored_binders c.in-Rec.f (Some (c.args.binders.now.count, c.args.level)) c.in_ok-own-in-Rec.own own.hidden
    own.bound own.count inner last.bound last.count

pub binding-returns-in_ok-leave-in-Let-clause-binders : goal.binding-returns-in_ok-leave-in-Let-clause-binders
binding-returns-in_ok-leave-in-Let-clause-binders t c =
    let entered = c.in_ok-shadowed-in-Let.ensures in
    let left = c.in_ok-leave-in-Let.ensures in
    same_then c.in_ok-d-in-Let.ensures.binders
    (restored_binders c.in-Let.x (Some (c.boxed-in-Let.new.binders.count, c.args.level))
    c.in_ok-shadowed-in-Let.shadowed entered.hidden entered.bound entered.count c.in_ok-e-in-Let.ensures.binders
    left.bound left.count)

pub binding-returns-in_ok-leave-in-Let-clause-faults : goal.binding-returns-in_ok-leave-in-Let-clause-faults
binding-returns-in_ok-leave-in-Let-clause-faults t c =
    let tops = place_at c.args.tops.now in
    let look = binder_at c.args.binders.now in
    let n = c.args.binders.now.count in
    let first : List Fault = faults_by tops look n c.args.level (tree_of c.in-Let.d.value) in
    let second : List Fault = faults_by tops (rebound look c.in-Let.x (Some (n, c.args.level))) (suc n) c.args.level
    (tree_of c.in-Let.e.value) in
    let same : SameBinders c.args.binders.now c.boxed-in-Let.new.binders = c.in_ok-d-in-Let.ensures.binders in
    let entered = c.in_ok-shadowed-in-Let.ensures in
    let then : c.boxed-in-Let-2.new.first ≡ kept c.boxed-in-Let.new.first second =
    rw (c.deref-in-Let-2.ensures, entered.bound, entered.count, same.bound, same.count) at
    c.in_ok-e-in-Let.ensures.faults in
    rw c.in-Let.is (kept_two c.args.first.now c.boxed-in-Let.new.first c.boxed-in-Let-2.new.first first second
    (rw c.deref-in-Let.ensures at c.in_ok-d-in-Let.ensures.faults) then)

pub term-returns-in_ok-boxed-in-If-clause-faults : goal.term-returns-in_ok-boxed-in-If-clause-faults
term-returns-in_ok-boxed-in-If-clause-faults t c =
    let found = faults_by (place_at c.args.tops.now) (binder_at c.args.binders.now) c.args.binders.now.count
    c.args.level in
    let first : List Fault = found (tree_of c.in-If.c.value) in
    let second : List Fault = found (tree_of c.in-If.a.value) in
    let third : List Fault = found (tree_of c.in-If.b.value) in
    let same : SameBinders c.args.binders.now c.boxed-in-If.new.binders = c.in_ok-c-in-If.ensures.binders in
    let again : SameBinders c.args.binders.now c.boxed-in-If-2.new.binders =
    same_then same c.in_ok-a-in-If.ensures.binders in
    let then : c.boxed-in-If-2.new.first ≡ kept c.boxed-in-If.new.first second =
    rw (c.deref-in-If-2.ensures, same.bound, same.count) at c.in_ok-a-in-If.ensures.faults in
    let last : c.boxed-in-If-3.new.first ≡ kept c.boxed-in-If-2.new.first third =
    rw (c.deref-in-If-3.ensures, again.bound, again.count) at c.in_ok-boxed-in-If.ensures.faults in
    rw c.in-If.is (kept_three c.args.first.now c.boxed-in-If.new.first c.boxed-in-If-2.new.first
    c.boxed-in-If-3.new.first first second third (rw c.deref-in-If.ensures at c.in_ok-c-in-If.ensures.faults) then
    last)

pub term-returns-in_ok-boxed-in-App-clause-faults : goal.term-returns-in_ok-boxed-in-App-clause-faults
term-returns-in_ok-boxed-in-App-clause-faults t c =
    let found = faults_by (place_at c.args.tops.now) (binder_at c.args.binders.now) c.args.binders.now.count
    c.args.level in
    let first : List Fault = found (tree_of c.in-App.f.value) in
    let second : List Fault = found (tree_of c.in-App.a.value) in
    let same : SameBinders c.args.binders.now c.boxed.new.binders = c.in_ok-f-in-App.ensures.binders in
    let then : c.boxed-in-App.new.first ≡ kept c.boxed.new.first second =
    rw (c.deref-in-App.ensures, same.bound, same.count) at c.in_ok-boxed-in-App.ensures.faults in
    rw c.in-App.is (kept_two c.args.first.now c.boxed.new.first c.boxed-in-App.new.first first second
    (rw c.deref.ensures at c.in_ok-f-in-App.ensures.faults) then)

pub term-returns-in_ok-boxed-in-Pair-clause-faults : goal.term-returns-in_ok-boxed-in-Pair-clause-faults
term-returns-in_ok-boxed-in-Pair-clause-faults t c =
    let found = faults_by (place_at c.args.tops.now) (binder_at c.args.binders.now) c.args.binders.now.count
    c.args.level in
    let first : List Fault = found (tree_of c.in-Pair.a.value) in
    let second : List Fault = found (tree_of c.in-Pair.b.value) in
    let same : SameBinders c.args.binders.now c.boxed-in-Pair.new.binders = c.in_ok-a-in-Pair.ensures.binders in
    let then : c.boxed-in-Pair-2.new.first ≡ kept c.boxed-in-Pair.new.first second =
    rw (c.deref-in-Pair-2.ensures, same.bound, same.count) at c.in_ok-boxed-in-Pair.ensures.faults in
    rw c.in-Pair.is (kept_two c.args.first.now c.boxed-in-Pair.new.first c.boxed-in-Pair-2.new.first first second
    (rw c.deref-in-Pair.ensures at c.in_ok-a-in-Pair.ensures.faults) then)

pub term-returns-in_ok-boxed-in-Prim-clause-faults : goal.term-returns-in_ok-boxed-in-Prim-clause-faults
term-returns-in_ok-boxed-in-Prim-clause-faults t c =
    let found = faults_by (place_at c.args.tops.now) (binder_at c.args.binders.now) c.args.binders.now.count
    c.args.level in
    let first : List Fault = found (tree_of c.in-Prim.a.value) in
    let second : List Fault = found (tree_of c.in-Prim.b.value) in
    let same : SameBinders c.args.binders.now c.boxed-in-Prim.new.binders = c.in_ok-a-in-Prim.ensures.binders in
    let then : c.boxed-in-Prim-2.new.first ≡ kept c.boxed-in-Prim.new.first second =
    rw (c.deref-in-Prim-2.ensures, same.bound, same.count) at c.in_ok-boxed-in-Prim.ensures.faults in
    rw c.in-Prim.is (kept_two c.args.first.now c.boxed-in-Prim.new.first c.boxed-in-Prim-2.new.first first second
    (rw c.deref-in-Prim.ensures at c.in_ok-a-in-Prim.ensures.faults) then)
