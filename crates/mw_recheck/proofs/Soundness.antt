-- What node lines say of a term types it, under each assignment to the section's unknowns and classifiers.
use Rattle.std.proofs.Common.{◌≡◌, ℕ, ◌+◌, List, [], ◌∷◌, Option, Some, refl, ap, sym, ◌∙◌, arith}
use Rattle.std.specs.Prelude.{slice_get}
use Rattle.mw_term.specs.Terms.{Expression, KernelType, num, truth, var, glob, fun, fix, app, bind, cond, pair, fst}
use Rattle.mw_term.specs.Terms.{snd, prim, bracket, escape, run, close, opened, lift, lift_b, size}
use Rattle.mw_term.specs.Types.{int_type, bool_type, function_type, Level, live, under, kernel_type}
use Rattle.mw_term.specs.Typing.{TopLevel, let_item, kernel_item, Typed, t_num, t_truth, t_var, t_let, t_kernel, t_fun}
use Rattle.mw_term.specs.Typing.{t_fix, t_app, t_bind, t_cond, t_pair, t_fst, t_snd, t_prim, t_bracket, t_escape, t_run}
use Rattle.mw_term.specs.Typing.{t_close, t_open, t_lift, t_lift_b}
use Rattle.mw_term.proofs.TypesFormed.{IsPlain-kernel_type}
use Rattle.mw_term.proofs.Classifiers.{top_of, IsAbsent-above, changed-here}
use Rattle.mw_term.specs.FlatTypes.{formed_type}
use Rattle.mw_term.proofs.FlatTypes.{IsPlain-flat_type, flat_type-plain, formed_type-plain}
use Rattle.mw_term.proofs.FlatTypes.{fitted, fitted-pair, fitted-function, fitted-plain, fitted-primitive}
use Rattle.mw_types.specs.Types.{TypeExpression, int_ty, bool_ty, pair_ty, function_ty, code_ty, closed_ty}
use Rattle.mw_types.specs.Types.{Assignment, value, after}
use Rattle.mw_types.proofs.Existence.{value_apply}
use Rattle.mw_types.proofs.Expressions.{value-kernel_expression, value-primitive_expression, level_of, Fits-fitted}
use Rattle.mw_recheck.specs.Notes.{Notes, BinderNote, binder_note, TopNote, let_root, kernel_root, IsUse, Noted}
use Rattle.mw_recheck.proofs.BinderEnvironments.{entries, entry_of-note, get-entries, renewed, flat-renewed}
use Rattle.mw_recheck.proofs.BinderEnvironments.{entries-renewed}

-- a let has each type that some assignment makes of its root, made a type of the language; a kernel is what it is
pub record Known (names : List TopLevel) (tops : List TopNote) : Type 0 where
  pub lets : (i : ℕ) (r : TypeExpression) → slice_get tops i ≡ Some (let_root r)
      → (e : Expression) × (slice_get names i ≡ Some (let_item e)) × ((b : Assignment)
      → Typed names [] live e (formed_type (value b r)))
  pub kernels : (i : ℕ) (k : KernelType) → slice_get tops i ≡ Some (kernel_root k)
      → slice_get names i ≡ Some (kernel_item k)

module _ (p : Notes) (names : List TopLevel) (tops : List TopNote) (known : Known names tops) where
  use_typed : (b : Assignment) (g : List BinderNote) (m : Level) (i : ℕ) (t : TypeExpression) (x : Option TopNote)
      → slice_get tops i ≡ x → IsUse m x t → Typed names (entries b g) (level_of b m) (glob i) (fitted m (value b t))
  use_typed b g live i t (Some (let_root r)) e h =
      let l = known.lets i r e in
      t_let l.1 (rw (sym h.gives, value_apply b h.by r) (l.2 (after b h.by)))
  use_typed b g live i t (Some (kernel_root k)) e h =
      rw (h, value-kernel_expression b k, flat_type-plain (kernel_type k) (IsPlain-kernel_type k)) (t_kernel
      (known.kernels i k e))
  use_typed b g _ i t _ e h = absurd h

  pub noted_typed : (b : Assignment) (g : List BinderNote) (m : Level) (n : ℕ) (e : Expression) (t : TypeExpression)
      → Noted p tops g m n e t → Typed names (entries b g) (level_of b m) e (fitted m (value b t))
  noted_typed b g m n (num z) t h = rw (h.0, fitted-plain m int_type tt) t_num
  noted_typed b g m n (truth z) t h = rw (h.0, fitted-plain m bool_type tt) t_truth
  noted_typed b g m n (var i) t h = t_var (get-entries b g i _ h.0 ∙ ap (λ x. Some x) (entry_of-note b m t))
  noted_typed b g m n (glob i) t h = use_typed b g m i t (slice_get tops i) refl h.0
  noted_typed b g m n (fun e) t h =
      rw (h.2, fitted-function m (value b h.0) (value b h.1)) (t_fun (Fits-fitted b m (value b h.0)) (rw
      (entry_of-note b m h.0) at (noted_typed b (binder_note m h.0 ∷ g) m (n + 1) e h.1 h.4)))
  noted_typed b g m n (fix e) t h =
      let p : fitted m (value b t) ≡ function_type (fitted m (value b h.0)) (fitted m (value b h.1)) =
      ap (λ u. fitted m (value b u)) h.2 ∙ fitted-function m (value b h.0) (value b h.1) in
      rw p (t_fix {m = level_of b m} {s = fitted m (value b h.0)} {t =
      fitted m (value b h.1)} (rw p at (Fits-fitted b m (value b t))) (rw (
        entry_of-note b m h.0,
        entry_of-note b m t,
        p,
      ) at (noted_typed b (binder_note m h.0 ∷ binder_note m t ∷ g) m (n + 1) e h.1 h.4)))
  noted_typed b g m n (app f a) t h =
      t_app (rw (fitted-function m (value b h.0) (value b t)) at (noted_typed b g m (n + 1) f (function_ty h.0 t) h.2))
      (noted_typed b g m (n + 1 + size f) a h.0 h.3)
  noted_typed b g m n (bind d e) t h =
      t_bind (noted_typed b g m (n + 1) d h.0 h.2) (rw (entry_of-note b m h.0) at (noted_typed b
      (binder_note m h.0 ∷ g) m (n + 1 + size d) e t h.3))
  noted_typed b g m n (cond c a d) t h =
      t_cond (rw (fitted-plain m bool_type tt) at (noted_typed b g m (n + 1) c bool_ty h.1)) (noted_typed b g m
      (n + 1 + size c) a t h.2) (noted_typed b g m (n + 1 + size c + size a) d t h.3)
  noted_typed b g m n (pair a d) t h =
      rw (h.2, fitted-pair m (value b h.0) (value b h.1)) (t_pair (noted_typed b g m (n + 1) a h.0 h.4)
      (noted_typed b g m (n + 1 + size a) d h.1 h.5))
  noted_typed b g m n (fst e) t h = t_fst (rw (fitted-pair m (value b t) (value b h.0)) at (noted_typed b g m (n + 1) e
      (pair_ty t h.0) h.2))
  noted_typed b g m n (snd e) t h = t_snd (rw (fitted-pair m (value b h.0) (value b t)) at (noted_typed b g m (n + 1) e
      (pair_ty h.0 t) h.2))
  noted_typed b g m n (prim o a d) t h =
      t_prim (ap (λ u. fitted m (value b u)) h.0 ∙ ap (λ u. fitted m u) (value-primitive_expression b o)
      ∙ fitted-primitive m o)
      (rw (fitted-plain m int_type tt) at (noted_typed b g m (n + 1) a int_ty h.2)) (rw (fitted-plain m int_type tt) at
      (noted_typed b g m (n + 1 + size a) d int_ty h.3))
  noted_typed b g live n (bracket e) t h =
      rw h.2 (t_bracket (IsPlain-flat_type (value b h.1)) (noted_typed b g (under h.0) (n + 1) e h.1 h.4))
  noted_typed b g (under a) n (escape e) t h =
      t_escape (IsPlain-flat_type (value b t)) (noted_typed b g live (n + 1) e (code_ty a t) h.1)
  noted_typed b g live n (run k e) t h =
      let v : value b t ≡ kernel_type k = ap (λ u. value b u) h.0 ∙ value-kernel_expression b k in
      t_run (ap (λ u. formed_type u) v ∙ formed_type-plain (kernel_type k) (IsPlain-kernel_type k))
      (rw (v, formed_type-plain (kernel_type k) (IsPlain-kernel_type k)) (rw (
        v,
        flat_type-plain (kernel_type k) (IsPlain-kernel_type k),
      ) at (noted_typed b g live (n + 1) e
      (closed_ty t) h.2)))
  noted_typed b g live n (close at e) t h =
      let k = top_of (entries b g) in
      rw h.2 (t_close {a = k} (IsPlain-flat_type (value b h.1)) (IsAbsent-above k (entries b g) (omega arith))
      (rw (entries-renewed b h.0 k g h.3, changed-here b.classifier h.0 k, flat-renewed b h.0 k h.1) at (noted_typed
      (renewed b h.0 k) g live (n + 1) e (code_ty h.0 h.1) h.5)))
  noted_typed b g live n (opened e) t h =
      rw h.2 (t_open (IsPlain-flat_type (value b h.1)) (noted_typed b g live (n + 1) e (closed_ty h.1) h.4))
  noted_typed b g live n (lift e) t h = rw h.0.1 (t_lift (noted_typed b g live (n + 1) e int_ty h.1))
  noted_typed b g live n (lift_b e) t h = rw h.0.1 (t_lift_b (noted_typed b g live (n + 1) e bool_ty h.1))
  noted_typed b g m n e t h = absurd h
