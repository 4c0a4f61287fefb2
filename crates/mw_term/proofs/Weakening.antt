-- One more binder in the environment, with classifiers renamed.
use Rattle.std.proofs.Common.{ℕ, zero, suc, List, [], ◌∷◌, Some, ap, ◌∙◌, arith}
use Rattle.mw_term.specs.Terms.{Expression, Value, to}
use Rattle.mw_term.specs.Substitution.{shift, shift_value}
use Rattle.mw_term.specs.Closed.{code_rule}
use Rattle.mw_term.specs.Types.{TermType, function_type, Level, Entry}
use Rattle.mw_term.specs.Typing.{TopLevel, Typed, t_num, t_truth, t_var, t_let, t_kernel, t_fun, t_fix, t_app, t_bind}
use Rattle.mw_term.specs.Typing.{t_cond, t_pair, t_fst, t_snd, t_prim, t_bracket, t_escape, t_run, t_close, t_open}
use Rattle.mw_term.specs.Typing.{t_lift, t_lift_b, t_done, Valued, v_int, v_bool, v_pair, v_function, v_recursive}
use Rattle.mw_term.specs.Typing.{v_code, v_closed, v_kept}
use Rattle.mw_term.proofs.EachNode.{each-shift}
use Rattle.mw_term.proofs.ClosedTerms.{shift-closed, shift-closed_value}
use Rattle.mw_term.proofs.TypedClosed.{Typed-closed, Valued-closed}
use Rattle.mw_term.proofs.Classifiers.{rename_type, rename_level, rename_all, rename_entry-entry, rename_type-plain}
use Rattle.mw_term.proofs.Classifiers.{IsPlain-rename_type, IsFormed-rename_type, Fits-rename_type}
use Rattle.mw_term.proofs.Classifiers.{rename_type-kernel_type, rename_type-primitive_type, same, rename_type-same}
use Rattle.mw_term.proofs.Classifiers.{rename_level-same, rename_all-same, rename_all-apart, changed, changed-here}
use Rattle.mw_term.proofs.Classifiers.{changed-apart, top_of, IsAbsent-above, insert, get-insert}

module _ (tops : List TopLevel) where
  mutual
    pub Typed-shift : {g : List Entry} {m : Level} {e : Expression} {t : TermType} (r : ℕ → ℕ) (k : ℕ) (x : Entry)
        → Typed tops g m e t → Typed tops (insert k x (rename_all r g)) (rename_level r m) (shift e k) (rename_type r t)
    Typed-shift r k x t_num = t_num
    Typed-shift r k x t_truth = t_truth
    Typed-shift r k x (t_var {g = g} {m = m} {i = i} {t = t} h) =
        t_var (get-insert k x r g i _ h ∙ ap (λ y. Some y) (rename_entry-entry r m t))
    Typed-shift r k x (t_let {e = d} e h) =
        t_let e (rw (shift-closed d zero (suc k) (omega arith) (Typed-closed zero (omega arith) h)) at
        (Typed-shift r (suc k) x h))
    Typed-shift r k x (t_kernel {k = q} e) = rw (rename_type-kernel_type r q) (t_kernel e)
    Typed-shift r k x (t_fun {m = m} {s = s} p h) =
        t_fun (Fits-rename_type r m s p) (rw (rename_entry-entry r m s) at (Typed-shift r (suc k) x h))
    Typed-shift r k x (t_fix {m = m} {s = s} {t = u} p h) = t_fix (Fits-rename_type r m (function_type s u) p)
        (rw (rename_entry-entry r m s, rename_entry-entry r m (function_type s u)) at (Typed-shift r (suc (suc k)) x h))
    Typed-shift r k x (t_app h i) = t_app (Typed-shift r k x h) (Typed-shift r k x i)
    Typed-shift r k x (t_bind {m = m} {s = s} h i) =
        t_bind (Typed-shift r k x h) (rw (rename_entry-entry r m s) at (Typed-shift r (suc k) x i))
    Typed-shift r k x (t_cond h i j) = t_cond (Typed-shift r k x h) (Typed-shift r k x i) (Typed-shift r k x j)
    Typed-shift r k x (t_pair h i) = t_pair (Typed-shift r k x h) (Typed-shift r k x i)
    Typed-shift r k x (t_fst h) = t_fst (Typed-shift r k x h)
    Typed-shift r k x (t_snd h) = t_snd (Typed-shift r k x h)
    Typed-shift r k x (t_prim {p = p} e h i) = t_prim (ap (λ t. rename_type r t) e ∙ rename_type-primitive_type r p)
        (Typed-shift r k x h) (Typed-shift r k x i)
    Typed-shift r k x (t_bracket {t = t} p h) = t_bracket (IsPlain-rename_type r t p) (Typed-shift r k x h)
    Typed-shift r k x (t_escape {t = t} p h) = t_escape (IsPlain-rename_type r t p) (Typed-shift r k x h)
    Typed-shift r k x (t_run {k = q} e h) = t_run (ap (λ t. rename_type r t) e ∙ rename_type-kernel_type r q)
        (Typed-shift r k x h)
    Typed-shift r k x (t_close {g = g} {a = a} {t = t} p q h) =
        let b : ℕ = top_of (insert k x (rename_all r g)) in
        let ih = Typed-shift (changed r a b) k x h in
        rw (rename_type-plain r t p)
        (t_close p (IsAbsent-above b (insert k x (rename_all r g)) (omega arith))
        (rw (
          rename_all-apart a r (changed r a b) (changed-apart r a b) g q,
          changed-here r a b,
          rename_type-plain (changed r a b) t p,
        ) at ih))
    Typed-shift r k x (t_open {t = t} p h) = t_open (IsPlain-rename_type r t p) (Typed-shift r k x h)
    Typed-shift r k x (t_lift h) = t_lift (Typed-shift r k x h)
    Typed-shift r k x (t_lift_b h) = t_lift_b (Typed-shift r k x h)
    Typed-shift r k x (t_done h) = t_done (Valued-shift r k x h)

    pub Valued-shift : {g : List Entry} {v : Value} {t : TermType} (r : ℕ → ℕ) (k : ℕ) (x : Entry) → Valued tops g v t
        → Valued tops (insert k x (rename_all r g)) (shift_value v k) (rename_type r t)
    Valued-shift r k x v_int = v_int
    Valued-shift r k x v_bool = v_bool
    Valued-shift r k x (v_pair h i) = v_pair (Valued-shift r k x h) (Valued-shift r k x i)
    Valued-shift r k x (v_function {s = s} p h) = v_function (IsFormed-rename_type r s p) (Typed-shift r (suc k) x h)
    Valued-shift r k x (v_recursive {s = s} {t = u} p h) = v_recursive (IsFormed-rename_type r (function_type s u) p)
        (Typed-shift r (suc (suc k)) x h)
    Valued-shift r k x (v_code {c = e} {t = t} p c h) = v_code (IsPlain-rename_type r t p) (each-shift code_rule e k c)
        (Typed-shift r k x h)
    Valued-shift r k x (v_closed {c = d} {t = t} p c h) =
        rw (rename_type-plain r t p, shift-closed d zero k (omega arith) (Typed-closed zero (omega arith) h))
        (v_closed p c h)
    Valued-shift r k x (v_kept {r = a} {s = s} e c h) = let q = ap (λ t. rename_type r t) e
        ∙ rename_type-kernel_type r (to a s) in v_kept q c (rw (q, ← e) h)

  -- a term and a value under one more binder
  pub Typed-under : (x : Entry) (g : List Entry) (m : Level) (e : Expression) (t : TermType) → Typed tops g m e t
      → Typed tops (x ∷ g) m (shift e zero) t
  Typed-under x g m e t h = rw (rename_all-same g, rename_level-same m, rename_type-same t) at
      (Typed-shift same zero x h)

  pub Valued-under : (x : Entry) (g : List Entry) (v : Value) (t : TermType) → Valued tops g v t
      → Valued tops (x ∷ g) (shift_value v zero) t
  Valued-under x g v t h = rw (rename_all-same g, rename_type-same t) at (Valued-shift same zero x h)

  -- a closed value has its type in every environment
  pub Valued-anywhere : (g : List Entry) (v : Value) (t : TermType) → Valued tops [] v t → Valued tops g v t
  Valued-anywhere [] v t h = h
  Valued-anywhere (x ∷ g) v t h = rw (shift-closed_value v zero zero (omega arith) (Valued-closed zero (omega arith) h))
      at (Valued-under x g v t (Valued-anywhere g v t h))
