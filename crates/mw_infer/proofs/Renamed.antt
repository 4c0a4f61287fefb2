-- A typing stays one under any renaming of classifiers, also under one that merges some: a close picks a new one.
use Rattle.std.proofs.Common.{◌≡◌, ℕ, List, [], ◌∷◌, Some, zero, suc, ap, ◌∙◌, arith}
use Rattle.std.specs.Prelude.{slice_get}
use Rattle.mw_term.specs.Terms.{Expression, Value, to}
use Rattle.mw_term.specs.Types.{TermType, function_type, Level, Entry}
use Rattle.mw_term.specs.Typing.{TopLevel, Typed, t_num, t_truth, t_var, t_let, t_kernel, t_fun, t_fix, t_app, t_bind}
use Rattle.mw_term.specs.Typing.{t_cond, t_pair, t_fst, t_snd, t_prim, t_bracket, t_escape, t_run, t_close, t_open}
use Rattle.mw_term.specs.Typing.{t_lift, t_lift_b, t_done, Valued, v_int, v_bool, v_pair, v_function, v_recursive}
use Rattle.mw_term.specs.Typing.{v_code, v_closed, v_kept}
use Rattle.mw_term.proofs.Classifiers.{rename_type, rename_level, rename_entry, rename_all, rename_entry-entry}
use Rattle.mw_term.proofs.Classifiers.{rename_type-plain, IsPlain-rename_type, IsFormed-rename_type, Fits-rename_type}
use Rattle.mw_term.proofs.Classifiers.{rename_type-kernel_type, rename_type-primitive_type, rename_all-apart, changed}
use Rattle.mw_term.proofs.Classifiers.{changed-here, changed-apart, top_of, IsAbsent-above}

get-renamed : (r : ℕ → ℕ) (g : List Entry) (i : ℕ) (x : Entry) → slice_get g i ≡ Some x → slice_get (rename_all r g) i
    ≡ Some (rename_entry r x)
get-renamed r [] i x e = absurd (cc)
get-renamed r (y ∷ g) zero x e = let p : y ≡ x = cc in ap (λ z. Some (rename_entry r z)) p
get-renamed r (y ∷ g) (suc i) x e = get-renamed r g i x e

module _ (tops : List TopLevel) where
  mutual
    pub Typed-renamed : {g : List Entry} {m : Level} {e : Expression} {t : TermType} (r : ℕ → ℕ) → Typed tops g m e t
        → Typed tops (rename_all r g) (rename_level r m) e (rename_type r t)
    Typed-renamed r t_num = t_num
    Typed-renamed r t_truth = t_truth
    Typed-renamed r (t_var {g = g} {m = m} {i = i} {t = t} h) =
        t_var (get-renamed r g i _ h ∙ ap (λ y. Some y) (rename_entry-entry r m t))
    Typed-renamed r (t_let e h) = t_let e (Typed-renamed r h)
    Typed-renamed r (t_kernel {k = q} e) = rw (rename_type-kernel_type r q) (t_kernel e)
    Typed-renamed r (t_fun {m = m} {s = s} p h) =
        t_fun (Fits-rename_type r m s p) (rw (rename_entry-entry r m s) at (Typed-renamed r h))
    Typed-renamed r (t_fix {m = m} {s = s} {t = u} p h) = t_fix (Fits-rename_type r m (function_type s u) p)
        (rw (rename_entry-entry r m s, rename_entry-entry r m (function_type s u)) at (Typed-renamed r h))
    Typed-renamed r (t_app h i) = t_app (Typed-renamed r h) (Typed-renamed r i)
    Typed-renamed r (t_bind {m = m} {s = s} h i) =
        t_bind (Typed-renamed r h) (rw (rename_entry-entry r m s) at (Typed-renamed r i))
    Typed-renamed r (t_cond h i j) = t_cond (Typed-renamed r h) (Typed-renamed r i) (Typed-renamed r j)
    Typed-renamed r (t_pair h i) = t_pair (Typed-renamed r h) (Typed-renamed r i)
    Typed-renamed r (t_fst h) = t_fst (Typed-renamed r h)
    Typed-renamed r (t_snd h) = t_snd (Typed-renamed r h)
    Typed-renamed r (t_prim {p = p} e h i) = t_prim (ap (λ t. rename_type r t) e ∙ rename_type-primitive_type r p)
        (Typed-renamed r h) (Typed-renamed r i)
    Typed-renamed r (t_bracket {t = t} p h) = t_bracket (IsPlain-rename_type r t p) (Typed-renamed r h)
    Typed-renamed r (t_escape {t = t} p h) = t_escape (IsPlain-rename_type r t p) (Typed-renamed r h)
    Typed-renamed r (t_run {k = q} e h) = t_run (ap (λ t. rename_type r t) e ∙ rename_type-kernel_type r q)
        (Typed-renamed r h)
    Typed-renamed r (t_close {g = g} {a = a} {t = t} p q h) =
        let b : ℕ = top_of (rename_all r g) in
        let ih = Typed-renamed (changed r a b) h in
        rw (rename_type-plain r t p)
        (t_close p (IsAbsent-above b (rename_all r g) (omega arith))
        (rw (
          rename_all-apart a r (changed r a b) (changed-apart r a b) g q,
          changed-here r a b,
          rename_type-plain (changed r a b) t p,
        ) at ih))
    Typed-renamed r (t_open {t = t} p h) = t_open (IsPlain-rename_type r t p) (Typed-renamed r h)
    Typed-renamed r (t_lift h) = t_lift (Typed-renamed r h)
    Typed-renamed r (t_lift_b h) = t_lift_b (Typed-renamed r h)
    Typed-renamed r (t_done h) = t_done (Valued-renamed r h)

    Valued-renamed : {g : List Entry} {v : Value} {t : TermType} (r : ℕ → ℕ) → Valued tops g v t
        → Valued tops (rename_all r g) v (rename_type r t)
    Valued-renamed r v_int = v_int
    Valued-renamed r v_bool = v_bool
    Valued-renamed r (v_pair h i) = v_pair (Valued-renamed r h) (Valued-renamed r i)
    Valued-renamed r (v_function {s = s} p h) = v_function (IsFormed-rename_type r s p) (Typed-renamed r h)
    Valued-renamed r (v_recursive {s = s} {t = u} p h) = v_recursive (IsFormed-rename_type r (function_type s u) p)
        (Typed-renamed r h)
    Valued-renamed r (v_code {c = e} {t = t} p c h) = v_code (IsPlain-rename_type r t p) c (Typed-renamed r h)
    Valued-renamed r (v_closed {c = d} {t = t} p c h) = rw (rename_type-plain r t p) (v_closed p c h)
    Valued-renamed r (v_kept {r = a} {s = s} e c h) = let q = ap (λ t. rename_type r t) e
        ∙ rename_type-kernel_type r (to a s) in v_kept q c (rw (q, ← e) h)
