-- More top-level names take no type away, and give none to a term that was typed without them.
use Rattle.std.proofs.Common.{◌≡◌, ℕ, List, [], ◌∷◌, Some, sym, subst, ◌∙◌}
use Rattle.std.specs.Prelude.{slice_get}
use Rattle.mw_term.specs.Terms.{Expression, Value, KernelType}
use Rattle.mw_term.specs.Types.{TermType, Level, live, Entry}
use Rattle.mw_term.specs.Typing.{TopLevel, let_item, kernel_item, out_of_scope, Typed, t_num, t_truth, t_var, t_let}
use Rattle.mw_term.specs.Typing.{t_kernel, t_fun, t_fix, t_app, t_bind, t_cond, t_pair, t_fst, t_snd, t_prim, t_bracket}
use Rattle.mw_term.specs.Typing.{t_escape, t_run, t_close, t_open, t_lift, t_lift_b, t_done, Valued, v_int, v_bool}
use Rattle.mw_term.specs.Typing.{v_pair, v_function, v_recursive, v_code, v_closed, v_kept}
use Rattle.mw_infer.specs.Schemes.{Scheme, TopScheme, let_scheme, kernel_scheme, scheme_out_of_scope}
use Rattle.mw_infer.specs.Inferring.{least, IsSchemeOf, AreSchemesOf}
use Rattle.mw_infer.proofs.Sound.{IsSchemeOf-typed}

-- the names of the first list are in the second what they are in the first
pub record Extends (tops names : List TopLevel) : Type 0 where
  pub lets : (i : ℕ) (e : Expression) → slice_get tops i ≡ Some (let_item e) → slice_get names i ≡ Some (let_item e)
  pub kernels : (i : ℕ) (k : KernelType) → slice_get tops i ≡ Some (kernel_item k) → slice_get names i
      ≡ Some (kernel_item k)

module _ (tops names : List TopLevel) (x : Extends tops names) where
  mutual
    pub Typed-extended : {g : List Entry} {m : Level} {e : Expression} {t : TermType} → Typed tops g m e t
        → Typed names g m e t
    Typed-extended t_num = t_num
    Typed-extended t_truth = t_truth
    Typed-extended (t_var h) = t_var h
    Typed-extended (t_let q h) = t_let (x.lets _ _ q) (Typed-extended h)
    Typed-extended (t_kernel q) = t_kernel (x.kernels _ _ q)
    Typed-extended (t_fun p h) = t_fun p (Typed-extended h)
    Typed-extended (t_fix p h) = t_fix p (Typed-extended h)
    Typed-extended (t_app h i) = t_app (Typed-extended h) (Typed-extended i)
    Typed-extended (t_bind h i) = t_bind (Typed-extended h) (Typed-extended i)
    Typed-extended (t_cond h i j) = t_cond (Typed-extended h) (Typed-extended i) (Typed-extended j)
    Typed-extended (t_pair h i) = t_pair (Typed-extended h) (Typed-extended i)
    Typed-extended (t_fst h) = t_fst (Typed-extended h)
    Typed-extended (t_snd h) = t_snd (Typed-extended h)
    Typed-extended (t_prim q h i) = t_prim q (Typed-extended h) (Typed-extended i)
    Typed-extended (t_bracket p h) = t_bracket p (Typed-extended h)
    Typed-extended (t_escape p h) = t_escape p (Typed-extended h)
    Typed-extended (t_run q h) = t_run q (Typed-extended h)
    Typed-extended (t_close p q h) = t_close p q (Typed-extended h)
    Typed-extended (t_open p h) = t_open p (Typed-extended h)
    Typed-extended (t_lift h) = t_lift (Typed-extended h)
    Typed-extended (t_lift_b h) = t_lift_b (Typed-extended h)
    Typed-extended (t_done h) = t_done (Valued-extended h)

    Valued-extended : {g : List Entry} {v : Value} {t : TermType} → Valued tops g v t → Valued names g v t
    Valued-extended v_int = v_int
    Valued-extended v_bool = v_bool
    Valued-extended (v_pair h i) = v_pair (Valued-extended h) (Valued-extended i)
    Valued-extended (v_function p h) = v_function p (Typed-extended h)
    Valued-extended (v_recursive p h) = v_recursive p (Typed-extended h)
    Valued-extended (v_code p c h) = v_code p c (Typed-extended h)
    Valued-extended (v_closed p c h) = v_closed p c (Typed-extended h)
    Valued-extended (v_kept q c h) = v_kept q c (Valued-extended h)

  -- a let, or a kernel, that is one in both lists
  same_let : (i : ℕ) (e f : Expression) → slice_get tops i ≡ Some (let_item e) → slice_get names i ≡ Some (let_item f)
      → f ≡ e
  same_let i e f p q = let r : Some (let_item f) ≡ Some (let_item e) = sym q ∙ x.lets i e p in cc

  no_kernel : {X : Type 0} (i : ℕ) (e : Expression) (k : KernelType) → slice_get tops i ≡ Some (let_item e)
      → slice_get names i ≡ Some (kernel_item k) → X
  no_kernel i e k p q = absurd (let r : Some (kernel_item k) ≡ Some (let_item e) = sym q ∙ x.lets i e p in cc)

  no_let : {X : Type 0} (i : ℕ) (e : Expression) (k : KernelType) → slice_get tops i ≡ Some (kernel_item k)
      → slice_get names i ≡ Some (let_item e) → X
  no_let i e k p q = absurd (let r : Some (let_item e) ≡ Some (kernel_item k) = sym q ∙ x.kernels i k p in cc)

  same_kernel : (i : ℕ) (k l : KernelType) → slice_get tops i ≡ Some (kernel_item k) → slice_get names i
      ≡ Some (kernel_item l) → l ≡ k
  same_kernel i k l p q = let r : Some (kernel_item l) ≡ Some (kernel_item k) = sym q ∙ x.kernels i k p in cc

  mutual
    -- the first typing says which names the term uses
    pub Typed-back : {g h : List Entry} {m l : Level} {e : Expression} {s t : TermType} → Typed tops g m e s
        → Typed names h l e t → Typed tops h l e t
    Typed-back t_num t_num = t_num
    Typed-back t_truth t_truth = t_truth
    Typed-back (t_var h) (t_var i) = t_var i
    Typed-back (t_let {i = i} {e = e} p h) (t_let {e = f} {t = t} q j) =
        t_let p (Typed-back h (subst (λ d. Typed names [] live d t) (same_let i e f p q) j))
    Typed-back (t_let {i = i} {e = e} p h) (t_kernel {k = k} q) = no_kernel i e k p q
    Typed-back (t_kernel {i = i} {k = k} p) (t_let {e = f} q j) = no_let i f k p q
    Typed-back (t_kernel {i = i} {k = k} p) (t_kernel {k = l} q) = rw (same_kernel i k l p q) (t_kernel p)
    Typed-back (t_fun p h) (t_fun q i) = t_fun q (Typed-back h i)
    Typed-back (t_fix p h) (t_fix q i) = t_fix q (Typed-back h i)
    Typed-back (t_app h i) (t_app j k) = t_app (Typed-back h j) (Typed-back i k)
    Typed-back (t_bind h i) (t_bind j k) = t_bind (Typed-back h j) (Typed-back i k)
    Typed-back (t_cond h i j) (t_cond k a b) = t_cond (Typed-back h k) (Typed-back i a) (Typed-back j b)
    Typed-back (t_pair h i) (t_pair j k) = t_pair (Typed-back h j) (Typed-back i k)
    Typed-back (t_fst h) (t_fst i) = t_fst (Typed-back h i)
    Typed-back (t_snd h) (t_snd i) = t_snd (Typed-back h i)
    Typed-back (t_prim p h i) (t_prim q j k) = t_prim q (Typed-back h j) (Typed-back i k)
    Typed-back (t_bracket p h) (t_bracket q i) = t_bracket q (Typed-back h i)
    Typed-back (t_escape p h) (t_escape q i) = t_escape q (Typed-back h i)
    Typed-back (t_run p h) (t_run q i) = t_run q (Typed-back h i)
    Typed-back (t_close p a h) (t_close q b i) = t_close q b (Typed-back h i)
    Typed-back (t_open p h) (t_open q i) = t_open q (Typed-back h i)
    Typed-back (t_lift h) (t_lift i) = t_lift (Typed-back h i)
    Typed-back (t_lift_b h) (t_lift_b i) = t_lift_b (Typed-back h i)
    Typed-back (t_done h) (t_done i) = t_done (Valued-back h i)

    Valued-back : {g h : List Entry} {v : Value} {s t : TermType} → Valued tops g v s → Valued names h v t
        → Valued tops h v t
    Valued-back v_int v_int = v_int
    Valued-back v_bool v_bool = v_bool
    Valued-back (v_pair h i) (v_pair j k) = v_pair (Valued-back h j) (Valued-back i k)
    Valued-back (v_function p h) (v_function q i) = v_function q (Typed-back h i)
    Valued-back (v_recursive p h) (v_recursive q i) = v_recursive q (Typed-back h i)
    Valued-back (v_code p c h) (v_code q d i) = v_code q d (Typed-back h i)
    Valued-back (v_code p c h) (v_closed q d i) = v_closed q d (Typed-back h i)
    Valued-back (v_closed p c h) (v_code q d i) = v_code q d (Typed-back h i)
    Valued-back (v_closed p c h) (v_closed q d i) = v_closed q d (Typed-back h i)
    Valued-back (v_kept p c h) (v_kept q d i) = v_kept q d (Valued-back h i)

  -- so a scheme stays one
  pub IsSchemeOf-extended : (e : Expression) (s : Scheme) → IsSchemeOf tops e s → IsSchemeOf names e s
  IsSchemeOf-extended e s h = record {
    within = h.within;
    types = λ t. (
      (λ d. (h.types t).0 (Typed-back (IsSchemeOf-typed tops e s h least) d)),
      (λ i. Typed-extended ((h.types t).1 i)),
    );
    formed = h.formed;
  }

  pub AreSchemesOf-extended : (all : List TopLevel) (schemes : List TopScheme) → AreSchemesOf tops all schemes
      → AreSchemesOf names all schemes
  AreSchemesOf-extended [] [] h = tt
  AreSchemesOf-extended [] (s ∷ schemes) h = absurd h
  AreSchemesOf-extended (y ∷ all) [] h = absurd h
  AreSchemesOf-extended (let_item e ∷ all) (let_scheme s ∷ schemes) h =
      (IsSchemeOf-extended e s h.0, AreSchemesOf-extended all schemes h.1)
  AreSchemesOf-extended (let_item e ∷ all) (kernel_scheme k ∷ schemes) h = absurd h.0
  AreSchemesOf-extended (let_item e ∷ all) (scheme_out_of_scope ∷ schemes) h = absurd h.0
  AreSchemesOf-extended (kernel_item k ∷ all) (let_scheme s ∷ schemes) h = absurd h.0
  AreSchemesOf-extended (kernel_item k ∷ all) (kernel_scheme l ∷ schemes) h =
      (h.0, AreSchemesOf-extended all schemes h.1)
  AreSchemesOf-extended (kernel_item k ∷ all) (scheme_out_of_scope ∷ schemes) h = absurd h.0
  AreSchemesOf-extended (out_of_scope ∷ all) (let_scheme s ∷ schemes) h = absurd h.0
  AreSchemesOf-extended (out_of_scope ∷ all) (kernel_scheme l ∷ schemes) h = absurd h.0
  AreSchemesOf-extended (out_of_scope ∷ all) (scheme_out_of_scope ∷ schemes) h =
      (tt, AreSchemesOf-extended all schemes h.1)
