-- Each type that a term has fits the level where it stands.
use Rattle.std.proofs.Common.{◌≡◌, ℕ, zero, suc, List, [], ◌∷◌, Some, subst}
use Rattle.std.specs.Prelude.{slice_get}
use Rattle.mw_term.specs.Terms.{Expression, Value, GroundType, KernelType, base, product, of_ground, to}
use Rattle.mw_term.specs.declared.term.Base.{Base}
use Rattle.mw_term.specs.declared.term.Base.TheVariants.{Int, Bool as Truth}
use Rattle.mw_term.specs.declared.term.Primitive.{Primitive as Prim}
use Rattle.mw_term.specs.declared.term.Primitive.TheVariants.{Add, Sub, Mul, Div, Mod, Eq, Lt, Le}
use Rattle.mw_term.specs.Types.{TermType, int_type, bool_type, pair_type, function_type, Level, live, under, Entry}
use Rattle.mw_term.specs.Types.{value, quoted, entry, IsPlain, IsFormed, Fits, AreFormed, base_type, ground_type}
use Rattle.mw_term.specs.Types.{kernel_type, primitive_type}
use Rattle.mw_term.specs.Typing.{TopLevel, Typed, t_num, t_truth, t_var, t_let, t_kernel, t_fun, t_fix, t_app, t_bind}
use Rattle.mw_term.specs.Typing.{t_cond, t_pair, t_fst, t_snd, t_prim, t_bracket, t_escape, t_run, t_close, t_open}
use Rattle.mw_term.specs.Typing.{t_lift, t_lift_b, t_done, Valued, v_int, v_bool, v_pair, v_function, v_recursive}
use Rattle.mw_term.specs.Typing.{v_code, v_closed, v_kept}
use Rattle.mw_term.proofs.MovedCode.{Fits-plain}

IsPlain-base_type : (b : Base) → IsPlain (base_type b)
IsPlain-base_type Int = tt
IsPlain-base_type Truth = tt

pub IsPlain-ground_type : (s : GroundType) → IsPlain (ground_type s)
IsPlain-ground_type (base b) = IsPlain-base_type b
IsPlain-ground_type (product s t) = (IsPlain-ground_type s, IsPlain-ground_type t)

pub IsPlain-kernel_type : (k : KernelType) → IsPlain (kernel_type k)
IsPlain-kernel_type (of_ground t) = IsPlain-ground_type t
IsPlain-kernel_type (to s t) = (IsPlain-ground_type s, IsPlain-ground_type t)

IsPlain-primitive_type : (p : Prim) → IsPlain (primitive_type p)
IsPlain-primitive_type Add = tt
IsPlain-primitive_type Sub = tt
IsPlain-primitive_type Mul = tt
IsPlain-primitive_type Div = tt
IsPlain-primitive_type Mod = tt
IsPlain-primitive_type Eq = tt
IsPlain-primitive_type Lt = tt
IsPlain-primitive_type Le = tt

Fits-pair : (m : Level) (s t : TermType) → Fits m s → Fits m t → Fits m (pair_type s t)
Fits-pair live s t h i = (h, i)
Fits-pair (under a) s t h i = (h, i)

Fits-function : (m : Level) (s t : TermType) → Fits m s → Fits m t → Fits m (function_type s t)
Fits-function live s t h i = (h, i)
Fits-function (under a) s t h i = (h, i)

Fits-first : (m : Level) (s t : TermType) → Fits m (pair_type s t) → Fits m s
Fits-first live s t h = h.0
Fits-first (under a) s t h = h.0

Fits-second : (m : Level) (s t : TermType) → Fits m (pair_type s t) → Fits m t
Fits-second live s t h = h.1
Fits-second (under a) s t h = h.1

Fits-result : (m : Level) (s t : TermType) → Fits m (function_type s t) → Fits m t
Fits-result live s t h = h.1
Fits-result (under a) s t h = h.1

AreFormed-entry : (m : Level) (t : TermType) (g : List Entry) → Fits m t → AreFormed g → AreFormed (entry m t ∷ g)
AreFormed-entry live t g h i = (h, i)
AreFormed-entry (under a) t g h i = (h, i)

AreFormed-at : (g : List Entry) (i : ℕ) (m : Level) (t : TermType) → AreFormed g → slice_get g i ≡ Some (entry m t)
    → Fits m t
AreFormed-at [] i m t h e = absurd (cc)
AreFormed-at (value s ∷ g) zero live t h e = let p : s ≡ t = cc in subst (λ t. IsFormed t) p h.0
AreFormed-at (value s ∷ g) zero (under a) t h e = absurd (cc)
AreFormed-at (quoted b s ∷ g) zero live t h e = absurd (cc)
AreFormed-at (quoted b s ∷ g) zero (under a) t h e = let p : s ≡ t = cc in subst (λ t. IsPlain t) p h.0
AreFormed-at (value s ∷ g) (suc i) m t h e = AreFormed-at g i m t h.1 e
AreFormed-at (quoted b s ∷ g) (suc i) m t h e = AreFormed-at g i m t h.1 e

mutual
  pub Typed-formed : {tops : List TopLevel} {g : List Entry} {m : Level} {e : Expression} {t : TermType} → AreFormed g
      → Typed tops g m e t → Fits m t
  Typed-formed {m = m} f t_num = Fits-plain m int_type tt
  Typed-formed {m = m} f t_truth = Fits-plain m bool_type tt
  Typed-formed f (t_var {g = g} {m = m} {i = i} {t = t} h) = AreFormed-at g i m t f h
  Typed-formed f (t_let e h) = Typed-formed tt h
  Typed-formed f (t_kernel {k = k} e) = IsPlain-kernel_type k
  Typed-formed f (t_fun {g = g} {m = m} {s = s} {t = t} p h) =
      Fits-function m s t p (Typed-formed (AreFormed-entry m s g p f) h)
  Typed-formed f (t_fix p h) = p
  Typed-formed f (t_app {m = m} {s = s} {t = t} x y) = Fits-result m s t (Typed-formed f x)
  Typed-formed f (t_bind {g = g} {m = m} {s = s} x y) = Typed-formed (AreFormed-entry m s g (Typed-formed f x) f) y
  Typed-formed f (t_cond x y z) = Typed-formed f y
  Typed-formed f (t_pair {m = m} {s = s} {t = t} x y) = Fits-pair m s t (Typed-formed f x) (Typed-formed f y)
  Typed-formed f (t_fst {m = m} {s = s} {t = t} x) = Fits-first m s t (Typed-formed f x)
  Typed-formed f (t_snd {m = m} {s = s} {t = t} x) = Fits-second m s t (Typed-formed f x)
  Typed-formed f (t_prim {m = m} {p = p} e x y) = rw e (Fits-plain m (primitive_type p) (IsPlain-primitive_type p))
  Typed-formed f (t_bracket p h) = p
  Typed-formed f (t_escape p h) = p
  Typed-formed f (t_run {k = k} e h) = rw e (Fits-plain live (kernel_type k) (IsPlain-kernel_type k))
  Typed-formed f (t_close p q h) = p
  Typed-formed f (t_open p h) = p
  Typed-formed f (t_lift h) = tt
  Typed-formed f (t_lift_b h) = tt
  Typed-formed f (t_done h) = Valued-formed f h

  pub Valued-formed : {tops : List TopLevel} {g : List Entry} {v : Value} {t : TermType} → AreFormed g
      → Valued tops g v t → IsFormed t
  Valued-formed f v_int = tt
  Valued-formed f v_bool = tt
  Valued-formed f (v_pair x y) = (Valued-formed f x, Valued-formed f y)
  Valued-formed f (v_function p h) = (p, Typed-formed (p, f) h)
  Valued-formed f (v_recursive p h) = p
  Valued-formed f (v_code p c h) = p
  Valued-formed f (v_closed p c h) = p
  Valued-formed f (v_kept {r = r} {s = s} e c h) =
      rw e (Fits-plain live (kernel_type (to r s)) (IsPlain-kernel_type (to r s)))
