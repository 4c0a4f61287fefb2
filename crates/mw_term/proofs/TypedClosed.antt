-- A typed term has no free variables but those of its environment.
use Rattle.std.proofs.Common.{◌≡◌, ℕ, zero, suc, ◌≤◌, ◌<◌, List, [], ◌∷◌, length, Some, arith}
use Rattle.std.specs.Prelude.{slice_get}
use Rattle.mw_term.specs.Terms.{Expression, Value}
use Rattle.mw_term.specs.Closed.{ClosedBelow, ClosedValueBelow}
use Rattle.mw_term.specs.Types.{TermType, Level, Entry}
use Rattle.mw_term.specs.Typing.{TopLevel, Typed, t_num, t_truth, t_var, t_let, t_kernel, t_fun, t_fix, t_app, t_bind}
use Rattle.mw_term.specs.Typing.{t_cond, t_pair, t_fst, t_snd, t_prim, t_bracket, t_escape, t_run, t_close, t_open}
use Rattle.mw_term.specs.Typing.{t_lift, t_lift_b, t_done, Valued, v_int, v_bool, v_pair, v_function, v_recursive}
use Rattle.mw_term.specs.Typing.{v_code, v_closed, v_kept}

pub slice_get-below : (g : List Entry) (i : ℕ) (x : Entry) → slice_get g i ≡ Some x → i < length g
slice_get-below [] i x e = absurd (cc)
slice_get-below (y ∷ g) zero x e = omega arith
slice_get-below (y ∷ g) (suc i) x e = let h = slice_get-below g i x e in omega arith

mutual
  pub Typed-closed : {tops : List TopLevel} {g : List Entry} {m : Level} {e : Expression} {t : TermType} (k : ℕ)
      → length g ≤ k → Typed tops g m e t → ClosedBelow k e
  Typed-closed k le t_num = tt
  Typed-closed k le t_truth = tt
  Typed-closed k le (t_var {g = g} {i = i} h) = let p = slice_get-below g i _ h in omega arith
  Typed-closed k le (t_let e h) = tt
  Typed-closed k le (t_kernel e) = tt
  Typed-closed k le (t_fun p h) = Typed-closed (suc k) (omega arith) h
  Typed-closed k le (t_fix p h) = Typed-closed (suc (suc k)) (omega arith) h
  Typed-closed k le (t_app h i) = (Typed-closed k le h, Typed-closed k le i)
  Typed-closed k le (t_bind h i) = (Typed-closed k le h, Typed-closed (suc k) (omega arith) i)
  Typed-closed k le (t_cond h i j) = (Typed-closed k le h, Typed-closed k le i, Typed-closed k le j)
  Typed-closed k le (t_pair h i) = (Typed-closed k le h, Typed-closed k le i)
  Typed-closed k le (t_fst h) = Typed-closed k le h
  Typed-closed k le (t_snd h) = Typed-closed k le h
  Typed-closed k le (t_prim p h i) = (Typed-closed k le h, Typed-closed k le i)
  Typed-closed k le (t_bracket p h) = Typed-closed k le h
  Typed-closed k le (t_escape p h) = Typed-closed k le h
  Typed-closed k le (t_run p h) = Typed-closed k le h
  Typed-closed k le (t_close p q h) = Typed-closed k le h
  Typed-closed k le (t_open p h) = Typed-closed k le h
  Typed-closed k le (t_lift h) = Typed-closed k le h
  Typed-closed k le (t_lift_b h) = Typed-closed k le h
  Typed-closed k le (t_done h) = Valued-closed k le h

  pub Valued-closed : {tops : List TopLevel} {g : List Entry} {v : Value} {t : TermType} (k : ℕ) → length g ≤ k
      → Valued tops g v t → ClosedValueBelow k v
  Valued-closed k le v_int = tt
  Valued-closed k le v_bool = tt
  Valued-closed k le (v_pair h i) = (Valued-closed k le h, Valued-closed k le i)
  Valued-closed k le (v_function p h) = Typed-closed (suc k) (omega arith) h
  Valued-closed k le (v_recursive p h) = Typed-closed (suc (suc k)) (omega arith) h
  Valued-closed k le (v_code p c h) = Typed-closed k le h
  Valued-closed k le (v_closed p c h) = Typed-closed k (omega arith) h
  Valued-closed k le (v_kept p c h) = tt
