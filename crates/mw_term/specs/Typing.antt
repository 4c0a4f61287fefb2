-- The typing relation: which types a term has, at level 0 and at level 1 under a classifier.
use Rattle.std.specs.Prelude.{ℕ, ◌≡◌, ℤ, Bool, List, [], ◌∷◌, Some, slice_get}
use Rattle.mw_term.specs.Terms.{Expression, Value, KernelValue, KernelType, GroundType, to, num, truth, var, glob, fun}
use Rattle.mw_term.specs.Terms.{fix, app, bind, cond, pair, fst, snd, prim, bracket, escape, run, close, opened, lift}
use Rattle.mw_term.specs.Terms.{lift_b, done, int, bool, both, function, recursive, code, kept}
use Rattle.mw_term.specs.declared.term.Primitive.{Primitive as Prim}
use Rattle.mw_term.specs.Closed.{IsCode}
use Rattle.mw_term.specs.Types.{TermType, int_type, bool_type, pair_type, function_type, code_type, closed_type, Level}
use Rattle.mw_term.specs.Types.{live, under, Entry, value, entry, IsPlain, IsFormed, Fits, IsAbsent, kernel_type}
use Rattle.mw_term.specs.Types.{primitive_type}
use Rattle.mw_term.specs.Unlabelled.{unlabelled_value, IsClosedKernelValue}

-- what a top-level name stands for where a term is typed
pub data TopLevel : Type 0 where
  let_item : (e : Expression) → TopLevel
  kernel_item : (k : KernelType) → TopLevel
  out_of_scope : TopLevel

mutual
  -- Typed tops g m e t: with the top-level names tops, in the environment g and at the level m, the term e has the type
  -- t.
  pub data Typed (tops : List TopLevel) : List Entry → Level → Expression → TermType → Type 0 where
    -- a literal
    t_num : {g : List Entry} {m : Level} {n : ℤ} → Typed tops g m (num n) int_type
    t_truth : {g : List Entry} {m : Level} {b : Bool} → Typed tops g m (truth b) bool_type
    -- a variable has its entry's type, at its binder's level and there under its binder's classifier alone
    t_var : {g : List Entry} {m : Level} {i : ℕ} {t : TermType} → slice_get g i ≡ Some (entry m t)
        → Typed tops g m (var i) t
    -- each use of a let item has any type that its definition has in the empty environment
    t_let : {g : List Entry} {i : ℕ} {e : Expression} {t : TermType} → slice_get tops i ≡ Some (let_item e)
        → Typed tops [] live e t → Typed tops g live (glob i) t
    -- a kernel's name is closed code of its kernel type
    t_kernel : {g : List Entry} {i : ℕ} {k : KernelType} → slice_get tops i ≡ Some (kernel_item k)
        → Typed tops g live (glob i) (closed_type (kernel_type k))
    -- a function, whose binder stands at the function's own level
    t_fun : {g : List Entry} {m : Level} {e : Expression} {s t : TermType} → Fits m s → Typed tops (entry m s ∷ g) m e t
        → Typed tops g m (fun e) (function_type s t)
    -- a recursive function: its argument is variable 0, itself variable 1
    t_fix : {g : List Entry} {m : Level} {e : Expression} {s t : TermType} → Fits m (function_type s t)
        → Typed tops (entry m s ∷ entry m (function_type s t) ∷ g) m e t → Typed tops g m (fix e) (function_type s t)
    -- an application of a function to an argument of its type
    t_app : {g : List Entry} {m : Level} {f a : Expression} {s t : TermType} → Typed tops g m f (function_type s t)
        → Typed tops g m a s → Typed tops g m (app f a) t
    -- an inner let, whose name has one type
    t_bind : {g : List Entry} {m : Level} {d e : Expression} {s t : TermType} → Typed tops g m d s
        → Typed tops (entry m s ∷ g) m e t → Typed tops g m (bind d e) t
    -- an if, whose branches have one type
    t_cond : {g : List Entry} {m : Level} {c a b : Expression} {t : TermType} → Typed tops g m c bool_type
        → Typed tops g m a t → Typed tops g m b t → Typed tops g m (cond c a b) t
    -- pairs and their parts
    t_pair : {g : List Entry} {m : Level} {a b : Expression} {s t : TermType} → Typed tops g m a s → Typed tops g m b t
        → Typed tops g m (pair a b) (pair_type s t)
    t_fst : {g : List Entry} {m : Level} {e : Expression} {s t : TermType} → Typed tops g m e (pair_type s t)
        → Typed tops g m (fst e) s
    t_snd : {g : List Entry} {m : Level} {e : Expression} {s t : TermType} → Typed tops g m e (pair_type s t)
        → Typed tops g m (snd e) t
    -- a primitive of two integers
    t_prim : {g : List Entry} {m : Level} {p : Prim} {a b : Expression} {t : TermType} → t ≡ primitive_type p
        → Typed tops g m a int_type → Typed tops g m b int_type → Typed tops g m (prim p a b) t
    -- a bracket is code under any classifier under which its content has a type that holds no code type
    t_bracket : {g : List Entry} {a : ℕ} {e : Expression} {t : TermType} → IsPlain t → Typed tops g (under a) e t
        → Typed tops g live (bracket e) (code_type a t)
    -- an escape stands under the classifier of the code that it splices
    t_escape : {g : List Entry} {a : ℕ} {e : Expression} {t : TermType} → IsPlain t
        → Typed tops g live e (code_type a t) → Typed tops g (under a) (escape e) t
    -- a run of closed code of a kernel type
    t_run : {g : List Entry} {k : KernelType} {e : Expression} {t : TermType} → t ≡ kernel_type k
        → Typed tops g live e (closed_type t) → Typed tops g live (run k e) t
    -- code is closed where some classifier that it has stands nowhere in the environment
    t_close : {g : List Entry} {a at : ℕ} {e : Expression} {t : TermType} → IsPlain t → IsAbsent a g
        → Typed tops g live e (code_type a t) → Typed tops g live (close at e) (closed_type t)
    -- closed code is code under any classifier
    t_open : {g : List Entry} {a : ℕ} {e : Expression} {t : TermType} → IsPlain t → Typed tops g live e (closed_type t)
        → Typed tops g live (opened e) (code_type a t)
    -- code of a literal, under any classifier
    t_lift : {g : List Entry} {a : ℕ} {e : Expression} → Typed tops g live e int_type
        → Typed tops g live (lift e) (code_type a int_type)
    t_lift_b : {g : List Entry} {a : ℕ} {e : Expression} → Typed tops g live e bool_type
        → Typed tops g live (lift_b e) (code_type a bool_type)
    -- a value that was put for a variable
    t_done : {g : List Entry} {v : Value} {t : TermType} → Valued tops g v t → Typed tops g live (done v) t

  -- Valued tops g v t: the value v has the type t. Its code may use the level 1 variables of g.
  pub data Valued (tops : List TopLevel) : List Entry → Value → TermType → Type 0 where
    v_int : {g : List Entry} {n : ℤ} → Valued tops g (int n) int_type
    v_bool : {g : List Entry} {b : Bool} → Valued tops g (bool b) bool_type
    v_pair : {g : List Entry} {v w : Value} {s t : TermType} → Valued tops g v s → Valued tops g w t
        → Valued tops g (both v w) (pair_type s t)
    v_function : {g : List Entry} {e : Expression} {s t : TermType} → IsFormed s → Typed tops (value s ∷ g) live e t
        → Valued tops g (function e) (function_type s t)
    v_recursive : {g : List Entry} {e : Expression} {s t : TermType} → IsFormed (function_type s t)
        → Typed tops (value s ∷ value (function_type s t) ∷ g) live e t
        → Valued tops g (recursive e) (function_type s t)
    -- code without escapes that has the type under the classifier
    v_code : {g : List Entry} {a : ℕ} {c : Expression} {t : TermType} → IsPlain t → IsCode c
        → Typed tops g (under a) c t → Valued tops g (code c) (code_type a t)
    -- code that has the type in the empty environment; no variable is there, so the classifier does not matter
    v_closed : {g : List Entry} {c : Expression} {t : TermType} → IsPlain t → IsCode c → Typed tops [] (under 0) c t
        → Valued tops g (code c) (closed_type t)
    -- a kept function is closed, and has the type without its labels; no top-level name stands in it
    v_kept : {g : List Entry} {r s : GroundType} {f : KernelValue} {words : ℕ} {t : TermType} → t ≡ kernel_type (to r s)
        → IsClosedKernelValue f → Valued tops [] (unlabelled_value f) t → Valued tops g (kept (to r s) f words) t
