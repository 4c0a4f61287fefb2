-- Code moved to another environment, another classifier or level 0, and other top-level names.
use Rattle.std.proofs.Common.{◌≡◌, ℕ, zero, suc, List, [], ◌∷◌, Some, refl}
use Rattle.std.specs.Prelude.{slice_get}
use Rattle.mw_term.specs.Terms.{Expression}
use Rattle.mw_term.specs.Closed.{IsCode}
use Rattle.mw_term.specs.Types.{TermType, int_type, bool_type, pair_type, function_type, code_type, closed_type, Level}
use Rattle.mw_term.specs.Types.{live, under, Entry, value, quoted, entry, IsPlain, IsFormed, Fits, IsAbsent}
use Rattle.mw_term.specs.Typing.{TopLevel, Typed, t_num, t_truth, t_var, t_fun, t_fix, t_app, t_bind, t_cond, t_pair}
use Rattle.mw_term.specs.Typing.{t_fst, t_snd, t_prim, t_escape}

-- each variable of f under a is one of g at the level m
pub record Moves (a : ℕ) (m : Level) (f g : List Entry) : Type 0 where
  pub at : (i : ℕ) (t : TermType) → slice_get f i ≡ Some (quoted a t) → slice_get g i ≡ Some (entry m t)

Moves-binder : {a : ℕ} {m : Level} {f g : List Entry} → Moves a m f g → (s : TermType)
    → Moves a m (quoted a s ∷ f) (entry m s ∷ g)
Moves-binder {a} {m} {f} {g} h s = record { at = go }
  where
    go : (i : ℕ) (t : TermType) → slice_get (quoted a s ∷ f) i ≡ Some (quoted a t) → slice_get (entry m s ∷ g) i
        ≡ Some (entry m t)
    go zero t e = let p : s ≡ t = cc in rw p refl
    go (suc i) t e = h.at i t e

pub IsFormed-plain : (t : TermType) → IsPlain t → IsFormed t
IsFormed-plain int_type h = tt
IsFormed-plain bool_type h = tt
IsFormed-plain (pair_type s t) h = (IsFormed-plain s h.0, IsFormed-plain t h.1)
IsFormed-plain (function_type s t) h = (IsFormed-plain s h.0, IsFormed-plain t h.1)
IsFormed-plain (code_type a t) h = absurd h
IsFormed-plain (closed_type t) h = absurd h

pub Fits-plain : (m : Level) (t : TermType) → IsPlain t → Fits m t
Fits-plain live t h = IsFormed-plain t h
Fits-plain (under a) t h = h

pub Typed-moved : {tops names : List TopLevel} {f g : List Entry} {a : ℕ} {m : Level} {c : Expression} {t : TermType}
    → Moves a m f g → IsCode c → Typed tops f (under a) c t → Typed names g m c t
Typed-moved h c t_num = t_num
Typed-moved h c t_truth = t_truth
Typed-moved h c (t_var {i = i} {t = t} e) = t_var (h.at i t e)
Typed-moved {m = m} h c (t_fun {s = s} p e) = t_fun (Fits-plain m s p) (Typed-moved (Moves-binder h s) c e)
Typed-moved {m = m} h c (t_fix {s = s} {t = t} p e) = t_fix (Fits-plain m (function_type s t) p)
    (Typed-moved (Moves-binder (Moves-binder h (function_type s t)) s) c e)
Typed-moved h c (t_app x y) = t_app (Typed-moved h c.0 x) (Typed-moved h c.1 y)
Typed-moved h c (t_bind {s = s} x y) = t_bind (Typed-moved h c.0 x) (Typed-moved (Moves-binder h s) c.1 y)
Typed-moved h c (t_cond x y z) = t_cond (Typed-moved h c.0 x) (Typed-moved h c.1 y) (Typed-moved h c.2 z)
Typed-moved h c (t_pair x y) = t_pair (Typed-moved h c.0 x) (Typed-moved h c.1 y)
Typed-moved h c (t_fst x) = t_fst (Typed-moved h c x)
Typed-moved h c (t_snd x) = t_snd (Typed-moved h c x)
Typed-moved h c (t_prim p x y) = t_prim p (Typed-moved h c.0 x) (Typed-moved h c.1 y)
Typed-moved h c (t_escape p x) = absurd c

-- where the classifier stands in no entry there is no variable to be moved
pub Moves-absent : (a : ℕ) (m : Level) (f g : List Entry) → IsAbsent a f → Moves a m f g
Moves-absent a m f g h = record { at = λ i t e. absurd (go f i t h e) }
  where
    go : (f : List Entry) (i : ℕ) (t : TermType) → IsAbsent a f → slice_get f i ≡ Some (quoted a t) → ⊥
    go [] i t h e = cc
    go (value s ∷ f) zero t h e = cc
    go (quoted b s ∷ f) zero t h e = h.0.0 (cc)
    go (x ∷ f) (suc i) t h e = go f i t h.1 e
