-- Moving and replacing variables keeps what holds of each node.
use Rattle.std.proofs.Common.{ℕ, zero, suc, Bool, true, false}
use Rattle.mw_term.specs.Terms.{Expression, Value, num, truth, var, glob, fun, fix, app, bind, cond, pair, fst, snd}
use Rattle.mw_term.specs.Terms.{prim, bracket, escape, run, close, opened, lift, lift_b, done, int, bool, both}
use Rattle.mw_term.specs.Terms.{function, recursive, code, kept}
use Rattle.mw_term.specs.Substitution.{pick, shift, shift_value, substitute, substitute_value}
use Rattle.mw_term.specs.EachNode.{NodeRule, IfAllowed, EachNode, EachNodeOfValue}

allowed : (b : Bool) {P Q : Type 0} → (P → Q) → IfAllowed b P → IfAllowed b Q
allowed true f x = f x
allowed false f x = absurd x

module _ (r : NodeRule) where
  mutual
    pub each-shift : (e : Expression) (k : ℕ) → EachNode r e → EachNode r (shift e k)
    each-shift (num n) k h = h
    each-shift (truth b) k h = tt
    each-shift (var i) k h = tt
    each-shift (glob i) k h = h
    each-shift (fun e) k h = each-shift e (suc k) h
    each-shift (fix e) k h = each-shift e (suc (suc k)) h
    each-shift (app f a) k h = (each-shift f k h.0, each-shift a k h.1)
    each-shift (bind d e) k h = (each-shift d k h.0, each-shift e (suc k) h.1)
    each-shift (cond c a b) k h = (each-shift c k h.0, each-shift a k h.1, each-shift b k h.2)
    each-shift (pair a b) k h = (each-shift a k h.0, each-shift b k h.1)
    each-shift (fst e) k h = each-shift e k h
    each-shift (snd e) k h = each-shift e k h
    each-shift (prim p a b) k h = (each-shift a k h.0, each-shift b k h.1)
    each-shift (bracket e) k h = allowed r.has_staging (λ h. each-shift e k h) h
    each-shift (escape e) k h = allowed r.has_staging (λ h. each-shift e k h) h
    each-shift (run t e) k h = allowed r.has_staging (λ h. each-shift e k h) h
    each-shift (close at e) k h = allowed r.has_staging (λ h. each-shift e k h) h
    each-shift (opened e) k h = allowed r.has_staging (λ h. each-shift e k h) h
    each-shift (lift e) k h = allowed r.has_staging (λ h. each-shift e k h) h
    each-shift (lift_b e) k h = allowed r.has_staging (λ h. each-shift e k h) h
    each-shift (done v) k h = allowed r.has_values (λ h. each-shift_value v k h) h

    pub each-shift_value : (v : Value) (k : ℕ) → EachNodeOfValue r v → EachNodeOfValue r (shift_value v k)
    each-shift_value (int n) k h = h
    each-shift_value (bool b) k h = tt
    each-shift_value (both v w) k h = (each-shift_value v k h.0, each-shift_value w k h.1)
    each-shift_value (function e) k h = each-shift e (suc k) h
    each-shift_value (recursive e) k h = each-shift e (suc (suc k)) h
    each-shift_value (code e) k h = allowed r.has_staging (λ h. each-shift e k h) h
    each-shift_value (kept t f n) k h = h

  each-pick : (k i : ℕ) (here : Expression) (other : ℕ → Expression) → EachNode r here
      → ((j : ℕ) → EachNode r (other j)) → EachNode r (pick k i here other)
  each-pick zero zero here other x h = x
  each-pick zero (suc i) here other x h = h i
  each-pick (suc k) zero here other x h = h zero
  each-pick (suc k) (suc i) here other x h = each-pick k i here (λ j. other (suc j)) x (λ j. h (suc j))

  -- the value under one binder more, and under two
  once : (v : Value) → EachNode r (done v) → EachNode r (done (shift_value v zero))
  once v x = each-shift (done v) zero x

  twice : (v : Value) → EachNode r (done v) → EachNode r (done (shift_value (shift_value v zero) zero))
  twice v x = once (shift_value v zero) (once v x)

  mutual
    pub each-substitute : (e : Expression) (k : ℕ) (v : Value) → EachNode r e → EachNode r (done v)
        → EachNode r (substitute e k v)
    each-substitute (num n) k v h x = h
    each-substitute (truth b) k v h x = tt
    each-substitute (var i) k v h x = each-pick k i (done v) var x (λ j. tt)
    each-substitute (glob i) k v h x = h
    each-substitute (fun e) k v h x = each-substitute e (suc k) (shift_value v zero) h (once v x)
    each-substitute (fix e) k v h x = each-substitute e (suc (suc k)) (shift_value (shift_value v zero) zero) h
        (twice v x)
    each-substitute (app f a) k v h x = (each-substitute f k v h.0 x, each-substitute a k v h.1 x)
    each-substitute (bind d e) k v h x =
        (each-substitute d k v h.0 x, each-substitute e (suc k) (shift_value v zero) h.1 (once v x))
    each-substitute (cond c a b) k v h x =
        (each-substitute c k v h.0 x, each-substitute a k v h.1 x, each-substitute b k v h.2 x)
    each-substitute (pair a b) k v h x = (each-substitute a k v h.0 x, each-substitute b k v h.1 x)
    each-substitute (fst e) k v h x = each-substitute e k v h x
    each-substitute (snd e) k v h x = each-substitute e k v h x
    each-substitute (prim p a b) k v h x = (each-substitute a k v h.0 x, each-substitute b k v h.1 x)
    each-substitute (bracket e) k v h x = allowed r.has_staging (λ h. each-substitute e k v h x) h
    each-substitute (escape e) k v h x = allowed r.has_staging (λ h. each-substitute e k v h x) h
    each-substitute (run t e) k v h x = allowed r.has_staging (λ h. each-substitute e k v h x) h
    each-substitute (close at e) k v h x = allowed r.has_staging (λ h. each-substitute e k v h x) h
    each-substitute (opened e) k v h x = allowed r.has_staging (λ h. each-substitute e k v h x) h
    each-substitute (lift e) k v h x = allowed r.has_staging (λ h. each-substitute e k v h x) h
    each-substitute (lift_b e) k v h x = allowed r.has_staging (λ h. each-substitute e k v h x) h
    each-substitute (done w) k v h x = allowed r.has_values (λ h. each-substitute_value w k v h x) h

    each-substitute_value : (w : Value) (k : ℕ) (v : Value) → EachNodeOfValue r w → EachNode r (done v)
        → EachNodeOfValue r (substitute_value w k v)
    each-substitute_value (int n) k v h x = h
    each-substitute_value (bool b) k v h x = tt
    each-substitute_value (both u w) k v h x = (each-substitute_value u k v h.0 x, each-substitute_value w k v h.1 x)
    each-substitute_value (function e) k v h x = each-substitute e (suc k) (shift_value v zero) h (once v x)
    each-substitute_value (recursive e) k v h x =
        each-substitute e (suc (suc k)) (shift_value (shift_value v zero) zero) h (twice v x)
    each-substitute_value (code e) k v h x = allowed r.has_staging (λ h. each-substitute e k v h x) h
    each-substitute_value (kept t f n) k v h x = h
