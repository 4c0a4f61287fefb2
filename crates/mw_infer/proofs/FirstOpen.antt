-- The first close that is not fresh is one, whichever most general solution it is tested on.
use Rattle.std.proofs.Common.{◌≡◌, ℕ, ◌+◌, ◌≤◌, ◌<◌, List, [], ◌∷◌, ◌++◌, map, sym, subst, ◌∙◌, arith}
use Rattle.mw_term.specs.Terms.{Expression, fun, fix, app, bind, cond, pair, fst, snd, prim}
use Rattle.mw_term.specs.Terms.{bracket, escape, run, close, opened, lift, lift_b}
use Rattle.mw_term.specs.Types.{Level, live, under, IsAbsent}
use Rattle.mw_types.specs.Types.{Substitution, after}
use Rattle.mw_types.specs.Equations.{TypeEquation, MostGeneral}
use Rattle.mw_types.proofs.Faults.{are_instances}
use Rattle.mw_infer.specs.Schemes.{TopScheme}
use Rattle.mw_infer.specs.ItemEquations.{Slot, slot, unknowns_of, classifiers_of, Close, closes}
use Rattle.mw_infer.specs.Inferring.{entry_of, AreFresh, least}
use Rattle.mw_infer.specs.Checking.{IsFirstOpen}
use Rattle.mw_infer.proofs.Sound.{AreFresh-parts}
use Rattle.mw_infer.specs.Below.{SlotsBelow, LevelBelow, ClosesBelow}
use Rattle.mw_infer.proofs.Within.{entries-agree, ClosesBelow-append, SlotBelow-slot}
use Rattle.mw_infer.proofs.Split.{IsAbsent-least}

module _ (schemes : List TopScheme) where
  pub closes-below : (n m o c : ℕ) (g : List Slot) (l : Level) (e : Expression) → o + unknowns_of schemes e ≤ n
      → c + classifiers_of schemes e ≤ m → SlotsBelow n m g → LevelBelow m l
      → ClosesBelow n m (closes schemes o c g l e)
  closes-below n m o c g l (fun e) p q w v = closes-below n m (o + 2) c (slot l o ∷ g) l e (omega arith) q
      (SlotBelow-slot n m l o v (omega arith), w) v
  closes-below n m o c g l (fix e) p q w v = closes-below n m (o + 3) c (slot l o ∷ slot l (o + 1) ∷ g) l e
      (omega arith) q (SlotBelow-slot n m l o v (omega arith), (SlotBelow-slot n m l (o + 1) v (omega arith), w)) v
  closes-below n m o c g l (app f a) p q w v =
      ClosesBelow-append n m _ _ (closes-below n m (o + 2) c g l f (omega arith) (omega arith) w v)
      (closes-below n m (o + 2 + unknowns_of schemes f) (c + classifiers_of schemes f) g l a (omega arith) (omega arith)
      w v)
  closes-below n m o c g l (bind d e) p q w v =
      ClosesBelow-append n m _ _ (closes-below n m (o + 3) c g l d (omega arith) (omega arith) w v)
      (closes-below n m (o + 3 + unknowns_of schemes d) (c + classifiers_of schemes d) (slot l o ∷ g) l e (omega arith)
      (omega arith) (SlotBelow-slot n m l o v (omega arith), w) v)
  closes-below n m o c g l (cond k a b) p q w v =
      ClosesBelow-append n m _ _
      (ClosesBelow-append n m _ _ (closes-below n m (o + 3) c g l k (omega arith) (omega arith) w v)
      (closes-below n m (o + 3 + unknowns_of schemes k) (c + classifiers_of schemes k) g l a (omega arith) (omega arith)
      w v)) (closes-below n m (o + 3 + unknowns_of schemes k + unknowns_of schemes a)
      (c + classifiers_of schemes k + classifiers_of schemes a) g l b (omega arith) (omega arith) w v)
  closes-below n m o c g l (pair a b) p q w v =
      ClosesBelow-append n m _ _ (closes-below n m (o + 2) c g l a (omega arith) (omega arith) w v)
      (closes-below n m (o + 2 + unknowns_of schemes a) (c + classifiers_of schemes a) g l b (omega arith) (omega arith)
      w v)
  closes-below n m o c g l (fst e) p q w v = closes-below n m (o + 2) c g l e (omega arith) q w v
  closes-below n m o c g l (snd e) p q w v = closes-below n m (o + 2) c g l e (omega arith) q w v
  closes-below n m o c g l (prim k a b) p q w v =
      ClosesBelow-append n m _ _ (closes-below n m (o + 2) c g l a (omega arith) (omega arith) w v)
      (closes-below n m (o + 2 + unknowns_of schemes a) (c + classifiers_of schemes a) g l b (omega arith) (omega arith)
      w v)
  closes-below n m o c g l (bracket e) p q w v = closes-below n m (o + 1) (c + 1) g (under c) e (omega arith)
      (omega arith) w (omega arith)
  closes-below n m o c g l (escape e) p q w v = closes-below n m (o + 1) c g live e (omega arith) q w tt
  closes-below n m o c g l (run k e) p q w v = closes-below n m (o + 1) c g l e (omega arith) q w v
  closes-below n m o c g l (close at e) p q w v =
      ((omega arith, w), closes-below n m (o + 2) (c + 1) g l e (omega arith) (omega arith) w v)
  closes-below n m o c g l (opened e) p q w v = closes-below n m (o + 2) (c + 1) g l e (omega arith) (omega arith) w v
  closes-below n m o c g l (lift e) p q w v = closes-below n m (o + 1) (c + 1) g l e (omega arith) (omega arith) w v
  closes-below n m o c g l (lift_b e) p q w v = closes-below n m (o + 1) (c + 1) g l e (omega arith) (omega arith) w v
  closes-below n m o c g l e p q w v = tt

module _ (n m : ℕ) (es : List TypeEquation) (s r : Substitution) (g : MostGeneral n m es s) (h : MostGeneral n m es r)
  where
    -- a close that is fresh on one is fresh on the other
    fresh-other : (x : Close) → x.classifier < m → SlotsBelow n m x.scope → IsAbsent (s.classifier x.classifier)
        (map (entry_of (after least s)) x.scope) → IsAbsent (r.classifier x.classifier)
        (map (entry_of (after least r)) x.scope)
    fresh-other x lt w f =
        let d = are_instances n m es s r g h least in
        IsAbsent-least d.0 r (r.classifier x.classifier) x.scope
        (rw (← d.1.classifiers x.classifier lt, ← entries-agree d.1 x.scope w) f)

-- what stands first after what has a property, and has it not, is one
first-one : (n m : ℕ) (es : List TypeEquation) (s r : Substitution) → MostGeneral n m es s → MostGeneral n m es r
    → (xs ys vs ws : List Close) (x y : Close) → ClosesBelow n m (xs ++ (x ∷ vs)) → xs ++ (x ∷ vs) ≡ ys ++ (y ∷ ws)
    → AreFresh (after least s) xs → AreFresh (after least r) ys
    → (IsAbsent (s.classifier x.classifier) (map (entry_of (after least s)) x.scope) → ⊥)
    → (IsAbsent (r.classifier y.classifier) (map (entry_of (after least r)) y.scope) → ⊥)
    → x ≡ y
first-one n m es s r g h [] [] vs ws x y w e p q i j = cc
first-one n m es s r g h [] (z ∷ ys) vs ws x y w e p q i j =
    let f : z ≡ x = cc in
    absurd (i (fresh-other n m es r s h g x w.0.0 w.0.1
    (subst (λ v. IsAbsent (r.classifier v.classifier) (map (entry_of (after least r)) v.scope)) f q.0)))
first-one n m es s r g h (z ∷ xs) [] vs ws x y w e p q i j =
    let f : z ≡ y = cc in
    absurd (j (subst (λ v. IsAbsent (r.classifier v.classifier) (map (entry_of (after least r)) v.scope)) f
    (fresh-other n m es s r g h z w.0.0 w.0.1 p.0)))
first-one n m es s r g h (z ∷ xs) (v ∷ ys) vs ws x y w e p q i j = first-one n m es s r g h xs ys vs ws x y w.1 (cc) p.1
    q.1 i j

pub first_open-one : (n m : ℕ) (es : List TypeEquation) (s r : Substitution) (xs : List Close) (x y : Close)
    → MostGeneral n m es s → MostGeneral n m es r → ClosesBelow n m xs → IsFirstOpen s xs x → IsFirstOpen r xs y → x ≡ y
first_open-one n m es s r xs x y g h w a b = first-one n m es s r g h a.earlier b.earlier a.later b.later x y
    (subst (λ z. ClosesBelow n m z) a.parts w) (sym a.parts ∙ b.parts) a.fresh b.fresh a.stands b.stands

-- where all are fresh, there is none
pub first_open-none : (s : Substitution) (xs : List Close) (x : Close) → AreFresh (after least s) xs
    → IsFirstOpen s xs x → ⊥
first_open-none s xs x f a =
    a.stands (AreFresh-parts (after least s) a.earlier (x ∷ a.later)
    (subst (λ z. AreFresh (after least s) z) a.parts f)).1.0
