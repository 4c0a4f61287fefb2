-- Which numbers a term's equations and closes name, and that nothing else matters.
use Rattle.std.proofs.Common.{◌≡◌, ℕ, zero, suc, ◌+◌, ◌≤◌, ◌<◌, List, [], ◌∷◌, ◌++◌, map, Option, Some, refl, ap}
use Rattle.std.proofs.Common.{subst, arith}
use Rattle.std.specs.Prelude.{slice_get}
use Rattle.mw_term.specs.Terms.{Expression, num, truth, var, glob, fun, fix, app, bind, cond, pair, fst, snd, prim}
use Rattle.mw_term.specs.Terms.{bracket, escape, run, close, opened, lift, lift_b}
use Rattle.mw_term.specs.Types.{Level, live, under}
use Rattle.mw_types.specs.Types.{TypeExpression, int_ty, bool_ty, unknown, pair_ty, function_ty, code_ty, closed_ty}
use Rattle.mw_types.specs.Types.{Within, Assignment}
use Rattle.mw_types.specs.Equations.{TypeEquation, AllWithin, Agree}
use Rattle.mw_infer.specs.Schemes.{Scheme, TopScheme, let_scheme, kernel_scheme, AreOwn}
use Rattle.mw_infer.specs.ItemEquations.{Slot, plain_slot, quoted_slot, slot, wrong, unknowns_of_name}
use Rattle.mw_infer.specs.ItemEquations.{classifiers_of_name, unknowns_of, classifiers_of, variable_equations}
use Rattle.mw_infer.specs.ItemEquations.{name_equations, equations, Close}
use Rattle.mw_infer.specs.Below.{SlotBelow, SlotsBelow, LevelBelow, ClosesBelow}
use Rattle.mw_infer.specs.Inferring.{entry_of, AreFresh}
use Rattle.mw_types.proofs.Expressions.{level_of}
use Rattle.mw_infer.proofs.Shifting.{Within-shifted}
use Rattle.mw_types.proofs.Expressions.{Within-kernel_expression, Within-primitive_expression}

-- assignments that are one there
pub entries-agree : {n m : ℕ} {a b : Assignment} → Agree n m a b → (g : List Slot) → SlotsBelow n m g
    → map (entry_of a) g ≡ map (entry_of b) g
entries-agree h [] w = refl
entries-agree h (plain_slot u ∷ g) w = rw (h.types u w.0, entries-agree h g w.1) refl
entries-agree h (quoted_slot c u ∷ g) w = rw (h.classifiers c w.0.0, h.types u w.0.1, entries-agree h g w.1) refl

pub AreFresh-agree : {n m : ℕ} {a b : Assignment} → Agree n m a b → (xs : List Close) → ClosesBelow n m xs
    → AreFresh a xs → AreFresh b xs
AreFresh-agree h [] w s = tt
AreFresh-agree h (x ∷ xs) w s = (
  rw (← h.classifiers x.classifier w.0.0, ← entries-agree h x.scope w.0.1) s.0,
  AreFresh-agree h xs w.1 s.1,
)

pub level_of-agree : {n m : ℕ} {a b : Assignment} → Agree n m a b → (l : Level) → LevelBelow m l → level_of a l
    ≡ level_of b l
level_of-agree h live w = refl
level_of-agree h (under c) w = ap under (h.classifiers c w)

-- two lists, and higher bounds
pub AllWithin-append : (n m : ℕ) (es fs : List TypeEquation) → AllWithin n m es → AllWithin n m fs
    → AllWithin n m (es ++ fs)
AllWithin-append n m [] fs v w = w
AllWithin-append n m (e ∷ es) fs v w = (v.0, AllWithin-append n m es fs v.1 w)

pub ClosesBelow-append : (n m : ℕ) (xs ys : List Close) → ClosesBelow n m xs → ClosesBelow n m ys
    → ClosesBelow n m (xs ++ ys)
ClosesBelow-append n m [] ys v w = w
ClosesBelow-append n m (x ∷ xs) ys v w = (v.0, ClosesBelow-append n m xs ys v.1 w)

pub Within-more : {n m k l : ℕ} → n ≤ k → m ≤ l → (t : TypeExpression) → Within n m t → Within k l t
Within-more p q int_ty w = tt
Within-more p q bool_ty w = tt
Within-more p q (unknown u) w = omega (arith, w)
Within-more p q (pair_ty s t) w = (Within-more p q s w.0, Within-more p q t w.1)
Within-more p q (function_ty s t) w = (Within-more p q s w.0, Within-more p q t w.1)
Within-more p q (code_ty c t) w = (omega (arith, w.0), Within-more p q t w.1)
Within-more p q (closed_ty t) w = Within-more p q t w

pub AllWithin-more : {n m k l : ℕ} → n ≤ k → m ≤ l → (es : List TypeEquation) → AllWithin n m es → AllWithin k l es
AllWithin-more p q [] w = tt
AllWithin-more p q (e ∷ es) w =
    ((Within-more p q e.left w.0.0, Within-more p q e.right w.0.1), AllWithin-more p q es w.1)

pub SlotsBelow-more : {n m k l : ℕ} → n ≤ k → m ≤ l → (g : List Slot) → SlotsBelow n m g → SlotsBelow k l g
SlotsBelow-more p q [] w = tt
SlotsBelow-more p q (plain_slot u ∷ g) w = (omega (arith, w.0), SlotsBelow-more p q g w.1)
SlotsBelow-more p q (quoted_slot c u ∷ g) w = ((omega (arith, w.0.0), omega (arith, w.0.1)), SlotsBelow-more p q g w.1)

pub ClosesBelow-more : {n m k l : ℕ} → n ≤ k → m ≤ l → (xs : List Close) → ClosesBelow n m xs → ClosesBelow k l xs
ClosesBelow-more p q [] w = tt
ClosesBelow-more p q (x ∷ xs) w =
    ((omega (arith, w.0.0), SlotsBelow-more p q x.scope w.0.1), ClosesBelow-more p q xs w.1)

pub LevelBelow-more : {m l : ℕ} → m ≤ l → (x : Level) → LevelBelow m x → LevelBelow l x
LevelBelow-more p live w = tt
LevelBelow-more p (under c) w = omega (arith, w)

pub SlotBelow-slot : (n m : ℕ) (l : Level) (u : ℕ) → LevelBelow m l → u < n → SlotBelow n m (slot l u)
SlotBelow-slot n m live u w p = p
SlotBelow-slot n m (under c) u w p = (w, p)

pub SlotBelow-at : (n m : ℕ) (g : List Slot) (i : ℕ) (s : Slot) → SlotsBelow n m g → slice_get g i ≡ Some s
    → SlotBelow n m s
SlotBelow-at n m [] i s w e = absurd (cc)
SlotBelow-at n m (x ∷ g) zero s w e = let p : x ≡ s = cc in subst (λ y. SlotBelow n m y) p w.0
SlotBelow-at n m (x ∷ g) (suc i) s w e = SlotBelow-at n m g i s w.1 e

pub AreOwn-at : (schemes : List TopScheme) (i : ℕ) (s : Scheme) → AreOwn schemes → slice_get schemes i
    ≡ Some (let_scheme s) → Within s.unknowns s.classifiers s.type
AreOwn-at [] i s w e = absurd (cc)
AreOwn-at (let_scheme r ∷ schemes) zero s w e = let p : r ≡ s = cc in
    subst (λ y. Within y.unknowns y.classifiers y.type) p w.0
AreOwn-at (let_scheme r ∷ schemes) (suc i) s w e = AreOwn-at schemes i s w.1 e
AreOwn-at (x ∷ schemes) zero s w e = absurd (cc)
AreOwn-at (x ∷ schemes) (suc i) s w e = AreOwn-at schemes i s w e

pub wrong-within : (n m : ℕ) → AllWithin n m wrong
wrong-within n m = ((tt, tt), tt)

pub variable-within : (n m u : ℕ) (g : List Slot) (l : Level) (i : ℕ) (s : Option Slot) → slice_get g i ≡ s → u < n
    → SlotsBelow n m g → LevelBelow m l → AllWithin n m (variable_equations u l s)
variable-within n m u g live i (Some (plain_slot x)) e p w v = ((p, SlotBelow-at n m g i _ w e), tt)
variable-within n m u g (under c) i (Some (quoted_slot b x)) e p w v = let q = SlotBelow-at n m g i _ w e in
    ((p, q.1), (((v, tt), (q.0, tt)), tt))
variable-within n m u g l i s e p w v = wrong-within n m

module _ (schemes : List TopScheme) (known : AreOwn schemes) where
  pub name-within : (n m u o c : ℕ) (l : Level) (i : ℕ) (s : Option TopScheme) → slice_get schemes i ≡ s → u < n
      → o + unknowns_of_name s ≤ n → c + classifiers_of_name s ≤ m → AllWithin n m (name_equations u o c l s)
  name-within n m u o c live i (Some (let_scheme s)) e p q r =
      ((p, Within-shifted n m o c s.unknowns s.classifiers s.type (AreOwn-at schemes i s known e) q r), tt)
  name-within n m u o c live i (Some (kernel_scheme k)) e p q r = ((p, Within-kernel_expression n m k), tt)
  name-within n m u o c l i s e p q r = wrong-within n m

  -- a term's equations name what was named before, and its own numbers
  pub equations-within : (n m u o c : ℕ) (g : List Slot) (l : Level) (e : Expression) → u < n
      → o + unknowns_of schemes e ≤ n → c + classifiers_of schemes e ≤ m → SlotsBelow n m g → LevelBelow m l
      → AllWithin n m (equations schemes u o c g l e)
  equations-within n m u o c g l (num k) h p q w v = ((h, tt), tt)
  equations-within n m u o c g l (truth k) h p q w v = ((h, tt), tt)
  equations-within n m u o c g l (var i) h p q w v = variable-within n m u g l i (slice_get g i) refl h w v
  equations-within n m u o c g l (glob i) h p q w v = name-within n m u o c l i (slice_get schemes i) refl h p q
  equations-within n m u o c g l (fun e) h p q w v = (
    (h, (omega arith, omega arith)),
    equations-within n m (o + 1) (o + 2) c (slot l o ∷ g) l e (omega arith)
        (omega arith) q (SlotBelow-slot n m l o v (omega arith), w) v,
  )
  equations-within n m u o c g l (fix e) h p q w v = (
    (omega arith, (omega arith, omega arith)),
    (
      (h, omega arith),
      equations-within n m (o + 2) (o + 3) c (slot l o ∷ slot l (o + 1) ∷ g) l e (omega arith)
          (omega arith) q (SlotBelow-slot n m l o v (omega arith), (SlotBelow-slot n m l (o + 1) v (omega arith), w)) v,
    ),
  )
  equations-within n m u o c g l (app f a) h p q w v = (
    (omega arith, (omega arith, h)),
    AllWithin-append n m _ _ (equations-within n m o (o + 2) c g l f (omega arith) (omega arith) (omega arith) w v)
        (equations-within n m (o + 1) (o + 2 + unknowns_of schemes f) (c + classifiers_of schemes f) g l a (omega arith)
        (omega arith) (omega arith) w v),
  )
  equations-within n m u o c g l (bind d e) h p q w v = (
    (omega arith, omega arith),
    (
      (h, omega arith),
      AllWithin-append n m _ _ (equations-within n m (o + 1) (o + 3) c g l d (omega arith) (omega arith) (omega arith) w
          v) (equations-within n m (o + 2) (o + 3 + unknowns_of schemes d) (c + classifiers_of schemes d) (slot l o ∷ g)
          l e
          (omega arith) (omega arith) (omega arith) (SlotBelow-slot n m l o v (omega arith), w) v),
    ),
  )
  equations-within n m u o c g l (cond k a b) h p q w v = (
    (omega arith, tt),
    (
      (omega arith, h),
      (
        (omega arith, h),
        AllWithin-append n m _ _
            (AllWithin-append n m _ _ (equations-within n m o (o + 3) c g l k (omega arith) (omega arith) (omega arith)
            w v)
            (equations-within n m (o + 1) (o + 3 + unknowns_of schemes k) (c + classifiers_of schemes k) g l a
            (omega arith)
            (omega arith) (omega arith) w v))
            (equations-within n m (o + 2) (o + 3 + unknowns_of schemes k + unknowns_of schemes a)
            (c + classifiers_of schemes k + classifiers_of schemes a) g l b (omega arith) (omega arith) (omega arith) w
            v),
      ),
    ),
  )
  equations-within n m u o c g l (pair a b) h p q w v = (
    (h, (omega arith, omega arith)),
    AllWithin-append n m _ _ (equations-within n m o (o + 2) c g l a (omega arith) (omega arith) (omega arith) w v)
        (equations-within n m (o + 1) (o + 2 + unknowns_of schemes a) (c + classifiers_of schemes a) g l b (omega arith)
        (omega arith) (omega arith) w v),
  )
  equations-within n m u o c g l (fst e) h p q w v =
      ((omega arith, (h, omega arith)), equations-within n m (o + 1) (o + 2) c g l e (omega arith) (omega arith) q w v)
  equations-within n m u o c g l (snd e) h p q w v =
      ((omega arith, (omega arith, h)), equations-within n m (o + 1) (o + 2) c g l e (omega arith) (omega arith) q w v)
  equations-within n m u o c g l (prim k a b) h p q w v = (
    (omega arith, tt),
    (
      (omega arith, tt),
      (
        (h, Within-primitive_expression n m k),
        AllWithin-append n m _ _ (equations-within n m o (o + 2) c g l a (omega arith) (omega arith) (omega arith) w v)
            (equations-within n m (o + 1) (o + 2 + unknowns_of schemes a) (c + classifiers_of schemes a) g l b
            (omega arith)
            (omega arith) (omega arith) w v),
      ),
    ),
  )
  equations-within n m u o c g live (bracket e) h p q w v = (
    (h, (omega arith, omega arith)),
    equations-within n m o (o + 1) (c + 1) g (under c) e (omega arith) (omega arith)
        (omega arith) w (omega arith),
  )
  equations-within n m u o c g (under b) (escape e) h p q w v =
      ((omega arith, (v, h)), equations-within n m o (o + 1) c g live e (omega arith) (omega arith) q w tt)
  equations-within n m u o c g live (run k e) h p q w v = (
    (omega arith, Within-kernel_expression n m k),
    (
      (h, Within-kernel_expression n m k),
      equations-within n m o (o + 1) c g live e (omega arith) (omega arith) q w
          tt,
    ),
  )
  equations-within n m u o c g live (close at e) h p q w v = (
    (omega arith, (omega arith, omega arith)),
    (
      (h, omega arith),
      equations-within n m (o + 1) (o + 2) (c + 1) g live e (omega arith) (omega arith) (omega arith)
          w tt,
    ),
  )
  equations-within n m u o c g live (opened e) h p q w v = (
    (omega arith, omega arith),
    (
      (h, (omega arith, omega arith)),
      equations-within n m (o + 1) (o + 2) (c + 1) g live e (omega arith)
          (omega arith) (omega arith) w tt,
    ),
  )
  equations-within n m u o c g live (lift e) h p q w v = (
    (omega arith, tt),
    (
      (h, (omega arith, tt)),
      equations-within n m o (o + 1) (c + 1) g live e (omega arith) (omega arith) (omega arith)
          w tt,
    ),
  )
  equations-within n m u o c g live (lift_b e) h p q w v = (
    (omega arith, tt),
    (
      (h, (omega arith, tt)),
      equations-within n m o (o + 1) (c + 1) g live e (omega arith) (omega arith) (omega arith)
          w tt,
    ),
  )
  equations-within n m u o c g l e h p q w v = wrong-within n m
