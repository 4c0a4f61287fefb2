-- A front's verdict, from what the parts say.
use Rattle.std.proofs.Common.{◌≡◌, ℕ, zero, suc, ◌+◌, ◌≤◌, ◌<◌, min, List, [], ◌∷◌, ◌++◌, take, length, refl, ap}
use Rattle.std.proofs.Common.{sym, subst, ◌∙◌, arith}
use Rattle.std.specs.Prelude.{slice_index_or, slice_get, Some}
use Rattle.mw_types.specs.Equations.{TypeEquation, Solves, Solvable, Agree, AllWithin, equations_of, equation_of}
use Rattle.mw_types.specs.Fronts.{Small}
use Rattle.mw_types.specs.Grows.{Grew}
use Rattle.mw_types.specs.Judged.{Stated}
use Rattle.mw_types.specs.Answering.{Ready}
use Rattle.mw_types.specs.Types.{TypeExpression, Assignment, value, nodes, size, Substitution, after, Within, type_of}
use Rattle.mw_types.specs.Satisfying.{IsShaped, Means, Sound, Step, Never}
use Rattle.mw_types.specs.Walks.{AllSized}
use Rattle.mw_types.specs.Stands.{Names}
use Rattle.mw_types.specs.declared.types.Equation.{Equation}
use Rattle.mw_types.specs.declared.state.State.{State}
use Rattle.mw_types.proofs.Growing.{agree_less, agree_then}
use Rattle.mw_types.proofs.Smallest.{grows, least, least_size}
use Rattle.mw_types.proofs.Reps.{rep, names, answer, answer_sound, answer_general, answer_size}

pub value_agree : {n m : ℕ} {a b : Assignment} → Agree n m a b → (t : TypeExpression) → Within n m t → value a t
    ≡ value b t
value_agree h (TypeExpression.unknown u) w = h.types u w
value_agree h (TypeExpression.pair_ty s t) w = rw (value_agree h s w.0, value_agree h t w.1) refl
value_agree h (TypeExpression.function_ty s t) w = rw (value_agree h s w.0, value_agree h t w.1) refl
value_agree h (TypeExpression.code_ty c t) w = rw (h.classifiers c w.0, value_agree h t w.1) refl
value_agree h (TypeExpression.closed_ty t) w = rw (value_agree h t w) refl
value_agree h t w = refl

solves_snoc : (a : Assignment) (es : List TypeEquation) (e : TypeEquation) → Solves a es → value a e.left
    ≡ value a e.right → Solves a (es ++ e ∷ [])
solves_snoc a [] e h p = (p, tt)
solves_snoc a (d ∷ es) e h p = (h.0, solves_snoc a es e h.1 p)

snoc_solves : (a : Assignment) (es : List TypeEquation) (e : TypeEquation) → Solves a (es ++ e ∷ []) → Solves a es
    × (value a e.left ≡ value a e.right)
snoc_solves a [] e h = (tt, h.0)
snoc_solves a (d ∷ es) e h = let r = snoc_solves a es e h.1 in ((h.0, r.0), r.1)

pub blank_stated : (s : State) → Sound s → ((a : Assignment) → Means s a)
    → Stated (length s.parent.items) (length s.classifier.items) [] s
blank_stated s p f = record {
  sound = p;
  long = omega arith;
  classifier_count = refl;
  shaped = λ i le lt.
      absurd (omega arith);
  out = λ a h. tt;
  more = λ a h.
      (a, record { types = λ u lt. refl; classifiers = λ c lt. refl }, f a);
}

-- one more equation
pub one_stated : (n m : ℕ) (es : List TypeEquation) (e : TypeEquation) (s t u v : State) (l r : ℕ) → Within n m e.left
    → Within n m e.right → Stated n m es s
    → Grew s t (λ a. a.ty l ≡ value a e.left) → Grew t u (λ a. a.ty r ≡ value a e.right)
    → Step u v (λ a. a.ty l ≡ a.ty r)
    → (IsShaped n s.parent.items s.shape.items → IsShaped n u.parent.items u.shape.items)
    → Stated n m (es ++ e ∷ []) v
one_stated n m es e s t u v l r wl wr h p q k f = record {
  sound = k.sound;
  long = omega (arith, h.long, p.long, q.long, k.node_count);
  classifier_count = k.classifier_count ∙ q.classifier_count ∙ p.classifier_count ∙ h.classifier_count;
  shaped = k.shaped n (f h.shaped);
  out = λ a z. let x = k.out a z in let y = q.out a x.0 in let w = p.out a y.0 in
      solves_snoc a es e (h.out a w.0) (sym w.1 ∙ x.1 ∙ y.1);
  more = λ a z. let d = snoc_solves a es e z in
      let x = h.more a d.0 in
      let y = p.more x.0 x.2 in
      let w = q.more y.0 y.2 in
      let b = w.0 in
      let ag : Agree n m a b = agree_then x.1
      (agree_then (agree_less h.long (omega (arith, h.classifier_count)) y.1)
      (agree_less (omega (arith, h.long, p.long)) (omega (arith, h.classifier_count, p.classifier_count)) w.1)) in
      let yb = q.out b w.2 in
      let xb = p.out b yb.0 in
      (b, ag, k.back b w.2 (xb.1 ∙ sym (value_agree ag e.left wl) ∙ d.1 ∙ value_agree ag e.right wr ∙ sym yb.1));
}

pub never_unsolvable : (n m : ℕ) (es : List TypeEquation) (s : State) → Stated n m es s → Never s (λ a. Unit {0})
    → Solvable es → ⊥
never_unsolvable n m es s h k x = let y = h.more x.0 x.1 in k y.0 y.2 tt

-- what follows a step that says nothing more
pub stated_after : {n m : ℕ} {es : List TypeEquation} {s t : State} → Stated n m es s → Step s t (λ a. Unit {0})
    → Stated n m es t
stated_after h p = record {
  sound = p.sound;
  long = omega (arith, h.long, p.node_count);
  classifier_count = p.classifier_count ∙ h.classifier_count;
  shaped = λ i le lt. p.shaped _ h.shaped i le lt;
  out = λ a k. h.out a (p.out a k).0;
  more = λ a k. let x = h.more a k in (x.0, x.1, p.back x.0 x.2 tt);
}

module _ (n m : ℕ) (es : List TypeEquation) (s t : State) (stated : Stated n m es s) (step : Step s t (λ a. Unit {0}))
    (empty : t.waiting.items ≡ []) (sizes : List ℕ) (all : AllSized t sizes) where
  named : ℕ → ℕ
  named = rep (length t.classifier.items) t.classifier.items

  names_named : Names t.classifier.items named
  unfolding named
  names_named = names t.classifier.items step.sound.low_classifiers

  σ : Substitution
  σ = answer t sizes step.sound empty all named names_named

  solves : Solves (after least σ) es
  unfolding σ
  solves = stated.out _ (step.out _ (answer_sound t sizes step.sound empty all named names_named least)).0

  counted : (u : ℕ) → u < n → slice_index_or sizes u 0 ≡ min (nodes (σ.ty u)) 10001
  unfolding σ
  counted u lt = answer_size t sizes step.sound empty all named names_named u
      (let p = stated.long in let q = step.node_count in omega arith)

  pub fine : ((u : ℕ) → u < n → slice_index_or sizes u 0 ≤ 10000) → Small n es
  fine f = record {
    by = after least σ;
    solves = solves;
    small = λ u lt. omega (arith, counted u lt, f u lt, least_size (σ.ty u));
  }

  pub ready : ((u : ℕ) → u < n → slice_index_or sizes u 0 ≤ 10000) → Ready n m es t
  ready f = record { stated = stated_after stated step; empty = empty; sizes = sizes; all = all; small = f }

  general : (a : Assignment) → Means t a → (u : ℕ) → u < n → a.ty u ≡ value a (σ.ty u)
  unfolding σ
  general a h u lt = (answer_general t sizes step.sound empty all named names_named a h).types u
      (let p = stated.long in let q = step.node_count in omega arith)

  pub big : (u : ℕ) → u < n → 10000 < slice_index_or sizes u 0 → Solvable es × (Small n es → ⊥)
  big u lt b = (
    (after least σ, solves),
    (λ h. let x = stated.more h.by h.solves in
        let e : size (h.by.ty u) ≡ size (value x.0 (σ.ty u)) =
        ap size (x.1.types u lt ∙ general x.0 (step.back x.0 x.2 tt) u lt) in
        omega (arith, counted u lt, h.small u lt, grows x.0 (σ.ty u))),
  )

pub take_one : (xs : List Equation) (i : ℕ) (x : Equation) → slice_get xs i ≡ Some x → equations_of (take (i + 1) xs)
    ≡ equations_of (take i xs) ++ equation_of x ∷ []
take_one [] i x e = absurd (cc)
take_one (y ∷ xs) zero x e = let p : y ≡ x = cc in rw p refl
take_one (y ∷ xs) (suc i) x e = let q : suc i + 1 ≡ suc (i + 1) = omega arith in
    rw q (ap (λ es. equation_of y ∷ es) (take_one xs i x e))

pub item_within : (n m : ℕ) (xs : List Equation) (i : ℕ) (x : Equation) → AllWithin n m (equations_of xs)
    → slice_get xs i ≡ Some x → Within n m (type_of x.left) × Within n m (type_of x.right)
item_within n m [] i x w e = absurd (cc)
item_within n m (y ∷ xs) zero x w e = let p : y ≡ x = cc in
    subst (λ z. Within n m (type_of z.left) × Within n m (type_of z.right)) p w.0
item_within n m (y ∷ xs) (suc i) x w e = item_within n m xs i x w.1 e

pub left_within : (n k m l : ℕ) (xs : List Equation) (i : ℕ) (x : Equation) → k ≡ n → l ≡ m
    → AllWithin n m (equations_of xs) → slice_get xs i ≡ Some x → Within k l (type_of x.left)
left_within n k m l xs i x e f w g = rw (e, f) ((item_within n m xs i x w g).0)

pub right_within : (n k m l : ℕ) (xs : List Equation) (i : ℕ) (x : Equation) → k ≡ n → l ≡ m
    → AllWithin n m (equations_of xs) → slice_get xs i ≡ Some x → Within k l (type_of x.right)
right_within n k m l xs i x e f w g = rw (e, f) ((item_within n m xs i x w g).1)

pub item_stated : (n m k : ℕ) (xs : List Equation) (i : ℕ) (x : Equation) (s t u v : State) (l r : ℕ) → n ≡ k
    → AllWithin k m (equations_of xs) → slice_get xs i ≡ Some x → Stated n m (equations_of (take i xs)) s
    → Grew s t (λ a. a.ty l ≡ value a (type_of x.left)) → Grew t u (λ a. a.ty r ≡ value a (type_of x.right))
    → Step u v (λ a. a.ty l ≡ a.ty r)
    → (IsShaped n s.parent.items s.shape.items → IsShaped n u.parent.items u.shape.items)
    → Stated n m (equations_of (take (i + 1) xs)) v
item_stated n m k xs i x s t u v l r e w g h p q z f =
    rw (take_one xs i x g)
    (one_stated n m (equations_of (take i xs)) (equation_of x) s t u v l r (left_within k n m m xs i x e refl w g)
    (right_within k n m m xs i x e refl w g) h p q z f)

within_snoc : (n m : ℕ) (es : List TypeEquation) (e : TypeEquation) → AllWithin n m es → Within n m e.left
    → Within n m e.right → AllWithin n m (es ++ e ∷ [])
within_snoc n m [] e w l r = ((l, r), tt)
within_snoc n m (d ∷ es) e w l r = (w.0, within_snoc n m es e w.1 l r)

pub within_more : (n m : ℕ) (xs : List Equation) (i : ℕ) (x : Equation) → slice_get xs i ≡ Some x
    → AllWithin n m (equations_of (take i xs)) → Within n m (type_of x.left) → Within n m (type_of x.right)
    → AllWithin n m (equations_of (take (i + 1) xs))
within_more n m xs i x g w l r =
    rw (take_one xs i x g) (within_snoc n m (equations_of (take i xs)) (equation_of x) w l r)
