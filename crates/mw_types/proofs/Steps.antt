-- Steps of a state, one after another.
use Rattle.std.proofs.Common.{◌≡◌, ◌≢◌, ℕ, ◌≤◌, ◌<◌, List, [], ◌∷◌, ◌++◌, length, refl, ap, sym, subst, ◌∙◌}
use Rattle.std.proofs.Common.{arith}
use Rattle.std.proofs.lemmas.List.{get_or_default}
use Rattle.std.specs.Prelude.{slice_index_or, slice_set, IfOk, Result, Ok, Err}
use Rattle.mw_term.specs.Types.{pair_type, function_type, code_type, closed_type}
use Rattle.mw_types.specs.Types.{Assignment}
use Rattle.mw_types.specs.Forest.{Low, Joins}
use Rattle.mw_types.specs.Satisfying.{Meets, Waits, joined, Means, Meeting, kept, Extra, ExtraInside, Inside}
use Rattle.mw_types.specs.Satisfying.{WaitsInside}
use Rattle.mw_types.specs.Satisfying.{Sound, Step, Linked, Never}
use Rattle.mw_types.specs.declared.state.Shape.{Shape}
use Rattle.mw_types.specs.declared.state.Shape.TheVariants.{Free, Pair, Arrow, Code, Closed}
use Rattle.mw_types.specs.declared.state.Pending.{Pending}
use Rattle.mw_types.specs.declared.state.State.{State}
use Rattle.mw_types.specs.declared.state.Met.{Met}
use Rattle.mw_types.specs.declared.state.Met.TheVariants.{Clash, Keep, One, Two, Classes}
use Rattle.mw_types.proofs.Lists.{same, other, is, get_other, get_here, set_length}
use Rattle.mw_types.proofs.Link.{link, unlink, low_set, Both}

pub then_step : {s t u : State} {X Y : Assignment → Type 0} → Step s t X → Step t u Y → Step s u (λ a. X a × Y a)
then_step p q = record {
  sound = q.sound;
  node_count = q.node_count ∙ p.node_count;
  classifier_count = q.classifier_count ∙ p.classifier_count;
  shaped = λ n h. q.shaped n (p.shaped n h);
  out = λ a h. let r = q.out a h in let k = p.out a r.0 in (k.0, (k.1, r.1));
  back = λ a h x. q.back a (p.back a h x.0) x.1;
}

-- the same in other words
pub map_step : {s t : State} {X Y : Assignment → Type 0} → ((a : Assignment) → Means s a → X a → Y a)
    → ((a : Assignment) → Means s a → Y a → X a) → Step s t X → Step s t Y
map_step f g p = record {
  sound = p.sound;
  node_count = p.node_count;
  classifier_count = p.classifier_count;
  shaped = p.shaped;
  out = λ a h. let r = p.out a h in (r.0, f a r.0 r.1);
  back = λ a h y. p.back a h (g a h y);
}

pub no_step : {s : State} {X : Assignment → Type 0} → Sound s → ((a : Assignment) → Means s a → X a) → Step s s X
no_step p f = record {
  sound = p;
  node_count = refl;
  classifier_count = refl;
  shaped = λ n h. h;
  out = λ a h.
      (h, f a h);
  back = λ a h x. h;
}

-- a link, and then what else is to be one
pub finish : {s t u : State} {low high : ℕ} (m : Met) → m ≢ Clash → Linked s t low high m → Step t u (λ a. Extra m a)
    → Step s u (λ a. a.ty low ≡ a.ty high)
finish m n p q = record {
  sound = q.sound;
  node_count = q.node_count ∙ p.node_count;
  classifier_count = q.classifier_count ∙ p.classifier_count;
  shaped = λ k h. q.shaped k (p.shaped n k h);
  out = λ a h. let r = q.out a h in p.out a r.0 r.1;
  back = λ a h e. let r = p.back a h e in q.back a r.0 r.1;
}

pub if_ok : {A E : Type 0} {P Q : A → Type 0} (r : Result A E) → ((x : A) → P x → Q x) → IfOk r P → IfOk r Q
if_ok (Ok x) f h = f x h
if_ok (Err e) f h = h

pub turn_step : {s t : State} {i j : ℕ} → Step s t (λ a. a.ty i ≡ a.ty j) → Step s t (λ a. a.ty j ≡ a.ty i)
turn_step = map_step (λ a h e. sym e) (λ a h e. sym e)

-- a shape that was read
pub shape_inside : (s : State) (i : ℕ) (h : Shape) → Sound s → i < length s.parent.items
    → h ≡ slice_index_or s.shape.items i h → Inside (length s.parent.items) (length s.classifier.items) h
shape_inside s i h p lt e = subst (λ x. Inside (length s.parent.items) (length s.classifier.items) x)
    (sym (e ∙ get_or_default s.shape.items i h Free (omega (arith, p.lengths)))) (p.inside i)

-- one more waits
waits_more : (ws : List Pending) (w : Pending) (a : Assignment) → Waits (ws ++ w ∷ []) a → Waits ws a
    × (a.ty w.left ≡ a.ty w.right)
waits_more [] w a h = (tt, h.0)
waits_more (x ∷ ws) w a h = let r = waits_more ws w a h.1 in ((h.0, r.0), r.1)

more_waits : (ws : List Pending) (w : Pending) (a : Assignment) → Waits ws a → a.ty w.left ≡ a.ty w.right
    → Waits (ws ++ w ∷ []) a
more_waits [] w a h e = (e, tt)
more_waits (x ∷ ws) w a h e = (h.0, more_waits ws w a h.1 e)

more_inside : (n : ℕ) (ws : List Pending) (w : Pending) → WaitsInside n ws → w.left < n → w.right < n
    → WaitsInside n (ws ++ w ∷ [])
more_inside n [] w h p q = (p, q, tt)
more_inside n (x ∷ ws) w h p q = (h.0, h.1, more_inside n ws w h.2 p q)

inside_more : (n : ℕ) (ws : List Pending) (w : Pending) → WaitsInside n (ws ++ w ∷ []) → WaitsInside n ws
    × (w.left < n) × (w.right < n)
inside_more n [] w h = (tt, h.0, h.1)
inside_more n (x ∷ ws) w h = let r = inside_more n ws w h.2 in ((h.0, h.1, r.0), r.1, r.2)

-- two states that differ in one that waits: what the second says, a step to it, and one from it
module _ (s t : State) (w : Pending) (e : t.parent.items ≡ s.parent.items) (f : t.shape.items ≡ s.shape.items)
    (g : t.classifier.items ≡ s.classifier.items) (h : t.waiting.items ≡ s.waiting.items ++ w ∷ []) where
  waits_out : (a : Assignment) → Means t a → Means s a × (a.ty w.left ≡ a.ty w.right)
  waits_out a k = let q = waits_more s.waiting.items w a (rw h at k.waits) in (
    record { types = rw e at k.types; classifiers = rw g at k.classifiers; shapes = rw f at k.shapes; waits = q.0 },
    q.1,
  )

  waits_back : (a : Assignment) → Means s a → a.ty w.left ≡ a.ty w.right → Means t a
  waits_back a k x = let q = more_waits s.waiting.items w a k.waits x in
      rw (e, f, g, h) (record { types = k.types; classifiers = k.classifiers; shapes = k.shapes; waits = q })

  pub wait_step : Sound s → w.left < length s.parent.items → w.right < length s.parent.items
      → Step s t (λ a. a.ty w.left ≡ a.ty w.right)
  wait_step p l r = record {
    sound = record {
      low = rw e p.low;
      low_classifiers = rw g p.low_classifiers;
      lengths = rw (e, f) p.lengths;
      bare = rw (e, f) p.bare;
      inside = rw (e, f, g) p.inside;
      waiting = rw (e, h) (more_inside _ s.waiting.items w p.waiting l r);
    };
    node_count = ap length e;
    classifier_count = ap length g;
    shaped = λ n k. rw (e, f) k;
    out = waits_out;
    back = waits_back;
  }

  -- one that waited is made one, and the state says the same
  pub popped : {u : State} → Step s u (λ a. a.ty w.left ≡ a.ty w.right) → Step t u (λ a. Unit {0})
  popped p = record {
    sound = p.sound;
    node_count = p.node_count ∙ sym (ap length e);
    classifier_count = p.classifier_count ∙ sym (ap length g);
    shaped = λ n k. p.shaped n (rw (e, f) at k);
    out = λ a k. let q = p.out a k in (waits_back a q.0 q.1, tt);
    back = λ a k x. let q = waits_out a k in p.back a q.0 q.1;
  }

  pub popped_never : Never s (λ a. a.ty w.left ≡ a.ty w.right) → Never t (λ a. Unit {0})
  popped_never n a k x = let q = waits_out a k in n a q.0 q.1

  pub popped_sound : Sound t → Sound s × (w.left < length s.parent.items) × (w.right < length s.parent.items)
  popped_sound p = let q = inside_more (length t.parent.items) s.waiting.items w (rw h at p.waiting) in (
    record {
      low = rw e at p.low;
      low_classifiers = rw g at p.low_classifiers;
      lengths = rw (e, f) at p.lengths;
      bare = rw (e, f) at p.bare;
      inside = rw (e, f, g) at p.inside;
      waiting = rw e at q.0;
    },
    rw e at q.1,
    rw e at q.2,
  )

pub class_step : (s t : State) (c d : ℕ) → Sound s → t.parent.items ≡ s.parent.items → t.shape.items ≡ s.shape.items
    → t.waiting.items ≡ s.waiting.items → length t.classifier.items ≡ length s.classifier.items → Low t.classifier.items
    → Joins s.classifier.items t.classifier.items c d → Step s t (λ a. a.classifier c ≡ a.classifier d)
class_step s t c d p e f h g l j = record {
  sound = record {
    low = rw e p.low;
    low_classifiers = l;
    lengths = rw (e, f) p.lengths;
    bare = rw (e, f) p.bare;
    inside = rw (e, f, g) p.inside;
    waiting = rw (e, h) p.waiting;
  };
  node_count = ap length e;
  classifier_count = g;
  shaped = λ n k. rw (e, f) k;
  out = λ a k. let q = (j a.classifier).0 k.classifiers in
      (record { types = rw e at k.types; classifiers = q.0; shapes = rw f at k.shapes; waits = rw h at k.waits }, q.1);
  back = λ a k x. let q = (j a.classifier).1 k.classifiers x in
      rw (e, f, h) (record { types = k.types; classifiers = q; shapes = k.shapes; waits = k.waits });
}

kept_inside : (n m : ℕ) (x : Met) → ExtraInside n m x → Inside n m (kept x)
kept_inside n m Clash h = tt
kept_inside n m (Keep s) h = h
kept_inside n m (One s w) h = h.0
kept_inside n m (Two s w x) h = h.0
kept_inside n m (Classes s c d w) h = h.0

pub put_linked : (s t : State) (low high : ℕ) (m : Met) → Sound s → low < high → high < length s.parent.items
    → slice_index_or s.parent.items low 0 ≡ low → slice_index_or s.parent.items high 0 ≡ high
    → Meeting (slice_index_or s.shape.items low Free) (slice_index_or s.shape.items high Free) m
    → (m ≢ Clash → slice_index_or s.shape.items low Free ≢ Free → kept m ≢ Free)
    → ExtraInside (length s.parent.items) (length s.classifier.items) m
    → t.parent.items ≡ slice_set s.parent.items high low → t.shape.items ≡ joined s.shape.items high low (kept m)
    → t.classifier.items ≡ s.classifier.items → t.waiting.items ≡ s.waiting.items
    → Linked s t low high m
put_linked s t low high m p below lt rl rh meet full ins e f g h = record {
  sound = record {
    low = rw e (low_set ps high low (omega arith) lt p.low);
    low_classifiers = rw g p.low_classifiers;
    lengths = rw (e, f) (omega (arith, len, set_length ps high low, p.lengths));
    bare = rw (e, f) bare';
    inside = rw (e, f, g, set_length ps high low) inside';
    waiting = rw (e, h, set_length ps high low) p.waiting;
  };
  node_count = rw e (set_length ps high low);
  classifier_count = rw g refl;
  shaped = λ c n k. rw (e, f) (shaped' c n k);
  extra = rw (e, g, set_length ps high low) ins;
  out = λ a k x.
      unlink ps hs cs ws a low high apart lt ll hl rh (kept m) (Extra m a) (pair_ty a) (rw (e, f, g, h) at k) x;
  back = λ a k q.
      rw (e, f, g, h) (link ps hs cs ws a low high apart lt ll hl rh (kept m) (Extra m a) (pair_ty a) k q);
}
  where
    ps : List ℕ
    ps = s.parent.items

    hs : List Shape
    hs = s.shape.items

    cs : List ℕ
    cs = s.classifier.items

    ws : List Pending
    ws = s.waiting.items

    apart : high ≢ low
    apart = omega arith

    ll : low < length s.shape.items
    ll = omega (arith, p.lengths)

    hl : high < length s.shape.items
    hl = omega (arith, p.lengths)

    pair_ty : (a : Assignment) → Both (slice_index_or s.shape.items low Free) (slice_index_or s.shape.items high Free)
        (kept m) (Extra m a) a
    pair_ty a = record { to = λ y. (meet y a).0; back = λ y. (meet y a).1 }

    len : length (joined s.shape.items high low (kept m)) ≡ length s.shape.items
    len = set_length (slice_set s.shape.items high Free) low (kept m) ∙ set_length s.shape.items high Free

    at_low : slice_index_or (joined s.shape.items high low (kept m)) low Free ≡ kept m
    at_low = get_here (slice_set s.shape.items high Free) low (kept m) Free
        (let q = set_length s.shape.items high Free in omega arith)

    at_high : slice_index_or (joined s.shape.items high low (kept m)) high Free ≡ Free
    at_high = get_other (slice_set s.shape.items high Free) low high (kept m) Free (omega arith)
        ∙ get_here s.shape.items high Free Free hl

    at_rest : (i : ℕ) → low ≢ i → high ≢ i → slice_index_or (joined s.shape.items high low (kept m)) i Free
        ≡ slice_index_or s.shape.items i Free
    at_rest i n o = get_other (slice_set s.shape.items high Free) low i (kept m) Free n ∙ get_other s.shape.items high i
        Free Free o

    bare' : (i : ℕ) → i < length (slice_set s.parent.items high low)
        → slice_index_or (slice_set s.parent.items high low) i 0 ≢ i
        → slice_index_or (joined s.shape.items high low (kept m)) i Free ≡ Free
    bare' i il n = elim (is low i) [
      | same q ↦ absurd (n (rw (← q) (get_other s.parent.items high low low 0 apart ∙ rl)))
      | other o ↦ elim (is high i) [
        | same q ↦ rw (← q) at_high
        | other k ↦ at_rest i o k ∙ p.bare i (let z = set_length s.parent.items high low in omega arith)
            (λ z. n (get_other s.parent.items high i low 0 k ∙ z))
      ]
    ]

    inside' : (i : ℕ) → Inside (length s.parent.items) (length s.classifier.items)
        (slice_index_or (joined s.shape.items high low (kept m)) i Free)
    inside' i = elim (is low i) [
      | same q ↦ rw (← q, at_low) (kept_inside _ _ m ins)
      | other o ↦ elim (is high i) [
        | same q ↦ rw (← q, at_high) tt
        | other k ↦ rw (at_rest i o k) (p.inside i)
      ]
    ]

    shaped' : m ≢ Clash → (n : ℕ) → ((i : ℕ) → n ≤ i → i < length s.parent.items → slice_index_or s.parent.items i 0 ≡ i
        → slice_index_or s.shape.items i Free ≢ Free)
        → (i : ℕ) → n ≤ i → i < length (slice_set s.parent.items high low)
        → slice_index_or (slice_set s.parent.items high low) i 0 ≡ i
        → slice_index_or (joined s.shape.items high low (kept m)) i Free ≢ Free
    shaped' c n k i le il o = elim (is low i) [
      | same q ↦ rw (← q, at_low) (full c (k low (omega arith) (omega arith) rl))
      | other a ↦ elim (is high i) [
        | same q ↦ absurd
            (a (sym (get_here s.parent.items high low 0 lt)
            ∙ ap (λ x. slice_index_or (slice_set s.parent.items high low) x 0) q ∙ o))
        | other b ↦ rw (at_rest i a b)
            (k i le (let z = set_length s.parent.items high low in omega arith)
            (sym (get_other s.parent.items high i low 0 b) ∙ o))
      ]
    ]

-- what two shapes come to: a shape and none
pub free_meets : {x : Shape} (y : Shape) → x ≡ Free → Meeting x y (Keep y)
free_meets y e g a = ((λ p q. (q, tt)), (λ q u. (rw e tt, q)))

pub meets_free : (x : Shape) {y : Shape} → y ≡ Free → Meeting x y (Keep x)
meets_free x e g a = ((λ p q. (p, tt)), (λ p u. (p, rw e tt)))

-- one shape twice
pub meets_same : {x y h : Shape} → x ≡ h → y ≡ h → Meeting x y (Keep x)
meets_same e f g a = ((λ p q. (p, tt)), (λ p u. (p, subst (λ z. Meets z g a) (e ∙ sym f) p)))

-- two shapes of one kind
pub pairs_meet : (l r m s : ℕ)
    → Meeting (Pair l r) (Pair m s) (Two (Pair l r) (record { left = l; right = m }) (record { left = r; right = s }))
pairs_meet l r m s g a = (
  (λ p q. let e : pair_type (a.ty l) (a.ty r) ≡ pair_type (a.ty m) (a.ty s) = sym p ∙ q in (p, (cc, cc))),
  (λ p z. (p, p ∙ rw (z.0, z.1) refl)),
)

pub arrows_meet : (l r m s : ℕ)
    → Meeting (Arrow l r) (Arrow m s)
    (Two (Arrow l r) (record { left = l; right = m }) (record { left = r; right = s }))
arrows_meet l r m s g a = (
  (λ p q. let e : function_type (a.ty l) (a.ty r) ≡ function_type (a.ty m) (a.ty s) = sym p ∙ q in (p, (cc, cc))),
  (λ p z. (p, p ∙ rw (z.0, z.1) refl)),
)

pub codes_meet : (c t d u : ℕ) → Meeting (Code c t) (Code d u) (Classes (Code c t) c d (record { left = t; right = u }))
codes_meet c t d u g a = (
  (λ p q. let e : code_type (a.classifier c) (a.ty t) ≡ code_type (a.classifier d) (a.ty u) = sym p ∙ q in
      (p, (cc, cc))),
  (λ p z. (p, p ∙ rw (z.0, z.1) refl)),
)

pub closed_meet : (t u : ℕ) → Meeting (Closed t) (Closed u) (One (Closed t) (record { left = t; right = u }))
closed_meet t u g a = (
  (λ p q. let e : closed_type (a.ty t) ≡ closed_type (a.ty u) = sym p ∙ q in (p, cc)),
  (λ p z. (p, p ∙ rw z refl)),
)

pub ruleset meetings = (free_meets, meets_free, meets_same, pairs_meet, arrows_meet, codes_meet, closed_meet)
