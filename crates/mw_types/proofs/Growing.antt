-- One more node; nothing else of an assignment matters.
use Rattle.std.proofs.Common.{length-append, ◌≡◌, ◌≢◌, inl, inr, ℕ, zero, suc, ◌+◌, ◌≤◌, ◌<◌, List, [], ◌∷◌, ◌++◌}
use Rattle.std.proofs.Common.{length, refl, ap, sym, subst, ◌∙◌, arith}
use Rattle.std.proofs.Math.ListN.{get_or-eq_default}
use Rattle.std.specs.Prelude.{slice_index_or}
use Rattle.mw_term.specs.Types.{TermType, int_type, bool_type, pair_type, function_type, code_type, closed_type}
use Rattle.mw_types.specs.Equations.{Agree}
use Rattle.mw_types.specs.Grows.{Grew}
use Rattle.mw_types.specs.Types.{Assignment}
use Rattle.mw_types.specs.Forest.{Low}
use Rattle.mw_types.specs.Satisfying.{IsShaped, Meets, Waits, WaitsInside, Means, Inside, Sound}
use Rattle.mw_types.specs.declared.state.Shape.{Shape}
use Rattle.mw_types.specs.declared.state.Shape.TheVariants.{Free, Int, Bool, Pair, Arrow, Code, Closed}
use Rattle.mw_types.specs.declared.state.Pending.{Pending}
use Rattle.mw_types.specs.declared.state.State.{State}
use Rattle.mw_types.proofs.Lists.{same, other, is}
use Rattle.mw_types.proofs.General.{in_or_out}

pub get_left : {A : Type 0} (xs : List A) (y d : A) (i : ℕ) → i < length xs → slice_index_or (xs ++ y ∷ []) i d
    ≡ slice_index_or xs i d
get_left [] y d i lt = absurd (omega arith)
get_left (x ∷ xs) y d zero lt = refl
get_left (x ∷ xs) y d (suc i) lt = get_left xs y d i (omega arith)

pub get_last : {A : Type 0} (xs : List A) (y d : A) (i : ℕ) → i ≡ length xs → slice_index_or (xs ++ y ∷ []) i d ≡ y
get_last [] y d zero e = refl
get_last [] y d (suc i) e = absurd (omega arith)
get_last (x ∷ xs) y d zero e = absurd (omega arith)
get_last (x ∷ xs) y d (suc i) e = get_last xs y d i (omega arith)

-- what holds of each element, with one more
pub each_more : {A : Type 0} (P : ℕ → A → Type 0) (xs : List A) (y d : A) (n : ℕ) → length xs ≡ n
    → ((i : ℕ) → i < n → P i (slice_index_or xs i d)) → P n y → (i : ℕ) → i < n + 1
    → P i (slice_index_or (xs ++ y ∷ []) i d)
each_more P xs y d n e f p i lt = elim (is i n) [
  | same q ↦ rw (get_last xs y d i (q ∙ sym e), q) p
  | other o ↦ rw (get_left xs y d i (omega arith)) (f i (omega arith))
]

-- assignments that are one: on fewer unknowns, and one after another
pub agree_less : {k l n m : ℕ} {a b : Assignment} → n ≤ k → m ≤ l → Agree k l a b → Agree n m a b
agree_less p q h =
    record { types = λ u lt. h.types u (omega arith); classifiers = λ c lt. h.classifiers c (omega arith) }

pub agree_then : {n m : ℕ} {a b c : Assignment} → Agree n m a b → Agree n m b c → Agree n m a c
agree_then p q = record {
  types = λ u lt. p.types u lt ∙ q.types u lt;
  classifiers = λ d lt. p.classifiers d lt ∙ q.classifiers d lt;
}

meets_agree : {n m : ℕ} {a b : Assignment} → Agree n m a b → (h : Shape) → Inside n m h → (g : TermType) → Meets h g a
    → Meets h g b
meets_agree k Free i g h = tt
meets_agree k Int i g h = h
meets_agree k Bool i g h = h
meets_agree k (Pair l r) i g h = rw (← k.types l i.0, ← k.types r i.1) h
meets_agree k (Arrow l r) i g h = rw (← k.types l i.0, ← k.types r i.1) h
meets_agree k (Code c t) i g h = rw (← k.classifiers c i.0, ← k.types t i.1) h
meets_agree k (Closed t) i g h = rw (← k.types t i) h

waits_agree : {n m : ℕ} {a b : Assignment} → Agree n m a b → (ws : List Pending) → WaitsInside n ws → Waits ws a
    → Waits ws b
waits_agree k [] i h = tt
waits_agree k (w ∷ ws) i h = (sym (k.types w.left i.0) ∙ h.0 ∙ k.types w.right i.1, waits_agree k ws i.2 h.1)

-- a state speaks of its nodes alone
pub means_agree : (s : State) (a b : Assignment) → Sound s → Agree (length s.parent.items) (length s.classifier.items) a
    b → Means s a → Means s b
means_agree s a b p k h = record {
  types = λ i lt. sym (k.types i lt) ∙ h.types i lt ∙ k.types (slice_index_or s.parent.items i 0)
      (let q = p.low i lt in omega arith);
  classifiers = λ c lt. sym (k.classifiers c lt) ∙ h.classifiers c lt
      ∙ k.classifiers (slice_index_or s.classifier.items c 0) (let q = p.low_classifiers c lt in omega arith);
  shapes = λ i. elim (in_or_out s.parent.items i) [
    | inl lt ↦ rw (← k.types i lt) (meets_agree k (slice_index_or s.shape.items i Free) (p.inside i) (a.ty i)
        (h.shapes i))
    | inr le ↦ rw (get_or-eq_default s.shape.items Free {n = i} (let q = p.lengths in omega arith)) tt
  ];
  waits = waits_agree k s.waiting.items p.waiting h.waits;
}

inside_more : (n k m : ℕ) (h : Shape) → n ≤ k → Inside n m h → Inside k m h
inside_more n k m (Code c t) le h = omega arith
inside_more n k m s le h = omega arith

waits_more : (n k : ℕ) (ws : List Pending) → n ≤ k → WaitsInside n ws → WaitsInside k ws
waits_more n k [] le h = tt
waits_more n k (w ∷ ws) le h = (omega arith, omega arith, waits_more n k ws le h.2)

-- the type that a shape asks for
shape_type : Assignment → Shape → TermType
shape_type a Free = int_type
shape_type a Int = int_type
shape_type a Bool = bool_type
shape_type a (Pair l r) = pair_type (a.ty l) (a.ty r)
shape_type a (Arrow l r) = function_type (a.ty l) (a.ty r)
shape_type a (Code c t) = code_type (a.classifier c) (a.ty t)
shape_type a (Closed t) = closed_type (a.ty t)

shape_meets : (a : Assignment) (h : Shape) → Meets h (shape_type a h) a
unfolding shape_type
shape_meets a Free = tt
shape_meets a h = refl

abbrev upto : {A : Type 0} → ℕ → (ℕ → A) → A → ℕ → A
upto zero f x u = x
upto (suc o) f x zero = f zero
upto (suc o) f x (suc u) = upto o (λ v. f (suc v)) x u

upto_below : {A : Type 0} (o : ℕ) (f : ℕ → A) (x : A) (u : ℕ) → u < o → f u ≡ upto o f x u
upto_below zero f x u lt = absurd (omega arith)
upto_below (suc o) f x zero lt = refl
upto_below (suc o) f x (suc u) lt = upto_below o (λ v. f (suc v)) x u (omega arith)

upto_at : {A : Type 0} (o : ℕ) (f : ℕ → A) (x : A) → upto o f x o ≡ x
upto_at zero f x = refl
upto_at (suc o) f x = upto_at o (λ v. f (suc v)) x

-- with one more node the state means what it meant, where the node's type is one of its shape
node_means : (s t : State) (h : Shape) → Sound s
    → t.parent.items ≡ s.parent.items ++ length s.parent.items ∷ [] → t.shape.items ≡ s.shape.items ++ h ∷ []
    → t.classifier.items ≡ s.classifier.items → t.waiting.items ≡ s.waiting.items
    → (a : Assignment) → Means s a → Meets h (a.ty (length s.parent.items)) a → Means t a
node_means s t h p e f g w a k m = record {
  types = rw e (λ i lt. each_more (λ j x. a.ty j ≡ a.ty x) s.parent.items n 0 n refl k.types refl i
      (omega (arith, len)));
  classifiers = rw g k.classifiers;
  shapes = rw f (λ i. elim (in_or_out s.shape.items i) [
    | inl lt ↦ rw (get_left s.shape.items h Free i lt) (k.shapes i)
    | inr le ↦ elim (is i (length s.shape.items)) [
      | same q ↦ rw (get_last s.shape.items h Free i q, q, p.lengths) m
      | other o ↦ rw (get_or-eq_default (s.shape.items ++ h ∷ []) Free {n = i}
          (let x = length-append s.shape.items (h ∷ []) in omega arith)) tt
    ]
  ]);
  waits = rw w k.waits;
}
  where
    n : ℕ
    n = length s.parent.items

    len : length (s.parent.items ++ length s.parent.items ∷ []) ≡ length s.parent.items + 1
    len = length-append s.parent.items (length s.parent.items ∷ [])

pub node_grew : (s t : State) (h : Shape) → Sound s → Inside (length s.parent.items) (length s.classifier.items) h
    → t.parent.items ≡ s.parent.items ++ length s.parent.items ∷ [] → t.shape.items ≡ s.shape.items ++ h ∷ []
    → t.classifier.items ≡ s.classifier.items → t.waiting.items ≡ s.waiting.items
    → Grew s t (λ a. Meets h (a.ty (length s.parent.items)) a)
node_grew s t h p ins e f g w = record {
  sound = t_sound;
  long = rw e (omega (arith, len));
  classifier_count = ap length g;
  out = λ a k. (back a k, rw (get_last s.shape.items h Free n (sym p.lengths)) at (rw f at (k.shapes n)));
  more = λ a k. let b : Assignment = record { ty = upto n a.ty (shape_type a h); classifier = a.classifier } in
      let ag : Agree n (length s.classifier.items) a b =
      record { types = λ u lt. upto_below n a.ty (shape_type a h) u lt; classifiers = λ c lt. refl } in (
        b,
        ag,
        node_means s t h p e f g w b (means_agree s a b p ag k)
            (rw (upto_at n a.ty (shape_type a h)) (meets_agree ag h ins (shape_type a h) (shape_meets a h))),
      );
}
  where
    n : ℕ
    n = length s.parent.items

    len : length (s.parent.items ++ length s.parent.items ∷ []) ≡ length s.parent.items + 1
    len = length-append s.parent.items (length s.parent.items ∷ [])

    shape_len : length (s.shape.items ++ h ∷ []) ≡ length s.shape.items + 1
    shape_len = length-append s.shape.items (h ∷ [])

    low : Low (s.parent.items ++ n ∷ [])
    low i lt = each_more (λ j x. x ≤ j) s.parent.items n 0 n refl p.low (omega arith) i (omega (arith, len))

    bare : (i : ℕ) → i < length (s.parent.items ++ n ∷ []) → slice_index_or (s.parent.items ++ n ∷ []) i 0 ≢ i
        → slice_index_or (s.shape.items ++ h ∷ []) i Free ≡ Free
    bare i lt r = elim (is i n) [
      | same q ↦ absurd (r (get_last s.parent.items n 0 i q ∙ sym q))
      | other o ↦ get_left s.shape.items h Free i (omega (arith, len, p.lengths)) ∙ p.bare i (omega (arith, len))
          (λ z. r (get_left s.parent.items n 0 i (omega (arith, len)) ∙ z))
    ]

    inside : (i : ℕ) → Inside (length (s.parent.items ++ n ∷ [])) (length s.classifier.items)
        (slice_index_or (s.shape.items ++ h ∷ []) i Free)
    inside i = elim (in_or_out s.shape.items i) [
      | inl lt ↦ rw (get_left s.shape.items h Free i lt)
          (inside_more n _ (length s.classifier.items) (slice_index_or s.shape.items i Free) (omega (arith, len))
          (p.inside i))
      | inr le ↦ elim (is i (length s.shape.items)) [
        | same q ↦ rw (get_last s.shape.items h Free i q)
            (inside_more n _ (length s.classifier.items) h (omega (arith, len)) ins)
        | other o ↦ rw (get_or-eq_default (s.shape.items ++ h ∷ []) Free {n = i} (omega (arith, shape_len))) tt
      ]
    ]

    t_sound : Sound t
    t_sound = record {
      low = rw e low;
      low_classifiers = rw g p.low_classifiers;
      lengths = rw (e, f) (omega (arith, len, shape_len, p.lengths));
      bare = rw (e, f) bare;
      inside = rw (e, f, g) inside;
      waiting = rw (e, w) (waits_more n _ s.waiting.items (omega (arith, len)) p.waiting);
    }

    back : (a : Assignment) → Means t a → Means s a
    back a k =
        let ty = rw e at k.types in
        let sh = rw f at k.shapes in
        record {
          types = λ i lt. ty i (omega (arith, len)) ∙ ap a.ty (get_left s.parent.items n 0 i lt);
          classifiers = rw g at k.classifiers;
          shapes = λ i. elim (in_or_out s.shape.items i) [
            | inl lt ↦ rw (← get_left s.shape.items h Free i lt) (sh i)
            | inr le ↦ rw (get_or-eq_default s.shape.items Free {n = i} le) tt
          ];
          waits = rw w at k.waits;
        }

pub grew_then : {s t u : State} {X Y : Assignment → Type 0} → Grew s t X → Grew t u Y → Grew s u (λ a. X a × Y a)
grew_then p q = record {
  sound = q.sound;
  long = omega (arith, p.long, q.long);
  classifier_count = q.classifier_count ∙ p.classifier_count;
  out = λ a h. let y = q.out a h in let x = p.out a y.0 in (x.0, (x.1, y.1));
  more = λ a h. let x = p.more a h in let y = q.more x.0 x.2 in
      (y.0, agree_then x.1 (agree_less p.long (omega (arith, p.classifier_count)) y.1), y.2);
}

pub map_grew : {s t : State} {X Y : Assignment → Type 0} → ((a : Assignment) → X a → Y a) → Grew s t X → Grew s t Y
map_grew f p = record {
  sound = p.sound;
  long = p.long;
  classifier_count = p.classifier_count;
  out = λ a h. let x =
      p.out a h in (x.0, f a x.1);
  more = p.more;
}

-- a node over two nodes, and over one
pub add_two : {X Y Z W : Assignment → Type 0} {s t u v : State} → Grew s t X → Grew t u Y
    → ((a : Assignment) → X a → Y a → Z a → W a) → Grew u v Z → Grew s v W
add_two p q f r = map_grew (λ a x. f a x.0.0 x.0.1 x.1) (grew_then (grew_then p q) r)

pub add_one : {X Y W : Assignment → Type 0} {s t u : State} → Grew s t X
    → ((a : Assignment) → X a → Y a → W a) → Grew t u Y → Grew s u W
add_one p f q = map_grew (λ a x. f a x.0 x.1) (grew_then p q)

pub grew_at : {s t : State} (h : Shape) (n i : ℕ) → i ≡ n → Grew s t (λ a. Meets h (a.ty n) a)
    → Grew s t (λ a. Meets h (a.ty i) a)
grew_at {s = s} {t = t} h n i e g = subst (λ k. Grew s t (λ a. Meets h (a.ty k) a)) (sym e) g

-- a node that has a shape
pub node_shaped : (ps : List ℕ) (hs : List Shape) (h : Shape) → length hs ≡ length ps → h ≢ Free → (n : ℕ)
    → IsShaped n ps hs → IsShaped n (ps ++ length ps ∷ []) (hs ++ h ∷ [])
node_shaped ps hs h e f n k i le lt o = elim (is i (length ps)) [
  | same q ↦ rw (get_last hs h Free i (q ∙ sym e)) f
  | other m ↦ let il : i < length ps = let z = length-append ps (length ps ∷ []) in omega arith in
      rw (get_left hs h Free i (omega arith)) (k i le il (sym (get_left ps (length ps) 0 i il) ∙ o))
]

pub node_shaped_at : (ps qs : List ℕ) (hs gs : List Shape) (h : Shape) → qs ≡ ps ++ length ps ∷ [] → gs ≡ hs ++ h ∷ []
    → length hs ≡ length ps → h ≢ Free → (n : ℕ) → IsShaped n ps hs → IsShaped n qs gs
node_shaped_at ps qs hs gs h e f l m n k = rw (e, f) (node_shaped ps hs h l m n k)
