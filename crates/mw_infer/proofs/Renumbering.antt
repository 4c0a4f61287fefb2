-- Types with new numbers, part by part.
use Rattle.std.proofs.Common.{◌≡◌, ◌≢◌, ◌⊎◌, inl, inr, ℕ, suc, ◌+◌, ◌<◌, ◌≤◌, List, refl, ap, sym}
use Rattle.std.proofs.Common.{◌∙◌, arith}
use Rattle.mw_types.specs.Types.{TypeExpression, int_ty, bool_ty, unknown, pair_ty, function_ty, code_ty, closed_ty}
use Rattle.mw_types.specs.Numbered.{IsNumbered, an_int, a_bool, seen, next, a_pair, a_function, code_seen, code_next}
use Rattle.mw_types.specs.Numbered.{a_closed}
use Rattle.mw_infer.specs.Numbering.{none, number_in, IsOrder, Keeps, Places, renumbered, AreSeen, Renumbers}
use Rattle.mw_infer.specs.declared.renumber.Numbering.{Numbering}

pub Keeps-same : (x : Numbering) → Keeps x x
Keeps-same x = record { kept = λ u h. refl; places = refl }

Keeps-join : {x y z : Numbering} → Keeps x y → Keeps y z → Keeps x z
Keeps-join h k = record {
  kept = λ u p. k.kept u (λ e. p (sym (h.kept u p) ∙ e)) ∙ h.kept u p;
  places = k.places
      ∙ h.places;
}

-- what was seen keeps its new type
kept-type : {p q k l : Numbering} → Keeps p k → Keeps q l → (t : TypeExpression) → AreSeen p.places.items q.places.items
    t → renumbered k.places.items l.places.items t ≡ renumbered p.places.items q.places.items t
kept-type h i int_ty s = refl
kept-type h i bool_ty s = refl
kept-type h i (unknown u) s = ap unknown (h.kept u s)
kept-type h i (pair_ty t r) s = rw (kept-type h i t s.0, kept-type h i r s.1) refl
kept-type h i (function_ty t r) s = rw (kept-type h i t s.0, kept-type h i r s.1) refl
kept-type h i (code_ty c t) s = rw (i.kept c s.0, kept-type h i t s.1) refl
kept-type h i (closed_ty t) s = rw (kept-type h i t s) refl

kept-seen : {p q k l : Numbering} → Keeps p k → Keeps q l → (t : TypeExpression) → AreSeen p.places.items q.places.items
    t → AreSeen k.places.items l.places.items t
kept-seen h i int_ty s = tt
kept-seen h i bool_ty s = tt
kept-seen h i (unknown u) s = λ e. s (sym (h.kept u s) ∙ e)
kept-seen h i (pair_ty t r) s = (kept-seen h i t s.0, kept-seen h i r s.1)
kept-seen h i (function_ty t r) s = (kept-seen h i t s.0, kept-seen h i r s.1)
kept-seen h i (code_ty c t) s = ((λ e. s.0 (sym (i.kept c s.0) ∙ e)), kept-seen h i t s.1)
kept-seen h i (closed_ty t) s = kept-seen h i t s

-- a type without numbers
Renumbers-none : (p q : Numbering) (t : TypeExpression) → IsOrder p → IsOrder q
    → t ≡ renumbered p.places.items q.places.items t → AreSeen p.places.items q.places.items t
    → IsNumbered p.count q.count t p.count q.count → Renumbers p q p q t t
Renumbers-none p q t a b e s n = record {
  unknown_order = a;
  classifier_order = b;
  unknowns = Keeps-same p;
  classifiers = Keeps-same q;
  is = e;
  seen = s;
  numbered = n;
  unknown_count = omega arith;
  classifier_count = omega arith;
}

pub Renumbers-int : (p q : Numbering) → IsOrder p → IsOrder q → Renumbers p q p q int_ty int_ty
Renumbers-int p q a b = Renumbers-none p q int_ty a b refl tt an_int

pub Renumbers-bool : (p q : Numbering) → IsOrder p → IsOrder q → Renumbers p q p q bool_ty bool_ty
Renumbers-bool p q a b = Renumbers-none p q bool_ty a b refl tt a_bool

pub number-next : (a b m n : ℕ) → ((n < a) × (b ≡ a)) ⊎ ((n ≡ a) × (b ≡ a + 1)) → IsNumbered a m (unknown n) b m
number-next a b m n (inl h) = rw h.1 (seen h.0)
number-next a b m n (inr h) = let e : b ≡ suc a = omega (arith, h.1) in rw e (next h.0)

pub code-next : (a b n m k : ℕ) (l : ℕ) (t : TypeExpression) → ((n < a) × (b ≡ a)) ⊎ ((n ≡ a) × (b ≡ a + 1))
    → IsNumbered m b t k l → IsNumbered m a (code_ty n t) k l
code-next a b n m k l t (inl h) i = code_seen h.0 (rw h.1 at i)
code-next a b n m k l t (inr h) i = let e : b ≡ suc a = omega (arith, h.1) in code_next h.0 (rw e at i)

pub count-next : (a b n : ℕ) → ((n < a) × (b ≡ a)) ⊎ ((n ≡ a) × (b ≡ a + 1)) → b ≤ a + 1
count-next a b n (inl h) = omega (arith, h.1)
count-next a b n (inr h) = omega (arith, h.1)

pub Renumbers-unknown : (p q k : Numbering) (u n : ℕ) → IsOrder q → Places p k u n
    → Renumbers p q k q (unknown u) (unknown n)
Renumbers-unknown p q k u n b h = record {
  unknown_order = h.order;
  classifier_order = b;
  unknowns = h.keeps;
  classifiers = Keeps-same q;
  is = ap unknown (sym h.is);
  seen = λ e. h.seen (sym h.is ∙ e);
  numbered = number-next p.count k.count q.count n h.next;
  unknown_count = count-next p.count k.count n h.next;
  classifier_count = omega arith;
}

pub Renumbers-pair : (p q i j k l : Numbering) (s t r w : TypeExpression) → Renumbers p q i j s r
    → Renumbers i j k l t w → Renumbers p q k l (pair_ty s t) (pair_ty r w)
Renumbers-pair p q i j k l s t r w a b = record {
  unknown_order = b.unknown_order;
  classifier_order = b.classifier_order;
  unknowns = Keeps-join a.unknowns b.unknowns;
  classifiers = Keeps-join a.classifiers b.classifiers;
  is = rw (kept-type b.unknowns b.classifiers s a.seen, ← a.is, ← b.is) refl;
  seen = (kept-seen b.unknowns b.classifiers s a.seen, b.seen);
  numbered = a_pair a.numbered b.numbered;
  unknown_count = omega (arith, a.unknown_count, b.unknown_count);
  classifier_count = omega (arith, a.classifier_count, b.classifier_count);
}

pub Renumbers-function : (p q i j k l : Numbering) (s t r w : TypeExpression) → Renumbers p q i j s r
    → Renumbers i j k l t w → Renumbers p q k l (function_ty s t) (function_ty r w)
Renumbers-function p q i j k l s t r w a b = record {
  unknown_order = b.unknown_order;
  classifier_order = b.classifier_order;
  unknowns = Keeps-join a.unknowns b.unknowns;
  classifiers = Keeps-join a.classifiers b.classifiers;
  is = rw (kept-type b.unknowns b.classifiers s a.seen, ← a.is, ← b.is) refl;
  seen = (kept-seen b.unknowns b.classifiers s a.seen, b.seen);
  numbered = a_function a.numbered b.numbered;
  unknown_count = omega (arith, a.unknown_count, b.unknown_count);
  classifier_count = omega (arith, a.classifier_count, b.classifier_count);
}

pub Renumbers-code : (p q j k l : Numbering) (c n : ℕ) (t r : TypeExpression) → Places q j c n → Renumbers p j k l t r
    → Renumbers p q k l (code_ty c t) (code_ty n r)
Renumbers-code p q j k l c n t r h a =
    let m : number_in j.places.items c ≢ none = λ e. h.seen (sym h.is ∙ e) in
    let z : number_in l.places.items c ≡ n = a.classifiers.kept c m ∙ h.is in
    let x = count-next q.count j.count n h.next in
    record {
      unknown_order = a.unknown_order;
      classifier_order = a.classifier_order;
      unknowns = a.unknowns;
      classifiers = Keeps-join h.keeps a.classifiers;
      is = rw (z, ← a.is) refl;
      seen = ((λ e. h.seen (sym z ∙ e)), a.seen);
      numbered = code-next q.count j.count n p.count k.count l.count r h.next a.numbered;
      unknown_count = omega (arith, a.unknown_count);
      classifier_count = omega (arith, a.classifier_count);
    }

pub Renumbers-closed : (p q k l : Numbering) (t r : TypeExpression) → Renumbers p q k l t r
    → Renumbers p q k l (closed_ty t) (closed_ty r)
Renumbers-closed p q k l t r a = record {
  unknown_order = a.unknown_order;
  classifier_order = a.classifier_order;
  unknowns = a.unknowns;
  classifiers = a.classifiers;
  is = rw (← a.is) refl;
  seen = a.seen;
  numbered = a_closed a.numbered;
  unknown_count = omega (arith, a.unknown_count);
  classifier_count = omega (arith, a.classifier_count);
}

-- a list in which nothing was seen
pub record AllNone (xs : List ℕ) : Type 0 where
  pub each : (u : ℕ) → number_in xs u ≡ none

pub ruleset renumbers = (
  Renumbers-int,
  Renumbers-bool,
  Renumbers-unknown,
  Renumbers-pair,
  Renumbers-function,
  Renumbers-code,
  Renumbers-closed,
)
