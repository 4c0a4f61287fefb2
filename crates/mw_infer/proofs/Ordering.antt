-- Each type has the instances of one with its numbers in order.
use Rattle.std.proofs.Common.{◌≡◌, ◌≢◌, ◌⊎◌, inl, inr, ℕ, zero, suc, ◌+◌, ◌<◌, ◌≤◌, refl, ap, sym, ◌∙◌, arith}
use Rattle.mw_types.specs.Types.{TypeExpression, int_ty, bool_ty, unknown, pair_ty, function_ty, code_ty, closed_ty}
use Rattle.mw_types.specs.Types.{Within, Assignment, value, nodes}
use Rattle.mw_types.specs.Equations.{Agree}
use Rattle.mw_types.proofs.Lists.{Is, same, other, is}
use Rattle.mw_types.proofs.Verdicts.{value_agree}
use Rattle.mw_infer.specs.Schemes.{Scheme}
use Rattle.mw_types.specs.Numbered.{IsNumbered, an_int, a_bool, a_pair, a_function, a_closed}
use Rattle.mw_infer.specs.Numbering.{IsRenumbering}
use Rattle.mw_infer.proofs.Renumbering.{number-next, code-next, count-next}
use Rattle.mw_infer.proofs.SameInstances.{reaches}
use Rattle.mw_infer.proofs.Within.{Within-more}

-- the new numbers below a count: the old number of each, and the new number of each old one
record Numbers : Type 0 where
  count : ℕ
  old : ℕ → ℕ
  new : ℕ → ℕ
  back : (i : ℕ) → i < count → new (old i) ≡ i

-- there are more, and those that were there keep their old numbers
record Grows (x y : Numbers) : Type 0 where
  count : x.count ≤ y.count
  kept : (i : ℕ) → i < x.count → y.old i ≡ x.old i

Grows-same : (x : Numbers) → Grows x x
Grows-same x = record { count = omega arith; kept = λ i lt. refl }

Grows-join : {x y z : Numbers} → Grows x y → Grows y z → Grows x z
Grows-join h k = let p = h.count in let q = k.count in
    record { count = omega arith; kept = λ i lt. k.kept i (omega arith) ∙ h.kept i lt }

-- an old number has a new one, or none
data Place (n : ℕ) (old : ℕ → ℕ) (u : ℕ) : Type 0 where
  placed : (i : ℕ) → i < n → old i ≡ u → Place n old u
  unplaced : ((i : ℕ) → i < n → old i ≢ u) → Place n old u

place-next : (n : ℕ) (old : ℕ → ℕ) (u : ℕ) → Place n old u → Is (old n) u → Place (suc n) old u
place-next n old u (placed i lt e) d = placed i (omega arith) e
place-next n old u (unplaced f) (same e) = placed n (omega arith) e
place-next n old u (unplaced f) (other k) =
    unplaced (λ i lt. elim (is i n) [ same e ↦ rw e k | other o ↦ f i (omega arith) ])

place : (n : ℕ) (old : ℕ → ℕ) (u : ℕ) → Place n old u
place zero old u = unplaced (λ i lt. absurd (omega arith))
place (suc n) old u = place-next n old u (place n old u) (is (old n) u)

-- one of two numbers
abbrev choose : {i j : ℕ} → Is i j → ℕ → ℕ → ℕ
choose (same e) a b = a
choose (other n) a b = b

choose-same : {i j : ℕ} (d : Is i j) (a b : ℕ) → i ≡ j → choose d a b ≡ a
choose-same (same e) a b p = refl
choose-same (other n) a b p = absurd (n p)

choose-other : {i j : ℕ} (d : Is i j) (a b : ℕ) → i ≢ j → choose d a b ≡ b
choose-other (same e) a b n = absurd (n e)
choose-other (other k) a b n = refl

-- with the next new number
back-next : (x : Numbers) (u : ℕ) → ((i : ℕ) → i < x.count → x.old i ≢ u) → (i : ℕ) → i < x.count + 1
    → (d : Is i x.count) → choose (is (choose d u (x.old i)) u) x.count (x.new (choose d u (x.old i))) ≡ i
back-next x u f i lt (same e) = choose-same (is u u) x.count (x.new u) refl ∙ sym e
back-next x u f i lt (other n) = let le : i < x.count = omega arith in choose-other (is (x.old i) u) x.count
    (x.new (x.old i)) (f i le) ∙ x.back i le

abbrev with_next : (x : Numbers) (u : ℕ) → ((i : ℕ) → i < x.count → x.old i ≢ u) → Numbers
with_next x u f = record {
  count = x.count + 1;
  old = λ i. choose (is i x.count) u (x.old i);
  new = λ v. choose (is v u) x.count (x.new v);
  back = λ i lt. back-next x u f i lt (is i x.count);
}

-- the old number u has the new number n: it had it, or it is the next one
record Takes (x y : Numbers) (u n : ℕ) : Type 0 where
  grows : Grows x y
  is : y.old n ≡ u
  next : ((n < x.count) × (y.count ≡ x.count)) ⊎ ((n ≡ x.count) × (y.count ≡ x.count + 1))

number : (x : Numbers) (u : ℕ) → (y : Numbers) × (n : ℕ) × Takes x y u n
number x u = go (place x.count x.old u)
  where
    go : Place x.count x.old u → (y : Numbers) × (n : ℕ) × Takes x y u n
    go (placed i lt e) = (x, i, record { grows = Grows-same x; is = e; next = inl (lt, refl) })
    go (unplaced f) = (
      with_next x u f,
      x.count,
      record {
        grows = record {
          count = omega arith;
          kept = λ i lt. choose-other (is i x.count) u (x.old i) (λ e. omega arith);
        };
        is = choose-same (is x.count x.count) u (x.old x.count) refl;
        next = inr (refl, refl);
      },
    )

taken-below : (a b n : ℕ) → ((n < a) × (b ≡ a)) ⊎ ((n ≡ a) × (b ≡ a + 1)) → n < b
taken-below a b n (inl h) = omega (arith, h.0, h.1)
taken-below a b n (inr h) = omega (arith, h.0, h.1)

-- the type with other numbers
abbrev renamed : (f g : ℕ → ℕ) → TypeExpression → TypeExpression
renamed f g int_ty = int_ty
renamed f g bool_ty = bool_ty
renamed f g (unknown u) = unknown (f u)
renamed f g (pair_ty s t) = pair_ty (renamed f g s) (renamed f g t)
renamed f g (function_ty s t) = function_ty (renamed f g s) (renamed f g t)
renamed f g (code_ty c t) = code_ty (g c) (renamed f g t)
renamed f g (closed_ty t) = closed_ty (renamed f g t)

renamed-kept : {x y k l : Numbers} → Grows x k → Grows y l → (r : TypeExpression) → Within x.count y.count r
    → renamed k.old l.old r ≡ renamed x.old y.old r
renamed-kept h i int_ty w = refl
renamed-kept h i bool_ty w = refl
renamed-kept h i (unknown u) w = ap unknown (h.kept u w)
renamed-kept h i (pair_ty s t) w = rw (renamed-kept h i s w.0, renamed-kept h i t w.1) refl
renamed-kept h i (function_ty s t) w = rw (renamed-kept h i s w.0, renamed-kept h i t w.1) refl
renamed-kept h i (code_ty c t) w = rw (i.kept c w.0, renamed-kept h i t w.1) refl
renamed-kept h i (closed_ty t) w = rw (renamed-kept h i t w) refl

value-renamed : (b : Assignment) (f g : ℕ → ℕ) (r : TypeExpression)
    → value (record { ty = λ i. b.ty (f i); classifier = λ c. b.classifier (g c) }) r ≡ value b (renamed f g r)
value-renamed b f g int_ty = refl
value-renamed b f g bool_ty = refl
value-renamed b f g (unknown u) = refl
value-renamed b f g (pair_ty s t) = rw (value-renamed b f g s, value-renamed b f g t) refl
value-renamed b f g (function_ty s t) = rw (value-renamed b f g s, value-renamed b f g t) refl
value-renamed b f g (code_ty c t) = rw (value-renamed b f g t) refl
value-renamed b f g (closed_ty t) = rw (value-renamed b f g t) refl

-- a type's numbers, read from left to right after others
record Ordered (p q : Numbers) (t : TypeExpression) : Type 0 where
  k : Numbers
  l : Numbers
  type : TypeExpression
  unknowns : Grows p k
  classifiers : Grows q l
  is : renamed k.old l.old type ≡ t
  numbered : IsNumbered p.count q.count type k.count l.count
  unknown_count : k.count ≤ p.count + nodes t
  classifier_count : l.count ≤ q.count + nodes t

-- the numbers of two types
first-kept : (p q : Numbers) (s t : TypeExpression) (x : Ordered p q s) (y : Ordered x.k x.l t)
    → renamed y.k.old y.l.old x.type ≡ s
first-kept p q s t x y = renamed-kept y.unknowns y.classifiers x.type (reaches x.numbered).within ∙ x.is

-- a type of two parts, from theirs
ordered-both : (p q : Numbers) (s t whole : TypeExpression) (x : Ordered p q s) (y : Ordered x.k x.l t)
    (type : TypeExpression)
    → renamed y.k.old y.l.old type ≡ whole → IsNumbered p.count q.count type y.k.count y.l.count → nodes s + nodes t
    ≤ nodes whole → Ordered p q whole
ordered-both p q s t whole x y type e f le = record {
  k = y.k;
  l = y.l;
  type = type;
  unknowns = Grows-join x.unknowns y.unknowns;
  classifiers = Grows-join x.classifiers y.classifiers;
  is = e;
  numbered = f;
  unknown_count = omega (arith, x.unknown_count, y.unknown_count);
  classifier_count = omega (arith, x.classifier_count, y.classifier_count);
}

-- a type without numbers
ordered-none : (p q : Numbers) (t : TypeExpression) → renamed p.old q.old t ≡ t
    → IsNumbered p.count q.count t p.count q.count → Ordered p q t
ordered-none p q t e f = record {
  k = p;
  l = q;
  type = t;
  unknowns = Grows-same p;
  classifiers = Grows-same q;
  is = e;
  numbered = f;
  unknown_count = omega arith;
  classifier_count = omega arith;
}

ordered : (p q : Numbers) (t : TypeExpression) → Ordered p q t
ordered p q int_ty = ordered-none p q int_ty refl an_int
ordered p q bool_ty = ordered-none p q bool_ty refl a_bool
ordered p q (unknown u) =
    let x = number p u in
    record {
      k = x.0;
      l = q;
      type = unknown x.1;
      unknowns = x.2.grows;
      classifiers = Grows-same q;
      is = ap unknown x.2.is;
      numbered = number-next p.count x.0.count q.count x.1 x.2.next;
      unknown_count = count-next p.count x.0.count x.1 x.2.next;
      classifier_count = omega arith;
    }
ordered p q (pair_ty s t) =
    let x = ordered p q s in
    let y = ordered x.k x.l t in
    ordered-both p q s t _ x y (pair_ty x.type y.type) (rw (first-kept p q s t x y, y.is) refl)
    (a_pair x.numbered y.numbered) (omega arith)
ordered p q (function_ty s t) =
    let x = ordered p q s in
    let y = ordered x.k x.l t in
    ordered-both p q s t _ x y (function_ty x.type y.type) (rw (first-kept p q s t x y, y.is) refl)
    (a_function x.numbered y.numbered) (omega arith)
ordered p q (code_ty c t) =
    let x = number q c in
    let y = ordered p x.0 t in
    let z : y.l.old x.1 ≡ c = y.classifiers.kept x.1 (taken-below q.count x.0.count x.1 x.2.next) ∙ x.2.is in
    let n = count-next q.count x.0.count x.1 x.2.next in
    record {
      k = y.k;
      l = y.l;
      type = code_ty x.1 y.type;
      unknowns = y.unknowns;
      classifiers = Grows-join x.2.grows y.classifiers;
      is = rw (z, y.is) refl;
      numbered = code-next q.count x.0.count x.1 p.count y.k.count y.l.count y.type x.2.next y.numbered;
      unknown_count = omega (arith, y.unknown_count);
      classifier_count = omega (arith, y.classifier_count);
    }
ordered p q (closed_ty t) =
    let x = ordered p q t in
    record {
      k = x.k;
      l = x.l;
      type = closed_ty x.type;
      unknowns = x.unknowns;
      classifiers = x.classifiers;
      is = rw x.is refl;
      numbered = a_closed x.numbered;
      unknown_count = omega (arith, x.unknown_count);
      classifier_count = omega (arith, x.classifier_count);
    }

abbrev no_numbers : Numbers
no_numbers = record { count = 0; old = λ i. i; new = λ i. i; back = λ i lt. refl }

renumbering-of : (t : TypeExpression) → nodes t ≤ 10000 → (o : Ordered no_numbers no_numbers t)
    → IsRenumbering t (record { unknowns = o.k.count; classifiers = o.l.count; type = o.type })
renumbering-of t small o = record {
  in_order = o.numbered;
  instances = λ b. (
    record { ty = λ i. b.ty (o.k.old i); classifier = λ c. b.classifier (o.l.old c) },
    value-renamed b o.k.old o.l.old o.type ∙ ap (λ r. value b r) o.is,
  );
  back = λ d.
      let b : Assignment = record { ty = λ u. d.ty (o.k.new u); classifier = λ c. d.classifier (o.l.new c) } in
      let a : Assignment = record { ty = λ i. b.ty (o.k.old i); classifier = λ c. b.classifier (o.l.old c) } in
      let h : Agree o.k.count o.l.count a d =
      record { types = λ i lt. ap d.ty (o.k.back i lt); classifiers = λ c lt. ap d.classifier (o.l.back c lt) } in (
        b,
        sym (ap (λ r. value b r) o.is) ∙ sym (value-renamed b o.k.old o.l.old o.type)
            ∙ value_agree h o.type (reaches o.numbered).within,
      );
  unknowns = omega (arith, o.unknown_count);
  classifiers = omega (arith, o.classifier_count);
}

-- a scheme with its numbers in order that has the instances of the type
pub in_order : (t : TypeExpression) → nodes t ≤ 10000 → (s : Scheme) × IsRenumbering t s
in_order t small = let o = ordered no_numbers no_numbers t in
    (record { unknowns = o.k.count; classifiers = o.l.count; type = o.type }, renumbering-of t small o)

-- numbers above all that the type names
abbrev pub reach : TypeExpression → ℕ
reach int_ty = 0
reach bool_ty = 0
reach (unknown u) = u + 1
reach (pair_ty s t) = reach s + reach t
reach (function_ty s t) = reach s + reach t
reach (code_ty c t) = c + 1 + reach t
reach (closed_ty t) = reach t

within-both : (s t : TypeExpression) → Within (reach s) (reach s) s → Within (reach t) (reach t) t
    → Within (reach s + reach t) (reach s + reach t) s × Within (reach s + reach t) (reach s + reach t) t
within-both s t h i = (Within-more (omega arith) (omega arith) s h, Within-more (omega arith) (omega arith) t i)

pub Within-reach : (t : TypeExpression) → Within (reach t) (reach t) t
Within-reach int_ty = tt
Within-reach bool_ty = tt
Within-reach (unknown u) = omega arith
Within-reach (pair_ty s t) = within-both s t (Within-reach s) (Within-reach t)
Within-reach (function_ty s t) = within-both s t (Within-reach s) (Within-reach t)
Within-reach (code_ty c t) = (omega arith, Within-more (omega arith) (omega arith) t (Within-reach t))
Within-reach (closed_ty t) = Within-reach t
