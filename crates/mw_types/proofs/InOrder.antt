-- Two types whose numbers are in order, each of which assignments make of the other, are one.
use Rattle.std.proofs.Common.{◌≡◌, ℕ, zero, suc, ◌<◌, refl, ap, sym, ◌∙◌, arith}
use Rattle.mw_term.specs.Types.{TermType, int_type, pair_type, IsPlain}
use Rattle.mw_types.specs.Types.{TypeExpression, int_ty, bool_ty, unknown, pair_ty, function_ty, code_ty, closed_ty}
use Rattle.mw_types.specs.Types.{Assignment, value}
use Rattle.mw_types.specs.Numbered.{IsNumbered, an_int, a_bool, seen, next, a_pair, a_function, code_seen, code_next}
use Rattle.mw_types.specs.Numbered.{a_closed}
use Rattle.mw_types.proofs.Smallest.{least}

-- what an assignment of plain types makes of the first type, some assignment makes of the second
abbrev pub Includes : TypeExpression → TypeExpression → Type 0
Includes s t = (b : Assignment) → ((u : ℕ) → IsPlain (b.ty u)) → (d : Assignment) × (value b s ≡ value d t)

-- a plain type for each number, another for each, and none of them a word
chain : ℕ → TermType
chain zero = int_type
chain (suc u) = pair_type int_type (chain u)

abbrev tag : ℕ → TermType
tag u = pair_type int_type (chain u)

chain-one : (u v : ℕ) → chain u ≡ chain v → u ≡ v
unfolding chain
chain-one zero zero e = refl
chain-one zero (suc v) e = absurd (cc)
chain-one (suc u) zero e = absurd (cc)
chain-one (suc u) (suc v) e = ap suc (chain-one u v (cc))

tag-one : (u v : ℕ) → tag u ≡ tag v → u ≡ v
tag-one u v e = chain-one u v (cc)

chain-plain : (u : ℕ) → IsPlain (chain u)
unfolding chain
chain-plain zero = tt
chain-plain (suc u) = (tt, chain-plain u)

tag-plain : (u : ℕ) → IsPlain (tag u)
tag-plain u = (tt, chain-plain u)

abbrev tagged : Assignment
tagged = record { ty = tag; classifier = λ c. c }

-- each of two types is the other under least and tagged
record Tests (f g d e : Assignment) (s t : TypeExpression) : Type 0 where
  least_of : value least s ≡ value f t
  least_by : value least t ≡ value g s
  tagged_of : value tagged s ≡ value d t
  tagged_by : value tagged t ≡ value e s

-- then they have the same form, and unknowns at the same places
data Alike : TypeExpression → TypeExpression → Type 0 where
  ints : Alike int_ty int_ty
  bools : Alike bool_ty bool_ty
  unknowns : {u v : ℕ} → Alike (unknown u) (unknown v)
  pairs : {s t p q : TypeExpression} → Alike s p → Alike t q → Alike (pair_ty s t) (pair_ty p q)
  functions : {s t p q : TypeExpression} → Alike s p → Alike t q → Alike (function_ty s t) (function_ty p q)
  codes : {c b : ℕ} {t q : TypeExpression} → Alike t q → Alike (code_ty c t) (code_ty b q)
  closed : {t q : TypeExpression} → Alike t q → Alike (closed_ty t) (closed_ty q)

alike : (f g d e : Assignment) (s t : TypeExpression) → Tests f g d e s t → Alike s t
alike f g d e int_ty int_ty h = ints
alike f g d e bool_ty bool_ty h = bools
alike f g d e (unknown u) (unknown v) h = unknowns
alike f g d e (pair_ty s t) (pair_ty p q) h =
    pairs (alike f g d e s p (record { least_of = cc; least_by = cc; tagged_of = cc; tagged_by = cc }))
    (alike f g d e t q (record { least_of = cc; least_by = cc; tagged_of = cc; tagged_by = cc }))
alike f g d e (function_ty s t) (function_ty p q) h =
    functions (alike f g d e s p (record { least_of = cc; least_by = cc; tagged_of = cc; tagged_by = cc }))
    (alike f g d e t q (record { least_of = cc; least_by = cc; tagged_of = cc; tagged_by = cc }))
alike f g d e (code_ty c t) (code_ty b q) h =
    codes (alike f g d e t q (record { least_of = cc; least_by = cc; tagged_of = cc; tagged_by = cc }))
alike f g d e (closed_ty t) (closed_ty q) h =
    closed (alike f g d e t q (record { least_of = cc; least_by = cc; tagged_of = cc; tagged_by = cc }))
alike f g d e s t h = absurd (cc)

-- the numbers below n and m stand for themselves under d and e
record Settled (d e : Assignment) (n m : ℕ) : Type 0 where
  types_of : (u : ℕ) → u < n → d.ty u ≡ tag u
  types_by : (u : ℕ) → u < n → e.ty u ≡ tag u
  classifiers_of : (c : ℕ) → c < m → d.classifier c ≡ c
  classifiers_by : (c : ℕ) → c < m → e.classifier c ≡ c

pub data LowOrLast (n u : ℕ) : Type 0 where
  low : u < n → LowOrLast n u
  last : u ≡ n → LowOrLast n u

pub low_or_last : (n u : ℕ) → u < suc n → LowOrLast n u
low_or_last zero zero h = last refl
low_or_last zero (suc u) h = absurd (omega arith)
low_or_last (suc n) zero h = low (omega arith)
low_or_last (suc n) (suc u) h = elim (low_or_last n u (omega arith))
    [ low p ↦ low (omega arith) | last p ↦ last (ap suc p) ]

settled-type : {d e : Assignment} {n m : ℕ} → d.ty n ≡ tag n → e.ty n ≡ tag n → Settled d e n m → Settled d e (suc n) m
settled-type {d = d} {e = e} {n = n} p q h = record {
  types_of = λ u lt. elim (low_or_last n u lt) [ low i ↦ h.types_of u i | last i ↦ rw i p ];
  types_by = λ u lt. elim (low_or_last n u lt) [ low i ↦ h.types_by u i | last i ↦ rw i q ];
  classifiers_of = h.classifiers_of;
  classifiers_by = h.classifiers_by;
}

settled-classifier : {d e : Assignment} {n m : ℕ} → d.classifier m ≡ m → e.classifier m ≡ m → Settled d e n m
    → Settled d e n (suc m)
settled-classifier {d = d} {e = e} {m = m} p q h = record {
  types_of = h.types_of;
  types_by = h.types_by;
  classifiers_of = λ c lt. elim (low_or_last m c lt) [ low i ↦ h.classifiers_of c i | last i ↦ rw i p ];
  classifiers_by = λ c lt. elim (low_or_last m c lt) [ low i ↦ h.classifiers_by c i | last i ↦ rw i q ];
}

-- two types whose numbers are in order are one, and after them the same was seen
record Same (d e : Assignment) (s t : TypeExpression) (k l p q : ℕ) : Type 0 where
  types : s ≡ t
  unknowns : k ≡ p
  classifiers : l ≡ q
  settled : Settled d e k l

of_parts : {d e : Assignment} {s t u v : TypeExpression} {k l p q : ℕ} → u ≡ v → Same d e s t k l p q
    → Same d e u v k l p q
of_parts x r = record { types = x; unknowns = r.unknowns; classifiers = r.classifiers; settled = r.settled }

same : (d e : Assignment) {n m k l p q : ℕ} {s t : TypeExpression} → Alike s t → value tagged s ≡ value d t
    → value tagged t ≡ value e s → IsNumbered n m s k l → IsNumbered n m t p q → Settled d e n m → Same d e s t k l p q
same d e ints i j an_int an_int h = record { types = refl; unknowns = refl; classifiers = refl; settled = h }
same d e bools i j a_bool a_bool h = record { types = refl; unknowns = refl; classifiers = refl; settled = h }
same d e (unknowns {u = u} {v = v}) i j (seen a) (seen b) h =
    let y : u ≡ v = tag-one u v (i ∙ h.types_of v b) in
    record { types = rw y refl; unknowns = refl; classifiers = refl; settled = h }
same d e (unknowns {u = u} {v = v}) i j (seen a) (next b) h =
    let y : v ≡ u = tag-one v u (j ∙ h.types_by u a) in
    absurd (omega arith)
same d e (unknowns {u = u} {v = v}) i j (next a) (seen b) h =
    let y : u ≡ v = tag-one u v (i ∙ h.types_of v b) in
    absurd (omega arith)
same d e {n = n} (unknowns {u = u} {v = v}) i j (next a) (next b) h =
    let x : d.ty n ≡ tag n = ap d.ty (sym b) ∙ sym i ∙ ap (λ w. tag w) a in
    let y : e.ty n ≡ tag n = ap e.ty (sym a) ∙ sym j ∙ ap (λ w. tag w) b in
    record { types = rw (a, b) refl; unknowns = refl; classifiers = refl; settled = settled-type x y h }
same d e (pairs x y) i j (a_pair a b) (a_pair f g) h =
    let r = same d e x (cc) (cc) a f h in
    let s = same d e y (cc) (cc) b (rw (r.unknowns, r.classifiers) g) r.settled in
    of_parts (rw (r.types, s.types) refl) s
same d e (functions x y) i j (a_function a b) (a_function f g) h =
    let r = same d e x (cc) (cc) a f h in
    let s = same d e y (cc) (cc) b (rw (r.unknowns, r.classifiers) g) r.settled in
    of_parts (rw (r.types, s.types) refl) s
same d e (codes {c = c} {b = b} x) i j (code_seen p f) (code_seen q g) h =
    let y : c ≡ d.classifier b = cc in
    let z : c ≡ b = y ∙ h.classifiers_of b q in
    let r = same d e x (cc) (cc) f g h in
    of_parts (rw (z, r.types) refl) r
same d e (codes {c = c} {b = b} x) i j (code_seen p f) (code_next q g) h =
    let y : b ≡ e.classifier c = cc in
    let z : b ≡ c = y ∙ h.classifiers_by c p in
    absurd (omega arith)
same d e (codes {c = c} {b = b} x) i j (code_next p f) (code_seen q g) h =
    let y : c ≡ d.classifier b = cc in
    let z : c ≡ b = y ∙ h.classifiers_of b q in
    absurd (omega arith)
same d e {m = m} (codes {c = c} {b = b} x) i j (code_next p f) (code_next q g) h =
    let y : c ≡ d.classifier b = cc in
    let z : b ≡ e.classifier c = cc in
    let v : d.classifier m ≡ m = ap d.classifier (sym q) ∙ sym y ∙ p in
    let w : e.classifier m ≡ m = ap e.classifier (sym p) ∙ sym z ∙ q in
    let r = same d e x (cc) (cc) f g (settled-classifier v w h) in
    of_parts (rw (p, q, r.types) refl) r
same d e (closed x) i j (a_closed f) (a_closed g) h =
    let r = same d e x (cc) (cc) f g h in
    of_parts (rw r.types refl) r

-- two types are one, and so are the numbers that were seen after them
pub record AreOne (s t : TypeExpression) (k l p q : ℕ) : Type 0 where
  pub types : s ≡ t
  pub unknowns : k ≡ p
  pub classifiers : l ≡ q

pub one_in_order : (s t : TypeExpression) {k l p q : ℕ} → Includes s t → Includes t s → IsNumbered 0 0 s k l
    → IsNumbered 0 0 t p q → AreOne s t k l p q
one_in_order s t h g i j =
    let f = h least (λ u. tt) in
    let r = g least (λ u. tt) in
    let x = h tagged tag-plain in
    let y = g tagged tag-plain in
    let a = alike f.0 r.0 x.0 y.0 s t
    (record { least_of = f.1; least_by = r.1; tagged_of = x.1; tagged_by = y.1 }) in
    let z = same x.0 y.0 a x.1 y.1 i j
    (record {
      types_of = λ u lt. absurd (omega arith);
      types_by = λ u lt. absurd (omega arith);
      classifiers_of = λ c lt. absurd (omega arith);
      classifiers_by = λ c lt. absurd (omega arith);
    }) in
    record { types = z.types; unknowns = z.unknowns; classifiers = z.classifiers }
