-- Equal neighbouring locals as one run: no other runs of the same locals are shorter.
use Rattle.std.proofs.Common.{◌≡◌, ℕ, zero, suc, ◌+◌, ◌^◌, ◌≤◌, ◌<◌, inl, inr, true, false, List, [], ◌∷◌, ◌++◌}
use Rattle.std.proofs.Common.{length, replicate, length-append, refl, sym, ap, ◌∙◌, arith}
use Rattle.std.specs.List.{flat_map}
use Rattle.std.proofs.lemmas.Bool.{cases_Bool}
use Rattle.mw_wasm.specs.declared.values.ValType.{ValType}
use Rattle.mw_wasm.specs.declared.values.ValType.TheVariants as value
use Rattle.mw_wasm.specs.Pieces.{items}
use Rattle.mw_wasm.specs.BinaryModules.{Run, run, Locals, locals}
use Rattle.mw_wasm.specs.BinaryInstructions.{value_type}
use Rattle.mw_leb.proofs.Groups.{unsigned_shortest}
use Rattle.mw_encode.specs.Encoding.{number, value_type_bytes, run_bytes, same_type, runs_from, runs_of, locals_bytes}
use Rattle.mw_encode.proofs.Numbers.{number_rises, number_of_sum, unsigned_below}
use Rattle.mw_encode.proofs.Best.{Best, best_then, best_u32, best_items}
use Rattle.mw_encode.proofs.BestInstructions.{best_value_type}

-- the locals of a run
abbrev pub locals_of : Run → List ValType
locals_of r = replicate r.count r.kind

same_is : (t u : ValType) → same_type t u ≡ true → t ≡ u
same_is value.I32 value.I32 e = refl
same_is value.I32 value.I64 e = absurd (cc)
same_is value.I64 value.I32 e = absurd (cc)
same_is value.I64 value.I64 e = refl

same_self : (t : ValType) → same_type t t ≡ true
same_self value.I32 = refl
same_self value.I64 = refl

pub runs_end : (t : ValType) (n : ℕ) → runs_from t n [] ≡ record { count = n; kind = t } ∷ []
unfolding runs_from
runs_end t n = refl

pub runs_same : (t u : ValType) (n : ℕ) (us : List ValType) → same_type t u ≡ true → runs_from t n (u ∷ us)
    ≡ runs_from t (n + 1) us
unfolding runs_from
runs_same t u n us e = rw e refl

pub runs_other : (t u : ValType) (n : ℕ) (us : List ValType) → same_type t u ≡ false → runs_from t n (u ∷ us)
    ≡ record { count = n; kind = t } ∷ runs_from u 1 us
unfolding runs_from
runs_other t u n us e = rw e refl

pub runs_of_none : runs_of [] ≡ []
unfolding runs_of
runs_of_none = refl

pub runs_of_more : (t : ValType) (ts : List ValType) → runs_of (t ∷ ts) ≡ runs_from t 1 ts
unfolding runs_of
runs_of_more t ts = refl

replicate_one_more : (n : ℕ) (t : ValType) (us : List ValType) → replicate (n + 1) t ++ us ≡ replicate n t ++ t ∷ us
replicate_one_more zero t us = refl
replicate_one_more (suc n) t us = rw (let e : suc n + 1 ≡ suc (n + 1) = omega arith in e)
    (ap (λ x. t ∷ x) (replicate_one_more n t us))

-- the runs are runs of the locals
pub runs_from_are : (t : ValType) (n : ℕ) (us : List ValType) → flat_map locals_of (runs_from t n us) ≡ replicate n t
    ++ us
runs_from_are t n [] = rw (runs_end t n) refl
runs_from_are t n (u ∷ us) = elim (cases_Bool (same_type t u)) [
  | inl e ↦ rw (runs_same t u n us e, runs_from_are t (n + 1) us) (rw (← same_is t u e) (replicate_one_more n t us))
  | inr e ↦ rw (runs_other t u n us e) (ap (λ x. replicate n t ++ x) (runs_from_are u 1 us))
]

pub runs_are : (types : List ValType) → types ≡ flat_map locals_of (runs_of types)
runs_are [] = rw runs_of_none refl
runs_are (t ∷ ts) = rw (runs_of_more t ts) (sym (runs_from_are t 1 ts))

-- a run's locals are one run with those before them
joined : (t : ValType) (n m : ℕ) (us : List ValType) → runs_from t n (replicate m t ++ us) ≡ runs_from t (n + m) us
joined t n zero us = ap (λ k. runs_from t k us) (omega arith)
joined t n (suc m) us = runs_same t t n (replicate m t ++ us) (same_self t)
    ∙ (joined t (n + 1) m us ∙ ap (λ k. runs_from t k us) (omega arith))

-- the number of runs, and of their bytes, are at most those of others
pub record NoMore (a b : List Run) : Type 0 where
  pub fewer : length a ≤ length b
  pub shorter : length (flat_map run_bytes a) ≤ length (flat_map run_bytes b)

no_more_self : (a : List Run) → NoMore a a
no_more_self a = record { fewer = omega arith; shorter = omega arith }

no_more_behind : (r : Run) (a b : List Run) → NoMore a b → NoMore (r ∷ a) (r ∷ b)
no_more_behind r a b h =
    record { fewer = omega (arith, h.fewer); shorter = omega (arith, h.shorter, length-append {A = ℕ}) }

no_more_over : (r : Run) (a b : List Run) → NoMore a b → NoMore a (r ∷ b)
no_more_over r a b h =
    record { fewer = omega (arith, h.fewer); shorter = omega (arith, h.shorter, length-append {A = ℕ}) }

no_more_along : (a b c : List Run) → NoMore a b → NoMore b c → NoMore a c
no_more_along a b c h k = record {
  fewer = omega (arith, h.fewer, k.fewer);
  shorter = omega (arith, h.shorter, k.shorter);
}

-- one run in place of two
merged : (t : ValType) (n m : ℕ) (a : List Run) → NoMore (record { count = n + m; kind = t } ∷ a)
    (record { count = n; kind = t } ∷ record { count = m; kind = t } ∷ a)
merged t n m a =
    record {
      fewer = omega arith;
      shorter = let h = number_of_sum n m in lengths (number (n + m)) (number n) (number m)
          (value_type_bytes t) (flat_map run_bytes a) h;
    }
  where
    lengths : (s x y t z : List ℕ) → length s ≤ length x + length y → length ((s ++ t) ++ z)
        ≤ length ((x ++ t) ++ ((y ++ t) ++ z))
    lengths s x y t z h = simp length-append (omega arith)

after_run : (t : ValType) (n c : ℕ) (u : ValType) (others : List Run)
    → ((t : ValType) (n : ℕ) → NoMore (runs_from t n (flat_map locals_of others))
    (record { count = n; kind = t } ∷ others))
    → NoMore (runs_from t n (replicate c u ++ flat_map locals_of others))
    (record { count = n; kind = t } ∷ record { count = c; kind = u } ∷ others)
after_run t n zero u others before =
    no_more_along _ _ _ (before t n) (no_more_behind _ _ _ (no_more_over _ _ _ (no_more_self others)))
after_run t n (suc c) u others before = elim (cases_Bool (same_type t u)) [
  | inl e ↦ let same : t ≡ u = same_is t u e in
      rw (← same, joined t n (suc c) (flat_map locals_of others))
      (no_more_along _ _ _ (before t (n + suc c)) (merged t n (suc c) others))
  | inr e ↦ let one : 1 + c ≡ suc c = omega arith in
      let rest : NoMore (runs_from u (suc c) (flat_map locals_of others))
      (record { count = suc c; kind = u } ∷ others) = before u (suc c) in
      rw (
        runs_other t u n (replicate c u ++ flat_map locals_of others) e,
        joined u 1 c (flat_map locals_of others),
        one,
      ) (no_more_behind _ _ _ rest)
]

from_no_more : (others : List Run) (t : ValType) (n : ℕ) → NoMore (runs_from t n (flat_map locals_of others))
    (record { count = n; kind = t } ∷ others)
from_no_more [] t n = rw (runs_end t n) (no_more_self _)
from_no_more (r ∷ others) t n = after_run t n r.count r.kind others (from_no_more others)

of_run : (c : ℕ) (u : ValType) (others : List Run) → NoMore (runs_of (flat_map locals_of others)) others
    → NoMore (runs_of (replicate c u ++ flat_map locals_of others)) (record { count = c; kind = u } ∷ others)
of_run zero u others before = no_more_over _ _ _ before
of_run (suc c) u others before =
    let one : 1 + c ≡ suc c = omega arith in
    rw (runs_of_more u (replicate c u ++ flat_map locals_of others), joined u 1 c (flat_map locals_of others), one)
    (from_no_more others u (suc c))

pub no_more : (others : List Run) → NoMore (runs_of (flat_map locals_of others)) others
no_more [] = rw runs_of_none (no_more_self _)
no_more (r ∷ others) = of_run r.count r.kind others (no_more others)

-- they are spelled, since no run has more locals than there are
value_spelled : (t : ValType) → value_type t (value_type_bytes t)
value_spelled value.I32 = refl
value_spelled value.I64 = refl

run_spelled : (n : ℕ) (t : ValType) → n < 2 ^ 32 → run record { count = n; kind = t }
    (run_bytes record { count = n; kind = t })
run_spelled n t h = record {
  front = number n;
  back = value_type_bytes t;
  whole = refl;
  first =
      (unsigned_shortest 32 n (omega arith) h).spells;
  second = value_spelled t;
}

from_spelled : (us : List ValType) (t : ValType) (n : ℕ) → n + length us < 2 ^ 32
    → items run (runs_from t n us) (flat_map run_bytes (runs_from t n us))
from_spelled [] t n h =
    rw (runs_end t n)
    (record { front = _; back = []; whole = refl; first = run_spelled n t (omega arith); second = refl })
from_spelled (u ∷ us) t n h = elim (cases_Bool (same_type t u)) [
  | inl e ↦ rw (runs_same t u n us e) (from_spelled us t (n + 1) (omega arith))
  | inr e ↦ rw (runs_other t u n us e)
      (record {
        front = _;
        back = _;
        whole = refl;
        first = run_spelled n t (omega arith);
        second =
            from_spelled us u 1 (omega arith);
      })
]

runs_spelled : (types : List ValType) → length types < 2 ^ 32
    → items run (runs_of types) (flat_map run_bytes (runs_of types))
runs_spelled [] h = rw runs_of_none refl
runs_spelled (t ∷ ts) h = rw (runs_of_more t ts) (from_spelled ts t 1 (omega arith))

best_run : (r : Run) → Best (run r) (run_bytes r)
best_run r = best_then (best_u32 r.count) (best_value_type r.kind)

-- what other runs of the same locals bound
of_others : (types : List ValType) (other : List ℕ) (p : Locals types other) → NoMore (runs_of types) p.runs
of_others types other p = let h : NoMore (runs_of (flat_map locals_of p.runs)) p.runs = no_more p.runs in
    rw p.types_are h

pub runs_few : (types : List ValType) (other : List ℕ) → Locals types other → length (runs_of types) < 2 ^ 32
runs_few types other p =
    let h = (of_others types other p).fewer in
    let k = unsigned_below p.spelled.front 32 (length p.runs) p.spelled.first in
    omega (arith, h, k)

pub best_locals : (types : List ValType) → Best (locals types) (locals_bytes types)
best_locals types = record { spells = λ other p. spells other p; least = λ other p. least other p }
  where
    spells : (other : List ℕ) → Locals types other → Locals types (locals_bytes types)
    spells other p = record {
      runs = runs_of types;
      spelled = record {
        front = number (length (runs_of types));
        back = _;
        whole = refl;
        first =
            (unsigned_shortest 32 (length (runs_of types)) (omega arith) (runs_few types other p)).spells;
        second =
            runs_spelled types p.few;
      };
      types_are = runs_are types;
      few = p.few;
    }

    least : (other : List ℕ) → Locals types other → length (locals_bytes types) ≤ length other
    least other p =
        let n : NoMore (runs_of types) p.runs = of_others types other p in
        let a : length (number (length (runs_of types))) ≤ length (number (length p.runs)) =
        number_rises (length (runs_of types)) (length p.runs) n.fewer in
        let b : length (number (length p.runs)) ≤ length p.spelled.front =
        (best_u32 (length p.runs)).least p.spelled.front p.spelled.first in
        let c : length (flat_map run_bytes (runs_of types)) ≤ length (flat_map run_bytes p.runs) = n.shorter in
        let d : length (flat_map run_bytes p.runs) ≤ length p.spelled.back =
        (best_items run run_bytes best_run p.runs).least p.spelled.back p.spelled.second in
        rw (
          p.spelled.whole,
          length-append (number (length (runs_of types))) (flat_map run_bytes (runs_of types)),
          length-append p.spelled.front p.spelled.back,
        ) (omega arith)
