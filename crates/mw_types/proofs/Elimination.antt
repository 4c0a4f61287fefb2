-- Equations have a most general solution or none: the elimination, an equation at a time.
use Rattle.std.proofs.Common.{◌≡◌, ◌⊎◌, inl, inr, ℕ, zero, suc, ◌+◌, ◌≤◌, ◌<◌, List, [], ◌∷◌, length, refl, ap, sym}
use Rattle.std.proofs.Common.{◌∙◌, arith}
use Rattle.mw_types.specs.Types.{TypeExpression, int_ty, bool_ty, unknown, pair_ty, function_ty, code_ty, closed_ty}
use Rattle.mw_types.specs.Types.{Within, Assignment, value, nodes, size, Substitution}
use Rattle.mw_types.specs.Equations.{TypeEquation, AllWithin, Solvable, MostGeneral}
use Rattle.mw_types.specs.Walks.{In}
use Rattle.mw_types.proofs.Lists.{same, other, is}
use Rattle.mw_types.proofs.Existence.{Decided, apply_all, from_applied, turn, compose, Over, AllOver, absent, itself}
use Rattle.mw_types.proofs.Existence.{within, occurs, without, without_lt, put, all_over_put, put_keeps, put_absent}
use Rattle.mw_types.proofs.Existence.{put_here, rename, rename_keeps, renamed, rename_weight, rename_all_over, weight}

abbrev is_one : TypeExpression → TypeExpression → TypeEquation
is_one l r = record { left = l; right = r }

-- what the sides of an equation that has a solution are
data View : TypeExpression → TypeExpression → Type 0 where
  on_left : {u : ℕ} {r : TypeExpression} → View (unknown u) r
  on_right : {u : ℕ} {l : TypeExpression} → View l (unknown u)
  both_int : View int_ty int_ty
  both_bool : View bool_ty bool_ty
  both_pairs : {s t k l : TypeExpression} → View (pair_ty s t) (pair_ty k l)
  both_functions : {s t k l : TypeExpression} → View (function_ty s t) (function_ty k l)
  both_codes : {c d : ℕ} {s t : TypeExpression} → View (code_ty c s) (code_ty d t)
  both_closed : {s t : TypeExpression} → View (closed_ty s) (closed_ty t)
  clash : {l r : TypeExpression} → ((a : Assignment) → value a l ≡ value a r → ⊥) → View l r

view : (l r : TypeExpression) → View l r
view (unknown u) r = on_left
view l (unknown u) = on_right
view int_ty int_ty = both_int
view bool_ty bool_ty = both_bool
view (pair_ty s t) (pair_ty k l) = both_pairs
view (function_ty s t) (function_ty k l) = both_functions
view (code_ty c s) (code_ty d t) = both_codes
view (closed_ty s) (closed_ty t) = both_closed
view l r = clash (λ a e. absurd (cc))

pub nodes_some : (t : TypeExpression) → 1 ≤ nodes t
nodes_some int_ty = omega arith
nodes_some t = omega arith

-- equations over fewer unknowns, and lighter ones over the same
abbrev Fewer : List ℕ → Type 0
Fewer us = (vs : List ℕ) → length vs < length us → (es : List TypeEquation) → AllOver vs es → Decided es

abbrev Lighter : List ℕ → ℕ → Type 0
Lighter us w = (es : List TypeEquation) → weight es ≤ w → AllOver us es → Decided es

-- an unknown that is equal to a type
eliminate : (us : List ℕ) (w u : ℕ) (t : TypeExpression) (es : List TypeEquation) → Fewer us → Lighter us w
    → weight es ≤ w → In u us → Over us t → AllOver us es → Decided (is_one (unknown u) t ∷ es)
eliminate us w u t es fewer lighter le k o os = elim (occurs u t) [
  | itself e ↦ turn es (is_one (unknown u) t ∷ es) (λ b q. (sym (ap (value b) e), q)) (λ b q. q.1) (lighter es le os)
  | within lt ↦ inr (λ h. let p = lt h.0 in let q : size (h.0.ty u) ≡ size (value h.0 t) = ap size h.1.0 in omega arith)
  | absent n ↦ compose es (is_one (unknown u) t ∷ es) (put u t) (λ b q. put_keeps u t b q.0) (λ b q. q.1)
      (λ b q. (put_here u t b ∙ sym (put_absent u t b t n), from_applied b (put u t) es q))
      (fewer (without u us) (without_lt u us k) (apply_all (put u t) es) (all_over_put u t us n o es os))
]

reduce : (us : List ℕ) (w : ℕ) {l r : TypeExpression} (es : List TypeEquation) → Fewer us → Lighter us w
    → nodes l + nodes r + weight es ≤ suc w → Over us l → Over us r → AllOver us es → View l r
    → Decided (is_one l r ∷ es)
reduce us w es fewer lighter le o k os (on_left {u = u} {r = r}) = eliminate us w u r es fewer lighter
    (let q = nodes_some r in omega arith) o k os
reduce us w es fewer lighter le o k os (on_right {u = u} {l = l}) =
    turn (is_one (unknown u) l ∷ es) (is_one l (unknown u) ∷ es) (λ b q. (sym q.0, q.1)) (λ b q. (sym q.0, q.1))
    (eliminate us w u l es fewer lighter (let q = nodes_some l in omega arith) k o os)
reduce us w es fewer lighter le o k os both_int = turn es (is_one int_ty int_ty ∷ es) (λ b q. (refl, q)) (λ b q. q.1)
    (lighter es (omega arith) os)
reduce us w es fewer lighter le o k os both_bool = turn es (is_one bool_ty bool_ty ∷ es) (λ b q. (refl, q)) (λ b q. q.1)
    (lighter es (omega arith) os)
reduce us w es fewer lighter le o k os (both_pairs {s = s} {t = t} {k = m} {l = n}) =
    turn (is_one s m ∷ is_one t n ∷ es) (is_one (pair_ty s t) (pair_ty m n) ∷ es)
    (λ b q. (rw (q.0, q.1.0) refl, q.1.1))
    (λ b q. (cc, (cc, q.1)))
    (lighter (is_one s m ∷ is_one t n ∷ es) (omega arith) ((o.0, k.0), ((o.1, k.1), os)))
reduce us w es fewer lighter le o k os (both_functions {s = s} {t = t} {k = m} {l = n}) =
    turn (is_one s m ∷ is_one t n ∷ es) (is_one (function_ty s t) (function_ty m n) ∷ es)
    (λ b q. (rw (q.0, q.1.0) refl, q.1.1))
    (λ b q. (cc, (cc, q.1)))
    (lighter (is_one s m ∷ is_one t n ∷ es) (omega arith) ((o.0, k.0), ((o.1, k.1), os)))
reduce us w es fewer lighter le o k os (both_codes {c = c} {d = d} {s = s} {t = t}) =
    compose (is_one s t ∷ es) (is_one (code_ty c s) (code_ty d t) ∷ es) (rename c d)
    (λ b q. rename_keeps c d b (cc))
    (λ b q. (cc, q.1))
    (λ b q. let z = from_applied b (rename c d) (is_one s t ∷ es) q in (rw (renamed c d b, z.0) refl, z.1))
    (lighter (apply_all (rename c d) (is_one s t ∷ es)) (let e = rename_weight c d (is_one s t ∷ es) in omega arith)
    (rename_all_over c d us (is_one s t ∷ es) ((o, k), os)))
reduce us w es fewer lighter le o k os (both_closed {s = s} {t = t}) =
    turn (is_one s t ∷ es) (is_one (closed_ty s) (closed_ty t) ∷ es)
    (λ b q. (rw q.0 refl, q.1))
    (λ b q. (cc, q.1))
    (lighter (is_one s t ∷ es) (omega arith) ((o, k), os))
reduce us w es fewer lighter le o k os (clash f) = inr (λ h. f h.0 h.1.0)

identity : Decided []
identity = inl (
  record { ty = λ u. unknown u; classifier = λ c. c },
  record { sound = λ b. tt; keeps = λ a h. record { types = λ u. refl; classifiers = λ c. refl } },
)

all_lighter : (us : List ℕ) → Fewer us → (w : ℕ) → Lighter us w
all_lighter us fewer w [] le os = identity
all_lighter us fewer zero (e ∷ es) le os = absurd (let p = nodes_some e.left in omega arith)
all_lighter us fewer (suc w) (e ∷ es) le os = reduce us w es fewer (all_lighter us fewer w) le os.0.0 os.0.1 os.1
    (view e.left e.right)

all_decided : (k : ℕ) (us : List ℕ) → length us < k → (es : List TypeEquation) → AllOver us es → Decided es
all_decided zero us lt es os = absurd (omega arith)
all_decided (suc k) us lt es os = all_lighter us (λ vs vl. all_decided k vs (omega arith)) (weight es) es (omega arith)
    os

-- the first numbers
below : ℕ → List ℕ
below zero = []
below (suc n) = n ∷ below n

in_below : (n u : ℕ) → u < n → In u (below n)
unfolding below
in_below zero u lt = absurd (omega arith)
in_below (suc n) u lt = elim (is u n) [ same e ↦ inl e | other k ↦ inr (in_below n u (omega arith)) ]

over_below : (n m : ℕ) (t : TypeExpression) → Within n m t → Over (below n) t
over_below n m (unknown u) w = in_below n u w
over_below n m (pair_ty s t) w = (over_below n m s w.0, over_below n m t w.1)
over_below n m (function_ty s t) w = (over_below n m s w.0, over_below n m t w.1)
over_below n m (code_ty c t) w = over_below n m t w.1
over_below n m (closed_ty t) w = over_below n m t w
over_below n m t w = tt

all_over_below : (n m : ℕ) (es : List TypeEquation) → AllWithin n m es → AllOver (below n) es
all_over_below n m [] w = tt
all_over_below n m (e ∷ es) w = ((over_below n m e.left w.0.0, over_below n m e.right w.0.1), all_over_below n m es w.1)

pub most_general_or_none : (n m : ℕ) (es : List TypeEquation) → AllWithin n m es
    → ((s : Substitution) × MostGeneral n m es s) ⊎ (Solvable es → ⊥)
most_general_or_none n m es w =
    elim (all_decided (suc (length (below n))) (below n) (omega arith) es (all_over_below n m es w)) [
      | inl f ↦ inl (
        f.0,
        record {
          sound = f.1.sound;
          general = λ a k. let z = f.1.keeps a k in
              (a, record { types = λ u lt. z.types u; classifiers = λ c lt. z.classifiers c });
        },
      )
      | inr none ↦ inr none
    ]

pub most_general_of : (n m : ℕ) (es : List TypeEquation) → AllWithin n m es → Solvable es → (s : Substitution)
    × MostGeneral n m es s
most_general_of n m es w h = elim (most_general_or_none n m es w) [ inl g ↦ g | inr none ↦ absurd (none h) ]
