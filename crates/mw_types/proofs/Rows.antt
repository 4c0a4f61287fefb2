-- The definitions on small equations.
use Rattle.std.proofs.Common.{◌≡◌, ℕ, zero, suc, ◌+◌, ◌<◌, List, [], ◌∷◌, take, refl, ap, arith}
use Rattle.mw_term.specs.Types.{int_type, bool_type}
use Rattle.mw_types.specs.Types.{TypeExpression, int_ty, bool_ty, unknown, pair_ty, function_ty, code_ty, closed_ty}
use Rattle.mw_types.specs.Types.{Assignment, value, nodes, size, Substitution}
use Rattle.mw_types.specs.Equations.{TypeEquation, Solves, Solvable, MostGeneral, TooBig, Fine, FirstUnsolvable}

abbrev is_one : TypeExpression → TypeExpression → TypeEquation
is_one l r = record { left = l; right = r }

-- each word, unknown and constructor is a node, a classifier is none
pair_of_codes : nodes (pair_ty (code_ty 7 (unknown 0)) (closed_ty bool_ty)) ≡ 5
pair_of_codes = refl

-- no equations: an unknown stays free
abbrev free : Substitution
free = record { ty = λ u. unknown u; classifier = λ c. c }

free_is_general : MostGeneral 1 0 [] free
free_is_general =
    record { sound = λ b. tt; general = λ a h. (a, record { types = λ u lt. refl; classifiers = λ c lt. refl }) }

-- and a substitution that puts int for it is not most general
abbrev ints : Substitution
ints = record { ty = λ u. int_ty; classifier = λ c. c }

ints_are_less : MostGeneral 1 0 [] ints → ⊥
ints_are_less g =
    let p = g.general (record { ty = λ u. bool_type; classifier = λ c. c }) tt in
    let e : bool_type ≡ int_type = p.1.types 0 (omega arith) in
    absurd (cc)

-- two code types that are one have one classifier
abbrev two_codes : List TypeEquation
two_codes = is_one (unknown 0) (code_ty 0 int_ty) ∷ is_one (unknown 0) (code_ty 1 int_ty) ∷ []

abbrev one_classifier : Substitution
one_classifier = record { ty = λ u. code_ty 0 int_ty; classifier = λ c. 0 }

same_classifier : (a : Assignment) → Solves a two_codes → (c : ℕ) → c < 2 → a.classifier c ≡ a.classifier 0
same_classifier a h zero lt = refl
same_classifier a h (suc zero) lt = let p = h.0 in let q = h.1.0 in cc
same_classifier a h (suc (suc c)) lt = absurd (omega arith)

code_at : (a : Assignment) → Solves a two_codes → (u : ℕ) → u < 1 → a.ty u ≡ value a (code_ty 0 int_ty)
code_at a h zero lt = h.0
code_at a h (suc u) lt = absurd (omega arith)

codes_general : MostGeneral 1 2 two_codes one_classifier
codes_general = record {
  sound = λ b. (refl, (refl, tt));
  general = λ a h. (a, record { types = λ u lt. code_at a h u lt; classifiers = λ c lt. same_classifier a h c lt });
}

-- an equation that only an infinite type would meet, and one through a code type
infinite : Solvable (is_one (unknown 0) (pair_ty (unknown 0) int_ty) ∷ []) → ⊥
infinite h = let p : size (h.0.ty 0) ≡ size (h.0.ty 0) + 1 + 1 = ap size h.1.0 in omega arith

infinite_code : Solvable (is_one (unknown 0) (code_ty 0 (unknown 1)) ∷ is_one (unknown 1) (closed_ty (unknown 0)) ∷ [])
    → ⊥
infinite_code h =
    let p : size (h.0.ty 0) ≡ size (h.0.ty 1) + 1 = ap size h.1.0 in
    let q : size (h.0.ty 1) ≡ size (h.0.ty 0) + 1 = ap size h.1.1.0 in
    omega arith

-- a pair is no function
pair_or_function : Solvable (is_one (pair_ty int_ty int_ty) (function_ty int_ty int_ty) ∷ []) → ⊥
pair_or_function h = let e = h.1.0 in absurd (cc)

-- the second of two equations is the first without a solution
int_then_bool : FirstUnsolvable 1 0 (is_one (unknown 0) int_ty ∷ is_one (unknown 0) bool_ty ∷ []) 2
int_then_bool = record {
  within = omega arith;
  unsolvable = λ h. let p = h.1.0 in let q = h.1.1.0 in absurd (cc);
  shorter = front;
}
  where
    int_at : (a : Assignment) → a.ty 0 ≡ int_type → (u : ℕ) → u < 1 → a.ty u ≡ int_type
    int_at a h zero lt = h
    int_at a h (suc u) lt = absurd (omega arith)

    front : (j : ℕ) → j < 2 → Fine 1 0 (take j (is_one (unknown 0) int_ty ∷ is_one (unknown 0) bool_ty ∷ []))
    front zero lt = (free, free_is_general, (λ u l. omega arith))
    front (suc zero) lt = (
      ints,
      record {
        sound = λ b. (refl, tt);
        general = λ a h.
            (a, record { types = λ u l. int_at a h.0 u l; classifiers = λ c l. refl });
      },
      (λ u l. omega arith),
    )
    front (suc (suc j)) lt = absurd (omega arith)

-- closed, so many times
abbrev tall : ℕ → TypeExpression
tall zero = int_ty
tall (suc n) = closed_ty (tall n)

tall_nodes : (n : ℕ) → nodes (tall n) ≡ n + 1
tall_nodes zero = refl
tall_nodes (suc n) = let e = tall_nodes n in omega arith

abbrev tall_one : ℕ → List TypeEquation
tall_one n = is_one (unknown 0) (tall n) ∷ []

tall_value : (a b : Assignment) (n : ℕ) → value a (tall n) ≡ value b (tall n)
tall_value a b zero = refl
tall_value a b (suc n) = rw (tall_value a b n) refl

tall_general : (n : ℕ) → MostGeneral 1 0 (tall_one n) (record { ty = λ u. tall n; classifier = λ c. c })
tall_general n = record {
  sound = λ b. (tall_value b _ n, tt);
  general = λ a h. (a, record { types = λ u lt. at a h.0 u lt; classifiers = λ c lt. refl });
}
  where
    at : (a : Assignment) → a.ty 0 ≡ value a (tall n) → (u : ℕ) → u < 1 → a.ty u ≡ value a (tall n)
    at a h zero lt = h
    at a h (suc u) lt = absurd (omega arith)

-- 10,000 nodes are fine, 10,001 are too big
highest_is_fine : Fine 1 0 (tall_one 9999)
highest_is_fine = (
  record { ty = λ u. tall 9999; classifier = λ c. c },
  tall_general 9999,
  (λ u lt. let e = tall_nodes 9999 in omega arith),
)

higher_is_too_big : TooBig 1 0 (tall_one 10000)
higher_is_too_big = (
  record { ty = λ u. tall 10000; classifier = λ c. c },
  tall_general 10000,
  0,
  omega arith,
  let e =
      tall_nodes 10000 in omega arith,
)
