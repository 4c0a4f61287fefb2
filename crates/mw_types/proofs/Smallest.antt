-- Sizes of most general solutions; longer fronts.
use Rattle.std.proofs.Common.{◌≡◌, ℕ, zero, suc, ◌≤◌, ◌<◌, List, [], ◌∷◌, take, refl, arith}
use Rattle.mw_term.specs.Types.{TermType, int_type}
use Rattle.mw_types.specs.Equations.{TypeEquation, Solves, MostGeneral, IsSmall, TooBig}
use Rattle.mw_types.specs.Fronts.{Small}
use Rattle.mw_types.specs.Types.{TypeExpression, unknown, pair_ty, function_ty, code_ty, closed_ty}
use Rattle.mw_types.specs.Types.{Assignment, value, nodes, size, Substitution, after}

pub size_pos : (t : TermType) → 1 ≤ size t
size_pos int_type = omega arith
size_pos t = omega arith

-- an assignment makes no type smaller
pub grows : (b : Assignment) (t : TypeExpression) → nodes t ≤ size (value b t)
grows b (unknown u) = size_pos (b.ty u)
grows b (pair_ty s t) = omega (arith, grows b s, grows b t)
grows b (function_ty s t) = omega (arith, grows b s, grows b t)
grows b (code_ty c t) = omega (arith, grows b t)
grows b (closed_ty t) = omega (arith, grows b t)
grows b t = omega arith

-- int for each unknown, and each classifier as it is
abbrev pub least : Assignment
least = record { ty = λ u. int_type; classifier = λ c. c }

pub least_size : (t : TypeExpression) → size (value least t) ≡ nodes t
least_size (pair_ty s t) = omega (arith, least_size s, least_size t)
least_size (function_ty s t) = omega (arith, least_size s, least_size t)
least_size (code_ty c t) = omega (arith, least_size t)
least_size (closed_ty t) = omega (arith, least_size t)
least_size t = refl

-- a most general solution is the smallest of all, at every unknown
pub smallest : {n m : ℕ} {es : List TypeEquation} {s : Substitution} → MostGeneral n m es s → (a : Assignment)
    → Solves a es → (u : ℕ) → u < n → nodes (s.ty u) ≤ size (a.ty u)
smallest {s = s} g a h u lt =
    let p = g.general a h in
    let e = p.1.types u lt in
    rw e (grows p.0 (s.ty u))

-- two most general solutions have types of the same sizes
pub same_sizes : {n m : ℕ} {es : List TypeEquation} {s t : Substitution} → MostGeneral n m es s → MostGeneral n m es t
    → (u : ℕ) → u < n → nodes (s.ty u) ≤ nodes (t.ty u)
same_sizes {t = t} g h u lt = omega (arith, smallest g (after least t) (h.sound least) u lt, least_size (t.ty u))

-- no type is too big exactly where some solution is small
pub small_of_most_general : {n m : ℕ} {es : List TypeEquation} {s : Substitution} → MostGeneral n m es s → IsSmall n s
    → Small n es
small_of_most_general {s = s} g f = record {
  by = after least s;
  solves = g.sound least;
  small = λ u lt. omega (arith, f u lt, least_size (s.ty u));
}

pub most_general_small : {n m : ℕ} {es : List TypeEquation} {s : Substitution} → MostGeneral n m es s → Small n es
    → IsSmall n s
most_general_small g h u lt = omega (arith, smallest g h.by h.solves u lt, h.small u lt)

pub too_big_not_small : {n m : ℕ} {es : List TypeEquation} → TooBig n m es → Small n es → ⊥
too_big_not_small b h = omega (arith, most_general_small b.1 h b.2 b.3, b.4)

-- what solves a front solves the shorter ones
pub solves_take : (a : Assignment) (es : List TypeEquation) (j k : ℕ) → j ≤ k → Solves a (take k es)
    → Solves a (take j es)
solves_take a (e ∷ es) (suc j) zero le h = absurd (omega arith)
solves_take a (e ∷ es) (suc j) (suc k) le h = (h.0, solves_take a es j k (omega arith) h.1)
solves_take a [] (suc j) k le h = tt
solves_take a es j k le h = tt

pub small_take : {n : ℕ} (es : List TypeEquation) (j k : ℕ) → j ≤ k → Small n (take k es) → Small n (take j es)
small_take es j k le h = record { by = h.by; solves = solves_take h.by es j k le h.solves; small = h.small }
