-- First faults, from what the solver judges to most general solutions.
use Rattle.std.specs.Prelude.{Err}
use Rattle.std.proofs.Common.{◌≡◌, ◌⊎◌, inl, inr, ℕ, zero, suc, ◌≤◌, ◌<◌, List, [], ◌∷◌, take, length, ap, sym}
use Rattle.std.proofs.Common.{subst, arith}
use Rattle.mw_types.specs.Types.{Assignment, nodes, Substitution, after}
use Rattle.mw_types.specs.Equations.{TypeEquation, AllWithin, Solvable, Agree, MostGeneral, TooBig, Fine}
use Rattle.mw_types.specs.Equations.{FirstUnsolvable, FirstTooBig}
use Rattle.mw_types.specs.Fronts.{Small}
use Rattle.mw_types.specs.Judged.{Faults}
use Rattle.mw_types.specs.Solutions.{FirstFault, IsFaultOrMemory, IsSolvedOrMemory}
use Rattle.mw_types.specs.SolutionLaws.{OneFault}
use Rattle.mw_types.specs.declared.types.SolveFault.{SolveFault}
use Rattle.mw_types.specs.declared.types.SolveFault.TheVariants.{Unsolvable, TooBig as TooBigFront, Memory}
use Rattle.mw_types.proofs.Smallest.{same_sizes, small_of_most_general, most_general_small, too_big_not_small}
use Rattle.mw_types.proofs.Smallest.{least, solves_take, small_take}
use Rattle.std.proofs.Math.Seq.{take-length}
use Rattle.mw_types.proofs.Lists.{same, other, is, lt_or_le}
use Rattle.mw_types.proofs.Elimination.{most_general_of, most_general_or_none}

-- either no type is too big, or some is
abbrev Large : (ℕ → ℕ) → ℕ → Type 0
Large f n = (u : ℕ) × (u < n) × (10000 < f u)

sizes : (f : ℕ → ℕ) (n : ℕ) → ((u : ℕ) → u < n → f u ≤ 10000) ⊎ Large f n
sizes f zero = inl (λ u lt. absurd (omega arith))
sizes f (suc n) = step f n (sizes f n) (lt_or_le 10000 (f n))
  where
    step : (f : ℕ → ℕ) (n : ℕ) → ((u : ℕ) → u < n → f u ≤ 10000) ⊎ Large f n → (10000 < f n) ⊎ (f n ≤ 10000)
        → ((u : ℕ) → u < suc n → f u ≤ 10000) ⊎ Large f (suc n)
    step f n (inr x) d = inr (x.0, omega arith, x.2)
    step f n (inl g) (inl lt) = inr (n, omega arith, lt)
    step f n (inl g) (inr le) = inl (λ u lt. elim (is u n) [ same e ↦ rw e le | other k ↦ g u (omega arith) ])

pub fine_of_small : (n m : ℕ) (es : List TypeEquation) → AllWithin n m es → Small n es → Fine n m es
fine_of_small n m es w h = let g = most_general_of n m es w (h.by, h.solves) in (g.0, g.1, most_general_small g.1 h)

pub small_of_fine : {n m : ℕ} {es : List TypeEquation} → Fine n m es → Small n es
small_of_fine f = small_of_most_general f.1 f.2

pub too_big_of : (n m : ℕ) (es : List TypeEquation) → AllWithin n m es → Solvable es → (Small n es → ⊥) → TooBig n m es
too_big_of n m es w h f = let g = most_general_of n m es w h in elim (sizes (λ u. nodes (g.0.ty u)) n) [
  | inl small ↦ absurd (f (small_of_most_general g.1 small))
  | inr large ↦ (g.0, g.1, large.0, large.1, large.2)
]

pub solvable_of_most_general : {n m : ℕ} {es : List TypeEquation} {s : Substitution} → MostGeneral n m es s
    → Solvable es
solvable_of_most_general {s = s} g = (after least s, g.sound least)

front_within : (n m : ℕ) (es : List TypeEquation) (k : ℕ) → AllWithin n m es → AllWithin n m (take k es)
front_within n m (e ∷ es) (suc k) w = (w.0, front_within n m es k w.1)
front_within n m [] (suc k) w = tt
front_within n m es k w = tt

pub first_fault_of : (n m : ℕ) (es : List TypeEquation) (f : SolveFault) → AllWithin n m es → Faults n es f
    → FirstFault n m es f
first_fault_of n m es (Unsolvable k) w h = record {
  within = h.within;
  unsolvable = h.fault;
  shorter = λ j lt. fine_of_small n m (take j es) (front_within n m es j w) (h.shorter j lt);
}
first_fault_of n m es (TooBigFront k) w h = record {
  within = h.within;
  too_big = too_big_of n m (take k es) (front_within n m es k w) h.solvable h.fault;
  shorter = λ j lt. fine_of_small n m (take j es) (front_within n m es j w) (h.shorter j lt);
}
first_fault_of n m es (Memory e) w h = tt

pub unsolvable_stays : (es : List TypeEquation) (j k : ℕ) → j ≤ k → (Solvable (take j es) → ⊥) → Solvable (take k es)
    → ⊥
unsolvable_stays es j k le f h = f (h.0, solves_take h.0 es j k le h.1)

pub too_big_stays : (n m : ℕ) (es : List TypeEquation) (j k : ℕ) → AllWithin n m es → j ≤ k → TooBig n m (take j es)
    → Solvable (take k es) → TooBig n m (take k es)
too_big_stays n m es j k w le b h = too_big_of n m (take k es) (front_within n m es k w) h
    (λ s. too_big_not_small b (small_take es j k le s))

pub fine_before : (n m : ℕ) (es : List TypeEquation) (j k : ℕ) → AllWithin n m es → j ≤ k → Fine n m (take k es)
    → Fine n m (take j es)
fine_before n m es j k w le f = fine_of_small n m (take j es) (front_within n m es j w)
    (small_take es j k le (small_of_fine f))

pub are_instances : (n m : ℕ) (es : List TypeEquation) (s t : Substitution) → MostGeneral n m es s
    → MostGeneral n m es t → (b : Assignment) → (d : Assignment) × Agree n m (after b s) (after d t)
are_instances n m es s t g h b = h.general (after b s) (g.sound b)

pub same_nodes : (n m : ℕ) (es : List TypeEquation) (s t : Substitution) → MostGeneral n m es s → MostGeneral n m es t
    → (u : ℕ) → u < n → nodes (s.ty u) ≡ nodes (t.ty u)
same_nodes n m es s t g h u lt = let p = same_sizes g h u lt in let q = same_sizes h g u lt in omega arith

solvable_of_fine : {n m : ℕ} {es : List TypeEquation} → Fine n m es → Solvable es
solvable_of_fine f = solvable_of_most_general f.1

-- what is fine is small at each front of it
small_front : {n m : ℕ} (es : List TypeEquation) (k : ℕ) → k ≤ length es → Fine n m es → Small n (take k es)
small_front {n = n} es k le f =
    small_take es k (length es) le (subst (λ fs. Small n fs) (sym (take-length es)) (small_of_fine f))

pub one_fault : (n m : ℕ) (es : List TypeEquation) → OneFault n m es
one_fault n m es = record {
  unsolvable = λ j k f g. first (λ lt. f.unsolvable (solvable_of_fine (g.shorter j lt)))
      (λ lt. g.unsolvable (solvable_of_fine (f.shorter k lt)));
  too_big = λ j k f g. first (λ lt. too_big_not_small f.too_big (small_of_fine (g.shorter j lt)))
      (λ lt. too_big_not_small g.too_big (small_of_fine (f.shorter k lt)));
  apart = λ j k f g. elim (lt_or_le k j) [
    | inl lt ↦ too_big_not_small g.too_big (small_of_fine (f.shorter k lt))
    | inr le ↦ unsolvable_stays es j k le f.unsolvable (solvable_of_most_general g.too_big.1)
  ];
  fine_unsolvable = λ k f g. let s = small_front es k g.within f in g.unsolvable (s.by, s.solves);
  fine_too_big = λ k f g. too_big_not_small g.too_big (small_front es k g.within f);
}
  where
    first : {j k : ℕ} → (j < k → ⊥) → (k < j → ⊥) → j ≡ k
    first p q = omega arith

-- equations are fine, too big or without a solution
front_verdict : (n m : ℕ) (es : List TypeEquation) → AllWithin n m es → Fine n m es
    ⊎ (TooBig n m es ⊎ (Solvable es → ⊥))
front_verdict n m es w = elim (most_general_or_none n m es w) [
  | inl g ↦ elim (sizes (λ u. nodes (g.0.ty u)) n) [
    | inl small ↦ inl (g.0, g.1, small)
    | inr large ↦ inr (inl (g.0, g.1, large.0, large.1, large.2))
  ]
  | inr none ↦ inr (inr none)
]

-- each shorter front is fine, or there is a first fault
abbrev FineBelow : ℕ → ℕ → List TypeEquation → ℕ → Type 0
FineBelow n m es k = ((j : ℕ) → j < k → Fine n m (take j es))
    ⊎ (((j : ℕ) × FirstUnsolvable n m es j) ⊎ ((j : ℕ) × FirstTooBig n m es j))

fine_next : (n m : ℕ) (es : List TypeEquation) (k : ℕ) → k ≤ length es → FineBelow n m es k → Fine n m (take k es)
    ⊎ (TooBig n m (take k es) ⊎ (Solvable (take k es) → ⊥)) → FineBelow n m es (suc k)
fine_next n m es k le (inr fault) d = inr fault
fine_next n m es k le (inl f) (inl g) = inl (λ j lt. elim (is j k) [ same e ↦ rw e g | other o ↦ f j (omega arith) ])
fine_next n m es k le (inl f) (inr (inl big)) = inr (inr (k, record { within = le; too_big = big; shorter = f }))
fine_next n m es k le (inl f) (inr (inr none)) = inr (inl (k, record { within = le; unsolvable = none; shorter = f }))

fine_below : (n m : ℕ) (es : List TypeEquation) → AllWithin n m es → (k : ℕ) → k ≤ suc (length es) → FineBelow n m es k
fine_below n m es w zero le = inl (λ j lt. absurd (omega arith))
fine_below n m es w (suc k) le = fine_next n m es k (omega arith) (fine_below n m es w k (omega arith))
    (front_verdict n m (take k es) (front_within n m es k w))

-- equations are fine or have a first fault
pub fine_or_faulty : (n m : ℕ) (es : List TypeEquation) → AllWithin n m es → Fine n m es
    ⊎ (((k : ℕ) × FirstUnsolvable n m es k) ⊎ ((k : ℕ) × FirstTooBig n m es k))
fine_or_faulty n m es w = elim (fine_below n m es w (suc (length es)) (omega arith)) [
  | inl f ↦ inl (subst (λ fs. Fine n m fs) (take-length es) (f (length es) (omega arith)))
  | inr fault ↦ inr fault
]

-- the answers that are left where there is a first fault, or none
pub fault_only : (n m : ℕ) (es : List TypeEquation) (f : SolveFault) (k : ℕ) → FirstFault n m es f
    → FirstUnsolvable n m es k → IsFaultOrMemory (Err f) (Unsolvable k)
fault_only n m es (Unsolvable j) k h g = ap (λ x. Unsolvable x) ((one_fault n m es).unsolvable j k h g)
fault_only n m es (TooBigFront j) k h g = absurd ((one_fault n m es).apart k j g h)
fault_only n m es (Memory e) k h g = tt

pub too_big_only : (n m : ℕ) (es : List TypeEquation) (f : SolveFault) (k : ℕ) → FirstFault n m es f
    → FirstTooBig n m es k → IsFaultOrMemory (Err f) (TooBigFront k)
too_big_only n m es (Unsolvable j) k h g = absurd ((one_fault n m es).apart j k h g)
too_big_only n m es (TooBigFront j) k h g = ap (λ x. TooBigFront x) ((one_fault n m es).too_big j k h g)
too_big_only n m es (Memory e) k h g = tt

pub solved_only : (n m : ℕ) (es : List TypeEquation) (f : SolveFault) → FirstFault n m es f → Fine n m es
    → IsSolvedOrMemory (Err f)
solved_only n m es (Unsolvable j) h g = (one_fault n m es).fine_unsolvable j g h
solved_only n m es (TooBigFront j) h g = (one_fault n m es).fine_too_big j g h
solved_only n m es (Memory e) h g = tt

pub ruleset laws = (most_general_of, are_instances, same_nodes, one_fault, fine_or_faulty)
