-- The first faulty front by halving.
use Rattle.std.proofs.Common.{length-append, ◌≡◌, ◌≢◌, ◌⊎◌, inl, inr, ℕ, zero, suc, ◌+◌, ◌-◌, ◌≤◌, List, [], ◌∷◌, ◌++◌}
use Rattle.std.proofs.Common.{take, length, refl}
use Rattle.std.proofs.Common.{ap, sym, subst, ◌∙◌, arith}
use Rattle.std.specs.Prelude.{slice_index_or, replicate}
use Rattle.mw_types.specs.Equations.{TypeEquation, Solves, equations_of, equation_of}
use Rattle.mw_types.specs.Answering.{Ready}
use Rattle.mw_types.specs.Fronts.{Small, UnsolvableAt, TooBigAt}
use Rattle.mw_types.specs.Judged.{AreAlone, Judges, JudgesFront, Halved, Blank, Stated, StatesFront}
use Rattle.mw_types.specs.Satisfying.{IsCopy}
use Rattle.mw_types.specs.declared.state.State.{State}
use Rattle.mw_types.specs.declared.state.Shape.{Shape}
use Rattle.mw_types.specs.declared.state.Shape.TheVariants.{Free}
use Rattle.mw_types.specs.declared.types.Equation.{Equation}
use Rattle.mw_types.specs.declared.judging.Judgement.{Judgement}
use Rattle.mw_types.specs.declared.judging.Verdict.{Verdict}
use Rattle.mw_types.specs.declared.judging.Verdict.TheVariants.{Fine, Clash, Cycle, TooBig}
use Rattle.mw_types.proofs.Growing.{each_more}
use Rattle.mw_types.proofs.Smallest.{least, small_take}
use Rattle.std.proofs.lemmas.List.{length-replicate}
use Rattle.mw_types.proofs.Verdicts.{blank_stated}

pub eqs_take : (xs : List Equation) (k : ℕ) → equations_of (take k xs) ≡ take k (equations_of xs)
eqs_take (x ∷ xs) (suc k) = ap (λ es. equation_of x ∷ es) (eqs_take xs k)
eqs_take [] (suc k) = refl
eqs_take xs k = refl

pub eqs_length : (xs : List Equation) → length (equations_of xs) ≡ length xs
eqs_length [] = refl
eqs_length (x ∷ xs) = ap suc (eqs_length xs)

none_small : (n : ℕ) (es : List TypeEquation) → Small n (take 0 es)
none_small n es = record { by = least; solves = no_equation es; small = λ u lt. omega arith }
  where
    no_equation : (fs : List TypeEquation) → Solves least (take 0 fs)
    no_equation [] = tt
    no_equation fs = tt

front_judged : (n : ℕ) (xs : List Equation) (front : Judgement) → JudgesFront n xs front
    → Judges n (take front.end (equations_of xs)) front.verdict
front_judged n xs front j = subst (λ es. Judges n es front.verdict) (eqs_take xs front.end) j

pub halved_start : (n : ℕ) (xs : List Equation) (front : Judgement) → JudgesFront n xs front → front.verdict ≢ Fine
    → Halved n (equations_of xs) 0 front.end front.verdict
halved_start n xs front j f =
    record { small = none_small n (equations_of xs); judged = front_judged n xs front j; faulty = f }

pub halved_low : (n : ℕ) (xs : List Equation) (low high k : ℕ) (v : Verdict) (front : Judgement)
    → Halved n (equations_of xs) low high v → JudgesFront n xs front → front.verdict ≡ Fine → front.end ≡ k
    → Halved n (equations_of xs) k high v
halved_low n xs low high k v front h j f e =
    record { small = rw (← e) (rw f at (front_judged n xs front j)); judged = h.judged; faulty = h.faulty }

pub halved_high : (n : ℕ) (xs : List Equation) (low high : ℕ) (v : Verdict) (front : Judgement)
    → Halved n (equations_of xs) low high v → JudgesFront n xs front → front.verdict ≢ Fine
    → Halved n (equations_of xs) low front.end front.verdict
halved_high n xs low high v front h j f =
    record { small = h.small; judged = front_judged n xs front j; faulty = f }

-- a state of no equations
pub blank_front : (n m : ℕ) (xs : List Equation) (s : State) → Blank n m s → StatesFront n m xs 0 s
blank_front n m xs s b = record {
  stated = rw (← b.node_count, ← b.classifier_count) (blank_stated s b.sound b.means);
  settled = b.settled;
}

-- a copy says what its state says
copy_stated : {n m : ℕ} {es : List TypeEquation} {s t : State} → IsCopy s t → Stated n m es s → Stated n m es t
copy_stated c h = record {
  sound = record {
    low = rw c.parent h.sound.low;
    low_classifiers = rw c.classifier h.sound.low_classifiers;
    lengths = rw (c.parent, c.shape) h.sound.lengths;
    bare = rw (c.parent, c.shape) h.sound.bare;
    inside = rw (c.parent, c.shape, c.classifier) h.sound.inside;
    waiting = rw (c.parent, c.waiting) h.sound.waiting;
  };
  long = rw c.parent h.long;
  classifier_count = rw c.classifier h.classifier_count;
  shaped = rw (c.parent, c.shape) h.shaped;
  out = λ a k. h.out a (rw (c.parent, c.shape, c.classifier, c.waiting) at k);
  more = λ a k. let x = h.more a k in (x.0, x.1, rw (c.parent, c.shape, c.classifier, c.waiting) x.2);
}

pub copy_front : {n m k : ℕ} {xs : List Equation} {s t : State} → IsCopy s t → StatesFront n m xs k s
    → StatesFront n (length t.classifier.items) xs k t
copy_front c h = rw (ap length c.classifier ∙ h.stated.classifier_count)
    (record { stated = copy_stated c h.stated; settled = c.waiting ∙ h.settled })

pub ready_front : (n m l k : ℕ) (xs : List Equation) (t : State) → l ≡ m → Ready n l (equations_of (take k xs)) t
    → StatesFront n m xs k t
ready_front n m l k xs t e r = record { stated = rw e at r.stated; settled = r.empty }

pub first_unsolvable : (n : ℕ) (xs : List Equation) (low high : ℕ) (v : Verdict) → Halved n (equations_of xs) low high v
    → high ≤ low + 1 → high ≤ length xs → (v ≡ Clash) ⊎ (v ≡ Cycle) → UnsolvableAt n (equations_of xs) high
first_unsolvable n xs low high v h le lt e = record {
  within = omega (arith, eqs_length xs);
  shorter = λ j jl. small_take (equations_of xs) j low (omega arith) h.small;
  fault = elim e [ inl f ↦ rw f at h.judged | inr f ↦ rw f at h.judged ];
}

pub first_too_big : (n : ℕ) (xs : List Equation) (low high : ℕ) (v : Verdict) → Halved n (equations_of xs) low high v
    → high ≤ low + 1 → high ≤ length xs → v ≡ TooBig → TooBigAt n (equations_of xs) high
first_too_big n xs low high v h le lt e = let j = rw e at h.judged in record {
  within = omega (arith, eqs_length xs);
  shorter = λ k jl. small_take (equations_of xs) k low (omega arith) h.small;
  solvable = j.0;
  fault = j.1;
}

free_at : (n i : ℕ) → slice_index_or (replicate n Free) i Free ≡ Free
free_at zero i = refl
free_at (suc n) zero = refl
free_at (suc n) (suc i) = free_at n i

pub all_free : (n k : ℕ) (hs : List Shape) → k ≡ 0 → hs ≡ take n [] ++ replicate (n - k) Free → hs ≡ replicate n Free
all_free zero k hs f g = let e : zero - k ≡ zero = omega arith in rw e at g
all_free (suc n) k hs f g = let e : suc n - k ≡ suc n = omega arith in rw e at g

pub one_alone : (n : ℕ) (ps qs : List ℕ) → qs ≡ ps ++ n ∷ [] → AreAlone n ps → AreAlone (n + 1) qs
one_alone n ps qs e a = rw e (record {
  long = omega (arith, length-append ps (n ∷ []), a.long);
  own = each_more (λ i x. x ≡ i) ps n 0 n a.long a.own refl;
})

-- a state in which each class is of one node or classifier unknown and has no shape
pub all_blank : (n m : ℕ) (s : State) → AreAlone n s.parent.items → AreAlone m s.classifier.items → s.shape.items
    ≡ replicate n Free → s.waiting.items ≡ [] → Blank n m s
all_blank n m s p c h w = record {
  sound = record {
    low = λ i lt. let e = p.own i (omega (arith, p.long)) in omega arith;
    low_classifiers = λ i lt. let e = c.own i (omega (arith, c.long)) in omega arith;
    lengths = ap length h ∙ length-replicate n Free ∙ sym p.long;
    bare = λ i lt o. rw h (free_at n i);
    inside = λ i. rw (h, free_at n i) tt;
    waiting = rw w tt;
  };
  node_count = p.long;
  classifier_count = c.long;
  settled = w;
  means = λ a. record {
    types = λ i lt. rw (p.own i (omega (arith, p.long))) refl;
    classifiers = λ i lt. rw (c.own i (omega (arith, c.long))) refl;
    shapes = λ i. rw (h, free_at n i) tt;
    waits = rw w tt;
  };
}
