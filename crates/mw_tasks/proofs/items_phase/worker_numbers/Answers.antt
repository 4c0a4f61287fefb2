use Rattle.std.proofs.Common.{ℕ, zero, suc, ◌≡◌, ◌+◌, [], ◌∷◌, ◌++◌, refl, sym, ap, ◌∙◌, subst, arith}
use Rattle.std.specs.List.{range_with_len}
use Rattle.mw_tasks.proofs.items_phase.worker_numbers.Goals as goal

-- one number more
range_more : (a n : ℕ) → range_with_len a (suc n) ≡ range_with_len a n ++ (a + n) ∷ []
range_more a zero = let q : a + 0 ≡ a = omega arith in rw q refl
range_more a (suc n) =
    let q : a + suc n ≡ a + 1 + n = omega arith in
    rw q (ap (λ ns. a ∷ ns) (range_more (a + 1) n))

below_more : (n : ℕ) → range_with_len 0 (n + 1) ≡ range_with_len 0 n ++ n ∷ []
below_more n =
    let q : n + 1 ≡ suc n = omega arith in
    let p : 0 + n ≡ n = omega arith in
    rw q (subst (λ k. range_with_len 0 (suc n) ≡ range_with_len 0 n ++ k ∷ []) p (range_more 0 n))

pub loop-number-preserved : goal.loop-number-preserved
loop-number-preserved c =
    c.in_ok-push.ensures.items
    ∙ (ap (λ ns. ns ++ c.loop-number.number ∷ []) c.loop-number.invariant ∙ sym (below_more c.loop-number.number))
