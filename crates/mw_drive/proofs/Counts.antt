-- Numbers that are at most another, or above it.
use Rattle.std.proofs.Common.{◌≤◌, ◌<◌, ◌⊎◌, inl, inr, ℕ, zero, suc, arith}

-- a number is at most another, or above it
pub at_most_or_above : (n k : ℕ) → (n ≤ k) ⊎ (k < n)
at_most_or_above zero k = inl (omega arith)
at_most_or_above (suc n) zero = inr (omega arith)
at_most_or_above (suc n) (suc k) = one_more (at_most_or_above n k)
  where
    one_more : (n ≤ k) ⊎ (k < n) → (suc n ≤ suc k) ⊎ (suc k < suc n)
    one_more (inl h) = inl (omega arith)
    one_more (inr h) = inr (omega arith)
