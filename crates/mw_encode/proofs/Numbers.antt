-- Numbers: what their spellings bound, and how long the shortest ones are.
use Rattle.std.proofs.Common.{◌≡◌, ℕ, zero, suc, ◌+◌, ◌-◌, ◌*◌, ◌/◌, ◌^◌, ◌<◌, ◌≤◌, ℤ, pos, negsuc, ◌≤ℤ◌, ◌<ℤ◌, ◌+ℤ◌}
use Rattle.std.proofs.Common.{◌-ℤ◌, ◌*ℤ◌, true, false, nat_lt, inl, inr, List, [], ◌∷◌, length, refl, ap, ◌∙◌, arith}
use Rattle.std.proofs.lemmas.Int.{ints}
use Rattle.std.proofs.lemmas.Nat.{pow-add}
use Rattle.std.proofs.Math.Nat.{pow-le-pow_right}
use Rattle.std.proofs.lemmas.Bool.Decides.{nat_tests}
use Rattle.mw_wasm.specs.Leb.{IsUnsigned, IsSigned, unsigned_of}
use Rattle.mw_leb.specs.Shortest.{groups, shortest_unsigned}
use Rattle.mw_leb.proofs.Groups.{either, power_seven, groups_last, groups_more, groups_end}
use Rattle.mw_encode.specs.Encoding.{number, signed_of}

power_down : (N : ℕ) → 7 ≤ N → 2 ^ N ≡ 128 * 2 ^ (N - 7)
power_down N h = ap (λ x. 2 ^ x) (let e : N ≡ (N - 7) + 7 = omega arith in e) ∙ power_seven (N - 7)

pub unsigned_below : (bytes : List ℕ) (N n : ℕ) → IsUnsigned N bytes n → n < 2 ^ N
unsigned_below [] N n p = absurd p
unsigned_below (b ∷ []) N n p = omega (arith, p.1, p.2)
unsigned_below (b ∷ c ∷ bs) N n (low, high, w, (m, rest, e)) =
    let h : m < 2 ^ (N - 7) = unsigned_below (c ∷ bs) (N - 7) m rest in
    let f : 2 ^ N ≡ 128 * 2 ^ (N - 7) = power_down N (omega arith) in
    omega arith

pub record InRange (H : ℕ) (z : ℤ) : Type 0 where
  pub low : (pos 0 -ℤ pos H) ≤ℤ z
  pub high : z <ℤ pos H

pub signed_range : (bytes : List ℕ) (N : ℕ) (z : ℤ) → IsSigned N bytes z → InRange (2 ^ (N - 1)) z
signed_range [] N z p = absurd p
signed_range (b ∷ []) N z (inl p) = let e : z ≡ pos b = p.2 in let g : b < 2 ^ (N - 1) = p.1 in
    record { low = omega (arith, ints); high = omega (arith, ints) }
signed_range (b ∷ []) N z (inr p) =
    let e : z ≡ pos b -ℤ pos 128 = p.3 in
    let g : 128 ≤ b + 2 ^ (N - 1) = p.2 in
    let h : b < 128 = p.1 in
    let one : 1 ≤ 2 ^ (N - 1) = pow-le-pow_right (omega arith) (let k : 0 ≤ N - 1 = omega arith in k) in
    record { low = omega (arith, ints); high = omega (arith, ints) }
signed_range (b ∷ c ∷ bs) N z (low, high, w, (m, rest, e)) =
    let r = signed_range (c ∷ bs) (N - 7) m rest in
    let H : ℕ = 2 ^ (N - 7 - 1) in
    let f : 2 ^ (N - 1) ≡ 128 * 2 ^ (N - 7 - 1) = ap (λ x. 2 ^ x) (let k : N - 1 ≡ (N - 7 - 1) + 7 = omega arith in k)
    ∙ power_seven (N - 7 - 1) in
    let rl : (pos 0 -ℤ pos (2 ^ (N - 7 - 1))) ≤ℤ m = r.low in
    let rh : m <ℤ pos (2 ^ (N - 7 - 1)) = r.high in
    by_sums (2 ^ (N - 7 - 1)) (2 ^ (N - 1)) b m z f low high rl rh e
  where
    by_sums : (H G b : ℕ) (m z : ℤ) → G ≡ 128 * H → 128 ≤ b → b < 256 → (pos 0 -ℤ pos H) ≤ℤ m → m <ℤ pos H
        → z ≡ (pos 128 *ℤ m) +ℤ pos (b - 128) → InRange G z
    by_sums H G b m z f low high rl rh e = record { low = omega (arith, ints); high = omega (arith, ints) }

test_true : (a b : ℕ) → a < b → nat_lt a b ≡ true
test_true a b h = grind (arith, nat_tests)

test_false : (a b : ℕ) → b ≤ a → nat_lt a b ≡ false
test_false a b h = grind (arith, nat_tests)

negative_back : (H G m : ℕ) → G ≡ 2 * H → m < H → H ≤ G - (m + 1)
negative_back H G m e h = omega arith

pub signed_is : (N n : ℕ) (z : ℤ) → 1 ≤ N → InRange (2 ^ (N - 1)) z → n ≡ unsigned_of N z → z ≡ signed_of N n
signed_is N n (pos m) w r e =
    let h : m < 2 ^ (N - 1) = positive (2 ^ (N - 1)) m r.high in
    rw (e, test_true m (2 ^ (N - 1)) h) refl
  where
    positive : (H m : ℕ) → pos m <ℤ pos H → m < H
    positive H m h = omega (arith, ints)
signed_is N n (negsuc m) w r e =
    let h : m < 2 ^ (N - 1) = negative (2 ^ (N - 1)) m r.low in
    let g : 2 ^ N ≡ 2 * 2 ^ (N - 1) = ap (λ x. 2 ^ x) (let k : N ≡ (N - 1) + 1 = omega arith in k) ∙ twice (N - 1) in
    let b : 2 ^ (N - 1) ≤ 2 ^ N - (m + 1) = negative_back (2 ^ (N - 1)) (2 ^ N) m g h in
    let back : 2 ^ N - 1 - (2 ^ N - (m + 1)) ≡ m = omega arith in
    rw (e, test_false (2 ^ N - (m + 1)) (2 ^ (N - 1)) b, back) refl
  where
    negative : (H m : ℕ) → (pos 0 -ℤ pos H) ≤ℤ negsuc m → m < H
    negative H m h = omega (arith, ints)

    twice : (M : ℕ) → 2 ^ (M + 1) ≡ 2 * 2 ^ M
    twice M = omega (arith, pow-add 2 M 1)

-- lengths of the shortest spellings
pub one_at_least : (k n : ℕ) → 1 ≤ length (groups 128 false k n)
one_at_least zero n = rw (groups_end 128 false n) (omega arith)
one_at_least (suc k) n = elim (either n 128) [
  | inl low ↦ rw (groups_last 128 false (suc k) n low) (omega arith)
  | inr high ↦ rw (groups_more 128 false k n high) (omega arith)
]

one_more : (k n : ℕ) → length (groups 128 false (suc k) n) ≤ 1 + length (groups 128 false k (n / 128))
one_more k n = elim (either n 128) [
  | inl low ↦ rw (groups_last 128 false (suc k) n low) (omega arith)
  | inr high ↦ rw (groups_more 128 false k n high) (omega arith)
]

rising : (k m n : ℕ) → m ≤ n → length (groups 128 false k m) ≤ length (groups 128 false k n)
rising zero m n h = rw (groups_end 128 false m, groups_end 128 false n) (omega arith)
rising (suc k) m n h = elim (either m 128) [
  | inl low ↦ rw (groups_last 128 false (suc k) m low) (one_at_least (suc k) n)
  | inr high ↦
      let r : length (groups 128 false k (m / 128)) ≤ length (groups 128 false k (n / 128)) =
      rising k (m / 128) (n / 128) (omega arith) in
      rw (groups_more 128 false k m high, groups_more 128 false k n (let g : 128 ≤ n = omega arith in g)) (omega arith)
]

deeper : (k n : ℕ) → length (groups 128 false k n) ≤ length (groups 128 false (suc k) n)
deeper zero n = rw (groups_end 128 false n) (one_at_least 1 n)
deeper (suc k) n = elim (either n 128) [
  | inl low ↦ rw (groups_last 128 false (suc k) n low) (one_at_least (suc (suc k)) n)
  | inr high ↦
      let r : length (groups 128 false k (n / 128)) ≤ length (groups 128 false (suc k) (n / 128)) =
      deeper k (n / 128) in
      rw (groups_more 128 false k n high, groups_more 128 false (suc k) n high) (omega arith)
]

half : (k a b : ℕ) → a ≤ b → length (groups 128 false (suc k) (a + b)) ≤ length (groups 128 false (suc k) a)
    + length (groups 128 false (suc k) b)
half k a b h =
    let r : length (groups 128 false k ((a + b) / 128)) ≤ length (groups 128 false k b) =
    rising k ((a + b) / 128) b (omega arith) in
    omega (arith, one_more k (a + b), deeper k b, one_at_least (suc k) a)

pub number_rises : (m n : ℕ) → m ≤ n → length (number m) ≤ length (number n)
unfolding shortest_unsigned
number_rises m n h = rising 9 m n h

pub number_of_sum : (a b : ℕ) → length (number (a + b)) ≤ length (number a) + length (number b)
unfolding shortest_unsigned
number_of_sum a b = elim (either a b) [
  | inl h ↦ half 8 a b (omega arith)
  | inr h ↦ let e : a + b ≡ b + a = omega arith in
      rw e (let r : length (groups 128 false 9 (b + a)) ≤ length (groups 128 false 9 b)
      + length (groups 128 false 9 a) = half 8 b a h in omega arith)
]
