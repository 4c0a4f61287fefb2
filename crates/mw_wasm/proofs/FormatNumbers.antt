-- Spelled numbers have no more bits than their type.
use Rattle.std.proofs.Common.{◌≡◌, ℕ, ◌+◌, ◌-◌, ◌*◌, ◌^◌, ◌<◌, ◌≤◌, ℤ, pos, negsuc, ◌+ℤ◌, ◌-ℤ◌, ◌*ℤ◌, neg_ℤ, ◌≤ℤ◌, ◌<ℤ◌}
use Rattle.std.proofs.Common.{◌⊎◌, inl, inr, List, [], ◌∷◌, ap, ◌∙◌, arith}
use Rattle.std.proofs.lemmas.Nat.{pow-add, pow_pos}
use Rattle.std.proofs.lemmas.Int.{ints}
use Rattle.mw_wasm.specs.Leb.{IsUnsigned, IsSigned, IsInteger, unsigned_of}

-- seven bits more
seven_more : (N : ℕ) → 7 < N → 2 ^ N ≡ 2 ^ 7 * 2 ^ (N - 7)
seven_more N h = let e : N ≡ 7 + (N - 7) = omega arith in ap (λ k. 2 ^ k) e ∙ pow-add 2 7 (N - 7)

pub unsigned_fits : (N : ℕ) (bytes : List ℕ) (v : ℕ) → IsUnsigned N bytes v → v < 2 ^ N
unsigned_fits N [] v h = absurd h
unsigned_fits N (b ∷ []) v h = let low : b < 2 ^ N = h.1 in let e : v ≡ b = h.2 in omega arith
unsigned_fits N (b ∷ c ∷ bs) v h =
    let rest : h.3.0 < 2 ^ (N - 7) = unsigned_fits (N - 7) (c ∷ bs) h.3.0 h.3.1 in
    let e : v ≡ 2 ^ 7 * h.3.0 + (b - 2 ^ 7) = h.3.2 in
    let byte : b < 2 ^ 8 = h.1 in
    let more = seven_more N h.2 in
    omega arith

-- between the least and the greatest of N bits
abbrev IsBetween : ℕ → ℤ → Type 0
IsBetween x z = (neg_ℤ (pos x) ≤ℤ z) × (z <ℤ pos x)

last_fits : (x b : ℕ) (z : ℤ)
    → (((b < 2 ^ 6) × (b < x) × (z ≡ pos b))
    ⊎ ((2 ^ 6 ≤ b) × (b < 2 ^ 7) × (2 ^ 7 ≤ b + x) × (z ≡ pos b -ℤ pos (2 ^ 7)))) → IsBetween x z
last_fits x b z (inl h) = let low : b < x = h.1 in let e : z ≡ pos b = h.2 in (omega (arith, ints), omega (arith, ints))
last_fits x b z (inr h) =
    let low : b < 2 ^ 7 = h.1 in
    let high : 2 ^ 7 ≤ b + x = h.2 in
    let e : z ≡ pos b -ℤ pos (2 ^ 7) = h.3 in
    (omega (arith, ints), omega (arith, ints))

longer_fits : (x y b : ℕ) (m z : ℤ) → x ≡ 2 ^ 7 * y → b < 2 ^ 8 → z ≡ (pos (2 ^ 7) *ℤ m) +ℤ pos (b - 2 ^ 7)
    → IsBetween y m → IsBetween x z
longer_fits x y b m z h low e r = let r0 = r.0 in let r1 = r.1 in (omega (arith, ints), omega (arith, ints))

signed_fits : (N : ℕ) (bytes : List ℕ) (z : ℤ) → IsSigned N bytes z → IsBetween (2 ^ (N - 1)) z
signed_fits N [] z h = absurd h
signed_fits N (b ∷ []) z h = last_fits (2 ^ (N - 1)) b z h
signed_fits N (b ∷ c ∷ bs) z h =
    let n : 7 < N = h.2 in
    let e : N - 1 ≡ 7 + (N - 7 - 1) = omega arith in
    longer_fits (2 ^ (N - 1)) (2 ^ (N - 7 - 1)) b h.3.0 z (ap (λ k. 2 ^ k) e ∙ pow-add 2 7 (N - 7 - 1)) h.1 h.3.2
    (signed_fits (N - 7) (c ∷ bs) h.3.0 h.3.1)

unsigned_of_fits : (N : ℕ) (z : ℤ) → 0 < N → IsBetween (2 ^ (N - 1)) z → unsigned_of N z < 2 ^ N
unsigned_of_fits N (pos k) h r =
    let e : N ≡ 1 + (N - 1) = omega arith in
    let double : 2 ^ N ≡ 2 ^ 1 * 2 ^ (N - 1) = ap (λ k. 2 ^ k) e ∙ pow-add 2 1 (N - 1) in
    let high = r.1 in
    omega (arith, ints)
unsigned_of_fits N (negsuc k) h r = let positive = pow_pos N in omega arith

pub integer_fits : (N : ℕ) (bytes : List ℕ) (n : ℕ) → 0 < N → IsInteger N bytes n → n < 2 ^ N
integer_fits N bytes n h p =
    let e : n ≡ unsigned_of N p.0 = p.2 in
    let k = unsigned_of_fits N p.0 h (signed_fits N bytes p.0 p.1) in
    omega arith
