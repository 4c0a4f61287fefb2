-- Numbers as bytes (standard: Binary Format, Values).
use Rattle.std.specs.Prelude.{◌≡◌, ℕ, ◌+◌, ◌-◌, ◌*◌, ◌^◌, ◌<◌, ◌≤◌, ℤ, pos, negsuc, ◌+ℤ◌, ◌-ℤ◌, ◌*ℤ◌, ◌⊎◌, List, []}
use Rattle.std.specs.Prelude.{◌∷◌}

-- An unsigned number of at most N bits (standard: Binary Format, Integers, uN): seven bits in each byte, the lowest
-- first; every byte but the last one has 128 added.
abbrev pub IsUnsigned : ℕ → List ℕ → ℕ → Type 0
IsUnsigned N [] v = ⊥
IsUnsigned N (b ∷ []) v = (b < 2 ^ 7) × (b < 2 ^ N) × (v ≡ b)
IsUnsigned N (b ∷ c ∷ bs) v = (2 ^ 7 ≤ b) × (b < 2 ^ 8) × (7 < N)
    × ((m : ℕ) × IsUnsigned (N - 7) (c ∷ bs) m × (v ≡ 2 ^ 7 * m + (b - 2 ^ 7)))

-- A signed number of at most N bits (standard: Binary Format, Integers, sN): the last byte counts from -64 to 63.
abbrev pub IsSigned : ℕ → List ℕ → ℤ → Type 0
IsSigned N [] v = ⊥
IsSigned N (b ∷ []) v = ((b < 2 ^ 6) × (b < 2 ^ (N - 1)) × (v ≡ pos b))
    ⊎ ((2 ^ 6 ≤ b) × (b < 2 ^ 7) × (2 ^ 7 ≤ b + 2 ^ (N - 1)) × (v ≡ pos b -ℤ pos (2 ^ 7)))
IsSigned N (b ∷ c ∷ bs) v = (2 ^ 7 ≤ b) × (b < 2 ^ 8) × (7 < N)
    × ((m : ℤ) × IsSigned (N - 7) (c ∷ bs) m × (v ≡ (pos (2 ^ 7) *ℤ m) +ℤ pos (b - 2 ^ 7)))

-- the number below 2 ^ N that an integer of N bits is modulo 2 ^ N
abbrev pub unsigned_of : ℕ → ℤ → ℕ
unsigned_of N (pos n) = n
unsigned_of N (negsuc n) = 2 ^ N - (n + 1)

-- An uninterpreted number of N bits is written as a signed one (standard: Binary Format, Integers, iN).
abbrev pub IsInteger : ℕ → List ℕ → ℕ → Type 0
IsInteger N bytes n = (z : ℤ) × IsSigned N bytes z × (n ≡ unsigned_of N z)
