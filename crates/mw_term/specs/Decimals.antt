-- Decimal digits, and the number that they spell.
use Rattle.std.specs.Prelude.{ℕ, ◌+◌, ◌*◌, ◌-◌, ◌^◌, Bool, ◌&&◌, nat_le, if◌then◌else◌, List, [], ◌∷◌, Option, Some, None}

abbrev pub is_digit : ℕ → Bool
is_digit b = nat_le 48 b && nat_le b 57

-- the value of digits after a front of this value, which is at most 2^63
abbrev pub number_in : ℕ → List ℕ → Option ℕ
number_in value [] = Some value
number_in value (b ∷ bytes) =
    if is_digit b then (if nat_le (10 * value + (b - 48)) (2 ^ 63) then number_in (10 * value + (b - 48)) bytes else
    None) else None
