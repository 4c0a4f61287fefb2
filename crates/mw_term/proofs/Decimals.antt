-- Steps of the loop that reads digits.
use Rattle.std.proofs.Common.{if◌then◌else◌, ◌≡◌, ℕ, suc, ◌+◌, ◌-◌, ◌*◌, ◌^◌, ◌<◌, ◌≤◌, nat_le, List, length, drop}
use Rattle.std.proofs.Common.{get_or, drop-cons, add-one, refl, ap, sym, ◌∙◌, Bool, true, false, Some, None}
use Rattle.std.proofs.lemmas.Bool.{le-leb, lt-leb}
use Rattle.std.proofs.lemmas.List.{drop_all}
use Rattle.mw_term.specs.Decimals.{is_digit, number_in}

module _ (value n : ℕ) (bytes : List ℕ) where
  digit_here : n < length bytes → (d s : Bool) → is_digit (get_or bytes n 0) ≡ d
      → nat_le (10 * value + (get_or bytes n 0 - 48)) (2 ^ 63) ≡ s
      → number_in value (drop n bytes)
      ≡ (if d then (if s then number_in (10 * value + (get_or bytes n 0 - 48)) (drop (suc n) bytes) else None) else
      None)
  digit_here p d s e f =
      ap (λ r. number_in value r) (drop-cons bytes n 0 p)
      ∙ ap (λ d. if d then
      (if nat_le (10 * value + (get_or bytes n 0 - 48)) (2 ^ 63) then number_in
      (10 * value + (get_or bytes n 0 - 48)) (drop (suc n) bytes) else None) else None) e
      ∙ ap (λ s. if d then (if s then number_in (10 * value + (get_or bytes n 0 - 48)) (drop (suc n) bytes) else None)
      else None) f

  pub number_digit : n < length bytes → is_digit (get_or bytes n 0) ≡ true → 10 * value + (get_or bytes n 0 - 48)
      ≤ 2 ^ 63 → number_in (10 * value + (get_or bytes n 0 - 48)) (drop (n + 1) bytes) ≡ number_in value (drop n bytes)
  number_digit p e q = ap (λ k. number_in (10 * value + (get_or bytes n 0 - 48)) (drop k bytes)) (add-one n)
      ∙ sym (digit_here p true true e (le-leb (10 * value + (get_or bytes n 0 - 48)) (2 ^ 63) q))

  pub number_big : n < length bytes → is_digit (get_or bytes n 0) ≡ true → 2 ^ 63 < 10 * value + (get_or bytes n 0 - 48)
      → number_in value (drop n bytes) ≡ None
  number_big p e q = digit_here p true false e (lt-leb (10 * value + (get_or bytes n 0 - 48)) (2 ^ 63) q)

  pub number_other : n < length bytes → is_digit (get_or bytes n 0) ≡ false → number_in value (drop n bytes) ≡ None
  number_other p e = digit_here p false (nat_le (10 * value + (get_or bytes n 0 - 48)) (2 ^ 63)) e refl

  pub number_all : length bytes ≤ n → number_in value (drop n bytes) ≡ Some value
  number_all p = ap (λ r. number_in value r) (drop_all n bytes p)

-- a number, digit by digit
pub ruleset number_laws = (number_digit, number_big, number_other, number_all)
