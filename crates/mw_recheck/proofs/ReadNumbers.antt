-- Numbers that are read are those that are spelled.
use Rattle.std.proofs.Common.{rules, ◌≡◌, ℕ, ◌+◌, ◌-◌, ◌*◌, ◌^◌, ◌<◌, ◌≤◌, ◌==◌, nat_le, nat_lt}
use Rattle.std.proofs.Common.{List, [], ◌∷◌, ◌++◌, get_or, refl, sym, ◌∙◌, ap, subst, arith, true, false}
use Rattle.std.proofs.Common.{Some, ⊎_elim}
use Rattle.std.specs.Int.{IsInRange}
use Rattle.std.specs.Fmt.{decimal}
use Rattle.std.proofs.lemmas.Bool.{and_parts, and_from, le-leb, leb-true, lt-ltb, ltb-true, ne_eqb, eq-eqb, eqb-true, eqb-false}
use Rattle.std.proofs.lemmas.Bool.{cases_lt}
use Rattle.std.proofs.lemmas.Option.{none-some, same_Some}
use Rattle.std.proofs.lemmas.Str.Parse.{IsNumeralModel, numerals_by_fold}
use Rattle.std.proofs.lemmas.Fmt.{decimal_is_IsNumeral, decimal_digit, first_decimal, decimal-digits_value}
use Rattle.mw_recheck.proofs.NodeLines.{passed, by_test}
use Rattle.mw_recheck.specs.Reading.{behind, is_digit, digits_at, number_at}

pub behind_found : (text bytes rest : List ℕ) → behind text bytes ≡ Some rest → bytes ≡ text ++ rest
behind_found [] bytes rest h = same_Some bytes rest h
behind_found (t ∷ text) [] rest h = absurd (none-some rest h)
behind_found (t ∷ text) (b ∷ bytes) rest h =
    let p = passed (t == b) _ rest h in rw (eqb-true t b p.0, behind_found text bytes rest p.1) refl

pub behind_there : (text rest : List ℕ) → behind text (text ++ rest) ≡ Some rest
behind_there [] rest = refl
behind_there (t ∷ text) rest = rw (eq-eqb t t refl) (behind_there text rest)

abbrev AreDigits : List ℕ → Type 0
AreDigits [] = Unit {0}
AreDigits (b ∷ bytes) = IsInRange 48 57 b × AreDigits bytes

abbrev value_after : ℕ → List ℕ → ℕ
value_after n [] = n
value_after n (b ∷ bytes) = value_after (10 * n + (b - 48)) bytes

own : IsNumeralModel AreDigits (value_after 0)
own = numerals_by_fold _ (search rules) value_after (search rules)

digit_is : (b : ℕ) → is_digit b ≡ true → IsInRange 48 57 b
digit_is b e = let p = and_parts (nat_le 48 b) (nat_le b 57) e in (leb-true 48 b p.0, leb-true b 57 p.1)

digit_from : (b : ℕ) → IsInRange 48 57 b → is_digit b ≡ true
digit_from b p = and_from (nat_le 48 b) (nat_le b 57) (le-leb 48 b p.0) (le-leb b 57 p.1)

-- digits at the front of bytes, what they are worth after a value, and what follows them
record Digits (value : ℕ) (bytes : List ℕ) (n : ℕ) (rest : List ℕ) : Type 0 where
  digits : List ℕ
  parts : bytes ≡ digits ++ rest
  of_digits : AreDigits digits
  worth : value_after value digits ≡ n
  small : value < 2 ^ 64 → n < 2 ^ 64

no_digits : (value : ℕ) (rest : List ℕ) (y : ℕ × List ℕ) → Some (value, rest) ≡ Some y → Digits value rest y.0 y.1
no_digits value rest y e =
    subst (λ z. Digits value rest z.0 z.1) (same_Some (value, rest) y e)
    (record { digits = []; parts = refl; of_digits = tt; worth = refl; small = λ p. p })

digits_found : (value : ℕ) (bytes : List ℕ) (y : ℕ × List ℕ) → digits_at value bytes ≡ Some y
    → Digits value bytes y.0 y.1
digits_found value [] y e = no_digits value [] y e
digits_found value (b ∷ bytes) y e =
    by_test (is_digit b) _ _ y e (λ p e.
    let q = passed (nat_lt (10 * value + (b - 48)) (2 ^ 64)) _ y e in
    let rest = digits_found (10 * value + (b - 48)) bytes y q.1 in
    record {
      digits = b ∷ rest.digits;
      parts = ap (λ l. b ∷ l) rest.parts;
      of_digits = (digit_is b p, rest.of_digits);
      worth = rest.worth;
      small = λ _. rest.small (ltb-true (10 * value + (b - 48)) (2 ^ 64) q.0);
    }) (λ p e. no_digits value (b ∷ bytes) y e)

first_value : (b : ℕ) → 10 * 0 + (b - 48) ≡ b - 48
first_value b = omega arith

pub number_found : (bytes : List ℕ) (y : ℕ × List ℕ) → number_at bytes ≡ Some y
    → (bytes ≡ decimal y.0 ++ y.1) × (y.0 < 2 ^ 64)
number_found [] y e = absurd (none-some y e)
number_found (b ∷ bytes) y e =
    by_test (b == 48) _ _ y e (λ p e.
    subst (λ z. (b ∷ bytes ≡ decimal z.0 ++ z.1) × (z.0 < 2 ^ 64)) (same_Some (0, bytes) y e)
    (rw (eqb-true b 48 p, decimal_digit 0 (omega arith)) refl, omega arith)) (λ q e.
    let p = passed (is_digit b) _ y e in
    let d = digits_found (b - 48) bytes y p.1 in
    let range = digit_is b p.0 in
    let small = d.small (omega (arith, range.1)) in
    let worth : value_after 0 (b ∷ d.digits) ≡ y.0 = ap (λ k. value_after k d.digits) (first_value b) ∙ d.worth in
    let spelled = decimal-digits_value own (b ∷ d.digits) (range, d.of_digits) (omega arith)
    (λ z. absurd (eqb-false b 48 q z)) (omega (arith, worth, small)) in
    (ap (λ l. b ∷ l) d.parts ∙ ap (λ l. l ++ y.1) (sym spelled ∙ ap decimal worth), small))

-- what follows a number is no digit
abbrev pub Ends : List ℕ → Type 0
Ends [] = Unit {0}
Ends (b ∷ bytes) = is_digit b ≡ false

value_grows : (value : ℕ) (bytes : List ℕ) → value ≤ value_after value bytes
value_grows value [] = omega arith
value_grows value (b ∷ bytes) = omega (arith, value_grows (10 * value + (b - 48)) bytes)

digits_there : (value : ℕ) (digits rest : List ℕ) → AreDigits digits → value_after value digits < 2 ^ 64 → Ends rest
    → digits_at value (digits ++ rest) ≡ Some (value_after value digits, rest)
digits_there value [] [] d p e = refl
digits_there value [] (b ∷ rest) d p e = rw e refl
digits_there value (b ∷ digits) rest d p e =
    let small : 10 * value + (b - 48) < 2 ^ 64 = omega (arith, value_grows (10 * value + (b - 48)) digits) in
    rw (digit_from b d.0, lt-ltb (10 * value + (b - 48)) (2 ^ 64) small) (digits_there (10 * value +
    (b - 48)) digits rest d.1 p e)

pub number_there : (n : ℕ) (rest : List ℕ) → n < 2 ^ 64 → Ends rest → number_at (decimal n ++ rest) ≡ Some (n, rest)
number_there n rest small e = ⊎_elim (λ q. positive q) (λ q. nothing (omega arith)) (cases_lt 0 n)
  where
    nothing : n ≡ 0 → number_at (decimal n ++ rest) ≡ Some (n, rest)
    nothing z = rw (z, decimal_digit 0 (omega arith)) refl

    spelled : (digits : List ℕ) → AreDigits digits → value_after 0 digits ≡ n → 48 < get_or digits 0 0
        → number_at (digits ++ rest) ≡ Some (n, rest)
    spelled [] d w f = absurd (omega arith)
    spelled (b ∷ digits) d w f =
        let not_zero : (b == 48) ≡ false = ne_eqb b 48 (λ z. omega arith) in
        let worth : value_after (b - 48) digits ≡ n = sym (ap (λ k. value_after k digits) (first_value b)) ∙ w in
        rw (not_zero, digit_from b d.0) (digits_there (b - 48) digits rest d.1 (omega (arith, worth)) e
        ∙ ap (λ k. Some (k, rest)) worth)

    positive : 0 < n → number_at (decimal n ++ rest) ≡ Some (n, rest)
    positive q =
        let numeral = decimal_is_IsNumeral n small in
        spelled (decimal n) (own.from (decimal n) numeral.0.1) (own.same (decimal n) numeral.0.1
        ∙ numeral.1) (first_decimal n q small)
