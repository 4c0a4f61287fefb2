-- Words that spell numbers: just the decimal spellings.
use Rattle.std.proofs.Common.{rules, ◌≡◌, ℕ, zero, suc, ◌+◌, ◌-◌, ◌*◌, ◌/◌, ◌%◌, ◌^◌, ◌<◌, ◌≤◌, ◌==◌, nat_le, nat_lt}
use Rattle.std.proofs.Common.{List, [], ◌∷◌, length, get_or, refl, sym, ◌∙◌, ap, subst, arith, Bool, true, false}
use Rattle.std.proofs.Common.{Option, Some, None, ⊎_elim}
use Rattle.std.specs.Prelude.{ℤ, pos, negsuc, FitsSigned, if◌then◌else◌, not}
use Rattle.std.specs.Int.{w64, IsInRange}
use Rattle.std.specs.Fmt.{decimal, signed_decimal, digits, digits_onto, digit_glyph}
use Rattle.std.proofs.lemmas.Bool.{and_parts, and_from, le-leb, leb-true, lt-ltb, ltb-true, ne_eqb, eqb-true, eqb-false}
use Rattle.std.proofs.lemmas.Bool.{cases_lt}
use Rattle.std.proofs.lemmas.Option.{none-some, same_Some, cond_some}
use Rattle.std.proofs.lemmas.Str.Parse.{IsNumeralModel, numerals_by_fold}
use Rattle.std.proofs.lemmas.Fmt.{decimal_is_IsNumeral, decimal_digit, first_decimal, decimal-digits_value}
use Rattle.mw_term.specs.Decimals.{is_digit, number_in}
use Rattle.mw_key.specs.Numbers.{natural_of, positive, negative, integer_of, below}
use Rattle.mw_key.proofs.Words.{is_space, no_space}

abbrev AreDigits : List ℕ → Type 0
AreDigits [] = Unit {0}
AreDigits (b ∷ bytes) = IsInRange 48 57 b × AreDigits bytes

abbrev value_after : ℕ → List ℕ → ℕ
value_after n [] = n
value_after n (b ∷ bytes) = value_after (10 * n + (b - 48)) bytes

own : IsNumeralModel AreDigits (value_after 0)
own = numerals_by_fold _ (search rules) value_after (search rules)

digit_is : (b : ℕ) → is_digit b ≡ true → IsInRange 48 57 b
digit_is b e = let p = and_parts (nat_le 48 b) (nat_le b 57) e in (leb-true 48 b p.0, leb-true b 57 p.1)

is_digit_from : (b : ℕ) → IsInRange 48 57 b → is_digit b ≡ true
is_digit_from b p = and_from (nat_le 48 b) (nat_le b 57) (le-leb 48 b p.0) (le-leb b 57 p.1)

record IsNumber (value : ℕ) (bytes : List ℕ) (n : ℕ) : Type 0 where
  of_digits : AreDigits bytes
  worth : value_after value bytes ≡ n
  at_most : value ≤ 2 ^ 63 → n ≤ 2 ^ 63

number_found : (value : ℕ) (bytes : List ℕ) (n : ℕ) → number_in value bytes ≡ Some n → IsNumber value bytes n
number_found value [] n e = let same : value ≡ n = same_Some value n e in
    record { of_digits = tt; worth = same; at_most = λ p. omega arith }
number_found value (b ∷ bytes) n e = by_digit (number_found (10 * value + (b - 48)) bytes n) (is_digit b)
    (nat_le (10 * value + (b - 48)) (2 ^ 63)) refl refl e
  where
    by_digit : (number_in (10 * value + (b - 48)) bytes ≡ Some n → IsNumber (10 * value + (b - 48)) bytes n)
        → (d s : Bool) → is_digit b ≡ d → nat_le (10 * value + (b - 48)) (2 ^ 63) ≡ s
        → (if d then (if s then number_in (10 * value + (b - 48)) bytes else None) else None) ≡ Some n
        → IsNumber value (b ∷ bytes) n
    by_digit more false s p q e = absurd (none-some n e)
    by_digit more true false p q e = absurd (none-some n e)
    by_digit more true true p q e =
        let rest = more e in
        record {
          of_digits = (digit_is b p, rest.of_digits);
          worth = rest.worth;
          at_most = λ _.
              rest.at_most (leb-true (10 * value + (b - 48)) (2 ^ 63) q);
        }

value_grows : (value : ℕ) (bytes : List ℕ) → value ≤ value_after value bytes
value_grows value [] = omega arith
value_grows value (b ∷ bytes) = omega (arith, value_grows (10 * value + (b - 48)) bytes)

number_from : (value : ℕ) (bytes : List ℕ) → AreDigits bytes → value_after value bytes ≤ 2 ^ 63 → number_in value bytes
    ≡ Some (value_after value bytes)
number_from value [] d p = refl
number_from value (b ∷ bytes) d p =
    let small : 10 * value + (b - 48) ≤ 2 ^ 63 = omega (arith, value_grows (10 * value + (b - 48)) bytes) in
    rw (is_digit_from b d.0, le-leb (10 * value + (b - 48)) (2 ^ 63) small)
    (number_from (10 * value + (b - 48)) bytes d.1 p)

decimal_of : (bytes : List ℕ) (n : ℕ) → number_in 0 bytes ≡ Some n → 0 < length bytes
    → (get_or bytes 0 0 ≡ 48 → length bytes ≡ 1) → (bytes ≡ decimal n) × (n ≤ 2 ^ 63)
decimal_of bytes n e some lead =
    let number = number_found 0 bytes n e in
    let small : n ≤ 2 ^ 63 = number.at_most (omega arith) in (
      sym (decimal-digits_value own bytes number.of_digits some lead (omega (arith, number.worth)))
          ∙ ap decimal number.worth,
      small,
    )

pub natural_found : (bytes : List ℕ) (n : ℕ) → natural_of bytes ≡ Some n → (bytes ≡ decimal n) × (n ≤ 2 ^ 63)
natural_found [] n e = absurd (none-some n e)
natural_found (b ∷ []) n e = decimal_of (b ∷ []) n e (omega arith) (λ _. refl)
natural_found (b ∷ c ∷ bytes) n e = by_zero (b == 48) refl e
  where
    by_zero : (t : Bool) → (b == 48) ≡ t → (if t then None else number_in 0 (b ∷ c ∷ bytes)) ≡ Some n
        → (b ∷ c ∷ bytes ≡ decimal n) × (n ≤ 2 ^ 63)
    by_zero true p e = absurd (none-some n e)
    by_zero false p e = decimal_of (b ∷ c ∷ bytes) n e (omega arith) (λ z. absurd (eqb-false b 48 p z))

-- how a number is spelled
record IsSpelling (n : ℕ) (bytes : List ℕ) : Type 0 where
  some : 0 < length bytes
  of_digits : AreDigits bytes
  worth : value_after 0 bytes ≡ n
  first : 0 < n → 48 < get_or bytes 0 0
  zero_alone : n ≡ 0 → length bytes ≡ 1

spelling : (n : ℕ) → n ≤ 2 ^ 63 → IsSpelling n (decimal n)
spelling n p =
    let small : n < 2 ^ 64 = omega arith in
    let numeral = decimal_is_IsNumeral n small in
    let own_digits = own.from (decimal n) numeral.0.1 in
    record {
      some = numeral.0.0;
      of_digits = own_digits;
      worth = own.same (decimal n) numeral.0.1 ∙ numeral.1;
      first = λ q. first_decimal n q small;
      zero_alone = λ z. ap (λ k. length (decimal k)) z ∙ ap length (decimal_digit 0 (omega arith));
    }

natural_spelled : (n : ℕ) (bytes : List ℕ) → n ≤ 2 ^ 63 → IsSpelling n bytes → natural_of bytes ≡ Some n
natural_spelled n [] p s = absurd (let q = s.some in omega arith)
natural_spelled n (b ∷ []) p s = number_from 0 (b ∷ []) s.of_digits (omega (arith, s.worth)) ∙ ap Some s.worth
natural_spelled n (b ∷ c ∷ bytes) p s =
    let positive_n : 0 < n = ⊎_elim (λ q. q) (λ q. absurd (let one = s.zero_alone (omega arith) in omega arith))
    (cases_lt 0 n) in
    let not_zero : (b == 48) ≡ false = ne_eqb b 48 (λ z. let q = s.first positive_n in omega arith) in
    rw not_zero (number_from 0 (b ∷ c ∷ bytes) s.of_digits (omega (arith, s.worth)) ∙ ap Some s.worth)

pub natural_from : (n : ℕ) → n ≤ 2 ^ 63 → natural_of (decimal n) ≡ Some n
natural_from n p = natural_spelled n (decimal n) p (spelling n p)

pub below_found : (bound : ℕ) (bytes : List ℕ) (n : ℕ) → below bound (natural_of bytes) ≡ Some n → (bytes ≡ decimal n)
    × (n < bound)
below_found bound bytes n e = by_number (natural_of bytes) refl e
  where
    by_number : (o : Option ℕ) → natural_of bytes ≡ o → below bound o ≡ Some n → (bytes ≡ decimal n) × (n < bound)
    by_number None f e = absurd (none-some n e)
    by_number (Some m) f e = let found = cond_some (nat_lt m bound) m n e in
        subst (λ k. (bytes ≡ decimal k) × (k < bound)) found.1
        ((natural_found bytes m f).0, ltb-true m bound found.0)

pub below_from : (bound n : ℕ) → n < bound → n ≤ 2 ^ 63 → below bound (natural_of (decimal n)) ≡ Some n
below_from bound n p q = rw (natural_from n q, lt-ltb n bound p) refl

signed_of : (bytes : List ℕ) (z : ℤ) → positive (natural_of bytes) ≡ Some z → (bytes ≡ signed_decimal z)
    × FitsSigned w64 z
signed_of bytes z e = by_number (natural_of bytes) refl e
  where
    by_number : (o : Option ℕ) → natural_of bytes ≡ o → positive o ≡ Some z → (bytes ≡ signed_decimal z)
        × FitsSigned w64 z
    by_number None f e = absurd (none-some z e)
    by_number (Some m) f e =
        let found = cond_some (nat_lt m (2 ^ 63)) (pos m) z e in
        subst (λ y. (bytes ≡ signed_decimal y) × FitsSigned w64 y) found.1
        ((natural_found bytes m f).0, record { sfits = ltb-true m (2 ^ 63) found.0 })

minus_of : (bytes : List ℕ) (z : ℤ) → negative (natural_of bytes) ≡ Some z → (45 ∷ bytes ≡ signed_decimal z)
    × FitsSigned w64 z
minus_of bytes z e = by_number (natural_of bytes) refl e
  where
    by_number : (o : Option ℕ) → natural_of bytes ≡ o → negative o ≡ Some z → (45 ∷ bytes ≡ signed_decimal z)
        × FitsSigned w64 z
    by_number None f e = absurd (none-some z e)
    by_number (Some zero) f e = absurd (none-some z e)
    by_number (Some (suc m)) f e =
        let found = natural_found bytes (suc m) f in
        let small : m < 2 ^ 63 = (let q = found.1 in omega arith) in
        let fits : FitsSigned w64 (negsuc m) = record { sfits = small } in
        subst (λ y. (45 ∷ bytes ≡ signed_decimal y) × FitsSigned w64 y) (same_Some (negsuc m) z e)
        (ap (λ l. 45 ∷ l) found.0, fits)

pub integer_found : (bytes : List ℕ) (z : ℤ) → integer_of bytes ≡ Some z → (bytes ≡ signed_decimal z) × FitsSigned w64 z
integer_found [] z e = absurd (none-some z e)
integer_found (b ∷ bytes) z e = by_sign (b == 45) refl e
  where
    by_sign : (t : Bool) → (b == 45) ≡ t
        → (if t then negative (natural_of bytes) else positive (natural_of (b ∷ bytes))) ≡ Some z
        → (b ∷ bytes ≡ signed_decimal z) × FitsSigned w64 z
    by_sign true p e = let found = minus_of bytes z e in (ap (λ c. c ∷ bytes) (eqb-true b 45 p) ∙ found.0, found.1)
    by_sign false p e = signed_of (b ∷ bytes) z e

plain : (bytes : List ℕ) → AreDigits bytes → integer_of bytes ≡ positive (natural_of bytes)
plain [] d = refl
plain (b ∷ bytes) d = let other : (b == 45) ≡ false = ne_eqb b 45 (λ e. let low = d.0.0 in omega arith) in rw other refl

pub integer_from : (z : ℤ) → FitsSigned w64 z → integer_of (signed_decimal z) ≡ Some z
integer_from (pos n) fits =
    let small : n < 2 ^ 63 = fits.sfits in
    let s = spelling n (omega arith) in
    plain (decimal n) s.of_digits ∙ rw (natural_from n (omega arith), lt-ltb n (2 ^ 63) small) refl
integer_from (negsuc n) fits = let small : n < 2 ^ 63 = fits.sfits in ap negative (natural_from (suc n) (omega arith))

-- a number has no space
glyph_no_space : (d : ℕ) → is_space (digit_glyph false d) ≡ false
glyph_no_space d = by_small (nat_lt d 10)
  where
    by_small : (t : Bool) → is_space (if t then 48 + d else 87 + d) ≡ false
    by_small true = ne_eqb (48 + d) 32 (λ e. omega arith)
    by_small false = ne_eqb (87 + d) 32 (λ e. omega arith)

onto_no_space : (k n : ℕ) (bytes : List ℕ) → no_space bytes ≡ true → no_space (digits_onto k 10 false n bytes) ≡ true
onto_no_space zero n bytes p = p
onto_no_space (suc k) n bytes p =
    let more : no_space (digit_glyph false (n % 10) ∷ bytes) ≡ true =
    and_from (not (is_space (digit_glyph false (n % 10)))) (no_space bytes) (ap not (glyph_no_space (n % 10))) p in
    by_last more (onto_no_space k (n / 10) (digit_glyph false (n % 10) ∷ bytes) more) (n / 10 == 0)
  where
    by_last : no_space (digit_glyph false (n % 10) ∷ bytes) ≡ true
        → no_space (digits_onto k 10 false (n / 10) (digit_glyph false (n % 10) ∷ bytes)) ≡ true → (t : Bool)
        → no_space (if t then digit_glyph false (n % 10) ∷ bytes else digits_onto k 10 false (n / 10)
        (digit_glyph false (n % 10) ∷ bytes)) ≡ true
    by_last one more true = one
    by_last one more false = more

pub decimal_no_space : (n : ℕ) → no_space (decimal n) ≡ true
unfolding digits
decimal_no_space n = onto_no_space 64 n [] refl

pub signed_no_space : (z : ℤ) → no_space (signed_decimal z) ≡ true
signed_no_space (pos n) = decimal_no_space n
signed_no_space (negsuc n) = decimal_no_space (suc n)
