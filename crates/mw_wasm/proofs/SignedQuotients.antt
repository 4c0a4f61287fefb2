-- The quotient of two signed numbers fits their width but for the least number by -1.
use Rattle.std.proofs.Common.{◌≡◌, ⊎_elim, refl, ap, ap₂, sym, subst, ◌∙◌, Bool, true, false, ◌==◌, ◌&&◌, ◌-◌, ◌/◌, ◌<◌}
use Rattle.std.proofs.Common.{◌^◌, ℕ, zero, suc, ℤ, pos, negsuc, neg_ℤ, Ok, Err, div-le_self, div-one, eq-or-lt_of_le}
use Rattle.std.proofs.Common.{arith}
use Rattle.std.proofs.Math.Nat.{div-lt_self}
use Rattle.std.proofs.lemmas.Bool.Decides.{Decides-eqb}
use Rattle.std.proofs.lemmas.Int.{of_z-to_z, to_z-of_z}
use Rattle.std.specs.Int.{Width, CanDivide, cast_signed, cast_unsigned}
use Rattle.std.specs.Int.RustNames.{FitsSigned, int_div}
use mir.Facts.{sfits_to_z, to_z-neg}
use mir.Val.{bits, hbits}
use mir.ValLaws.{pow-bits}
use lib.Pow.{pow_pos}
use lib.Signed.{mag}
use Rattle.mw_wasm.specs.declared.values.Trap.TheVariants as trap
use Rattle.mw_wasm.specs.Numerics.{divided_by, is_least, is_minus_one, signed_quotient}

-- a signed reading, passed on as bits
read_again : (w : Width) (a : ℕ) (x : ℤ) → a < 2 ^ bits w → x ≡ cast_signed w a → cast_signed w (cast_unsigned w x)
    ≡ cast_signed w a
read_again w a x h e = ap (λ (z : ℤ). cast_signed w (cast_unsigned w z)) e ∙ ap (cast_signed w) (of_z-to_z w a h)

-- the least number, and -1, by their bits
read_least : (w : Width) (a : ℕ) → is_least w a ≡ true → cast_signed w a ≡ negsuc (2 ^ hbits w - 1)
read_least w a e =
    let same : a ≡ 2 ^ hbits w = (Decides-eqb a (2 ^ hbits w)).0 e in
    let bits_of : a ≡ 2 ^ bits w - suc (2 ^ hbits w - 1) = omega (arith, pow-bits w, pow_pos (hbits w)) in
    ap (cast_signed w) bits_of ∙ to_z-neg w (2 ^ hbits w - 1) (omega (arith, pow_pos (hbits w)))

read_minus_one : (w : Width) (a : ℕ) → is_minus_one w a ≡ true → cast_signed w a ≡ negsuc 0
read_minus_one w a e = ap (cast_signed w) ((Decides-eqb a (2 ^ bits w - 1)).0 e) ∙ to_z-neg w 0 (pow_pos (hbits w))

least_read : (w : Width) (a : ℕ) → a < 2 ^ bits w → cast_signed w a ≡ negsuc (2 ^ hbits w - 1) → is_least w a ≡ true
least_read w a h e =
    let bits_of : a ≡ 2 ^ bits w - suc (2 ^ hbits w - 1) = sym (of_z-to_z w a h) ∙ ap (cast_unsigned w) e in
    (Decides-eqb a (2 ^ hbits w)).1 (omega (arith, pow-bits w, pow_pos (hbits w)))

minus_one_read : (w : Width) (a : ℕ) → a < 2 ^ bits w → cast_signed w a ≡ negsuc 0 → is_minus_one w a ≡ true
minus_one_read w a h e = (Decides-eqb a (2 ^ bits w - 1)).1 (sym (of_z-to_z w a h) ∙ ap (cast_unsigned w) e)

not_both : (p q : Bool) → (p ≡ true → q ≡ true → false ≡ true) → p && q ≡ false
not_both true true f = sym (f refl refl)
not_both true false f = refl
not_both false q f = refl

both : (p q : Bool) → ((p ≡ true → q ≡ true → false ≡ true) → false ≡ true) → p && q ≡ true
both true true f = refl
both true false f = f (λ p q. q)
both false q f = f (λ p q. p)

-- the one quotient that does not fit
least_by_minus_one : (w : Width) → FitsSigned w (int_div (negsuc (2 ^ hbits w - 1)) (negsuc 0)) → false ≡ true
least_by_minus_one w large = absurd (omega (arith, large.sfits, div-one (suc (2 ^ hbits w - 1)), pow_pos (hbits w)))

mag_neg : (n : ℕ) → mag (neg_ℤ (pos n)) ≡ n - 1
mag_neg zero = refl
mag_neg (suc n) = omega arith

by_minus_one : (w : Width) (a : ℕ) → (negsuc a ≡ negsuc (2 ^ hbits w - 1) → negsuc 0 ≡ negsuc 0 → false ≡ true)
    → a < 2 ^ hbits w → suc a < 2 ^ hbits w
by_minus_one w a o f = ⊎_elim (λ (e : suc a ≡ 2 ^ hbits w). absurd (cc (o (ap negsuc (omega arith)) refl))) (λ l. l)
    (eq-or-lt_of_le (omega arith))

fits : (w : Width) (x y : ℤ) → (x ≡ negsuc (2 ^ hbits w - 1) → y ≡ negsuc 0 → false ≡ true) → FitsSigned w x
    → FitsSigned w (int_div x y)
fits w (pos a) (pos b) o f = record { sfits = omega (arith, div-le_self a b, f.sfits) }
fits w (pos a) (negsuc b) o f = record { sfits = omega (arith, mag_neg (a / suc b), div-le_self a (suc b), f.sfits) }
fits w (negsuc a) (pos b) o f = record { sfits = omega (arith, mag_neg (suc a / b), div-le_self (suc a) b, f.sfits) }
fits w (negsuc a) (negsuc zero) o f = record { sfits = omega (arith, div-one (suc a), by_minus_one w a o f.sfits) }
fits w (negsuc a) (negsuc (suc b)) o f =
    record { sfits = omega (arith, div-lt_self {n = suc a} {k = suc (suc b)} (omega arith) (omega arith), f.sfits) }

not_zero : (t : Bool) (b : ℕ) → (t ≡ true → b ≡ 0) → (b ≡ 0 → ⊥) → t ≡ false
not_zero true b f p = absurd (p (f refl))
not_zero false b f p = refl

-- what a division that is made gives, where x and y are the operands' signed readings
pub quotient_fits : (w : Width) (a b : ℕ) (x y : ℤ) → a < 2 ^ bits w → b < 2 ^ bits w → (b ≡ 0 → ⊥)
    → x ≡ cast_signed w a → y ≡ cast_signed w b
    → FitsSigned w (int_div (cast_signed w (cast_unsigned w x)) (cast_signed w (cast_unsigned w y))) → (q : ℤ)
    → q ≡ int_div (cast_signed w (cast_unsigned w x)) (cast_signed w (cast_unsigned w y)) → (n : ℕ)
    → n ≡ cast_unsigned w (cast_signed w (cast_unsigned w q)) → divided_by b (signed_quotient w a b) ≡ Ok n
quotient_fits w a b x y ha hb p ex ey f q eq n en =
    let quotients = ap₂ int_div (read_again w a x ha ex) (read_again w b y hb ey) in
    let f2 : FitsSigned w (int_div (cast_signed w a) (cast_signed w b)) = subst (FitsSigned w) quotients f in
    let tests : is_least w a && is_minus_one w b ≡ false = not_both (is_least w a) (is_minus_one w b)
    (λ l m. least_by_minus_one w (subst (FitsSigned w) (ap₂ int_div (read_least w a l) (read_minus_one w b m)) f2))
    in
    let same : q ≡ int_div (cast_signed w a) (cast_signed w b) = eq ∙ quotients in
    let passed : n ≡ cast_unsigned w (int_div (cast_signed w a) (cast_signed w b)) =
    en ∙ ap (λ (z : ℤ). cast_unsigned w (cast_signed w (cast_unsigned w z))) same
    ∙ ap (cast_unsigned w) (to_z-of_z w (int_div (cast_signed w a) (cast_signed w b)) f2) in
    rw (not_zero (b == 0) b (Decides-eqb b 0).0 p, tests) (ap Ok (sym passed))

-- why a division is not made
pub quotient_overflows : (w : Width) (a b : ℕ) (x y : ℤ) → a < 2 ^ bits w → b < 2 ^ bits w → (b ≡ 0 → ⊥)
    → x ≡ cast_signed w a → y ≡ cast_signed w b
    → (CanDivide w (cast_signed w (cast_unsigned w x)) (cast_signed w (cast_unsigned w y)) → ⊥)
    → divided_by b (signed_quotient w a b) ≡ Err trap.Overflow
quotient_overflows w a b x y ha hb p ex ey f =
    let no : CanDivide w (cast_signed w a) (cast_signed w b) → false ≡ true = λ h.
    absurd (f (subst (λ (u : ℤ). CanDivide w u (cast_signed w (cast_unsigned w y))) (sym (read_again w a x ha ex))
    (subst (CanDivide w (cast_signed w a)) (sym (read_again w b y hb ey)) h))) in
    let tests : is_least w a && is_minus_one w b ≡ true = both (is_least w a) (is_minus_one w b)
    (λ o. no (
      omega (arith, of_z-to_z w b hb),
      fits w (cast_signed w a) (cast_signed w b)
          (λ l m. o (least_read w a ha l) (minus_one_read w b hb m)) (sfits_to_z {w = w} record { fits = ha }),
    )) in
    rw (not_zero (b == 0) b (Decides-eqb b 0).0 p, tests) refl
