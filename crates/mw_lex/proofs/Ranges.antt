-- Numbers in range after the last two tokens, and what a run of digits is worth.
use Rattle.std.proofs.Common.{◌≡◌, ℕ, ◌+◌, ◌-◌, ◌*◌, ◌^◌, ◌<◌, ◌≤◌, nat_le, List, [], ◌∷◌, ◌++◌, refl, sym, arith, Bool}
use Rattle.std.proofs.Common.{true, false, ◌&&◌, if◌then◌else◌, Option, Some, None}
use Rattle.std.proofs.lemmas.Bool.{false≢true, leb-true, leb-false}
use Rattle.std.specs.List.{AllByRecursion}
use Rattle.mw_lex.specs.Bytes.{IsDigit}
use Rattle.mw_lex.specs.Texts.{decimal}
use Rattle.mw_lex.specs.Tokens.{Symbol, PureToken, token, paren_left, minus}
use Rattle.mw_lex.specs.InOrder.{MayStand, IsInRange, AreInRange}
use Rattle.mw_term.specs.Decimals.{is_digit, number_in}
use Rattle.mw_lex.specs.Pieces.{next_to_last, last, is_paren_left, is_minus}
use Rattle.mw_lex.proofs.ByteTests.{denied, digit_true, true_digit}

pub range_push : (a b : Symbol) (tokens : List PureToken) (start stop : ℕ) (s : Symbol) → AreInRange a b tokens
    → IsInRange (next_to_last a b tokens) (last b tokens) s → AreInRange a b (tokens ++ token start stop s ∷ [])
range_push a b [] start stop s r i = (i, tt)
range_push a b (token from to t ∷ tokens) start stop s r i = (r.0, range_push b t tokens start stop s r.1 i)

pub range_last : (a b : Symbol) (tokens : List PureToken) (start stop : ℕ) (s : Symbol) (more : List PureToken)
    → AreInRange a b (tokens ++ token start stop s ∷ more) → IsInRange (next_to_last a b tokens) (last b tokens) s
range_last a b [] start stop s more r = r.0
range_last a b (token from to t ∷ tokens) start stop s more r = range_last b t tokens start stop s more r.1

pub range_front : (a b : Symbol) (tokens : List PureToken) (t : PureToken) (more : List PureToken)
    → AreInRange a b (tokens ++ t ∷ more) → AreInRange a b (tokens ++ t ∷ [])
range_front a b [] (token start stop s) more r = (r.0, tt)
range_front a b (token from to t ∷ tokens) u more r = (r.0, range_front b t tokens u more r.1)

pub stands_below : (a b : Symbol) (n : ℕ) → n < 2 ^ 63 → MayStand a b n
stands_below paren_left minus n p = omega (arith, p)
stands_below a b n p = p

pub stands_lowest : (a b : Symbol) (n : ℕ) → (is_paren_left a && is_minus b) ≡ true → n ≤ 2 ^ 63 → MayStand a b n
stands_lowest paren_left minus n e p = p
stands_lowest paren_left b n e p = absurd (false≢true e)
stands_lowest a b n e p = absurd (false≢true e)

pub stands_only : (a b : Symbol) (n : ℕ) → MayStand a b n → n ≤ 2 ^ 63
stands_only paren_left minus n p = p
stands_only a b n p = omega (arith, p)

pub stands_else : (a b : Symbol) (n : ℕ) → (is_paren_left a && is_minus b) ≡ false → MayStand a b n → n < 2 ^ 63
stands_else paren_left minus n e p = absurd (false≢true (sym e))
stands_else a b n e p = p

-- what reading a number answers
abbrev pub NumberIs : ℕ → List ℕ → Option ℕ → Type 0
NumberIs front text None = AllByRecursion IsDigit text → 2 ^ 63 < decimal front text
NumberIs front text (Some n) = AllByRecursion IsDigit text × (n ≡ decimal front text) × (n ≤ 2 ^ 63)

least : (front : ℕ) (text : List ℕ) → front ≤ decimal front text
least front [] = omega arith
least front (b ∷ text) = omega (arith, least (10 * front + (b - 48)) text)

number_digits : (front b : ℕ) (text : List ℕ) → IsDigit b → (o : Option ℕ) → NumberIs (10 * front + (b - 48)) text o
    → NumberIs front (b ∷ text) o
number_digits front b text d None h = λ a. h a.1
number_digits front b text d (Some n) h = ((d, h.0), h.1, h.2)

pub number_is : (front : ℕ) (text : List ℕ) → front ≤ 2 ^ 63 → NumberIs front text (number_in front text)
number_is front [] p = (tt, refl, p)
number_is front (b ∷ text) p = by_digit (number_is (10 * front + (b - 48)) text) (is_digit b) refl
    (nat_le (10 * front + (b - 48)) (2 ^ 63)) refl
  where
    by_digit : (10 * front + (b - 48) ≤ 2 ^ 63 → NumberIs (10 * front + (b - 48)) text
        (number_in (10 * front + (b - 48)) text)) → (d : Bool) → is_digit b ≡ d → (s : Bool)
        → nat_le (10 * front + (b - 48)) (2 ^ 63) ≡ s
        → NumberIs front (b ∷ text) (if d then (if s then number_in (10 * front + (b - 48)) text else None) else None)
    by_digit more true e true f = number_digits front b text (digit_true b e) (number_in (10 * front + (b - 48)) text)
        (more (leb-true (10 * front + (b - 48)) (2 ^ 63) f))
    by_digit more true e false f = λ a.
        omega (arith, leb-false (10 * front + (b - 48)) (2 ^ 63) f, least (10 * front + (b - 48)) text)
    by_digit more false e s f = λ a. absurd (denied (true_digit b) e a.0)
