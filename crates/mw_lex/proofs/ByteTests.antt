-- The tests of bytes decide what they say.
use Rattle.std.proofs.Common.{◌≡◌, ◌≢◌, ℕ, ◌≤◌, nat_le, sym, ◌∙◌, arith, Bool, true, false, ◌&&◌}
use Rattle.std.proofs.lemmas.Bool.{false≢true, eqb-true, eq-eqb, leb-true, le-leb, and_parts, and_from, or_cases}
use Rattle.std.proofs.lemmas.Bool.{or_from}
use Rattle.mw_lex.specs.Bytes.{IsBlank, IsAllowed, IsDigit, IsWordByte, IsCommentByte}
use Rattle.mw_term.specs.Decimals.{is_digit}
use Rattle.mw_lex.specs.Pieces.{is_blank, is_word_byte, is_comment_byte}

pub digit_true : (b : ℕ) → is_digit b ≡ true → IsDigit b
digit_true b e = let p = and_parts (nat_le 48 b) (nat_le b 57) e in (leb-true 48 b p.0, leb-true b 57 p.1)

pub true_digit : (b : ℕ) → IsDigit b → is_digit b ≡ true
true_digit b d = and_from (nat_le 48 b) (nat_le b 57) (le-leb 48 b d.0) (le-leb b 57 d.1)

range_true : (l h b : ℕ) → (nat_le l b && nat_le b h) ≡ true → (l ≤ b) × (b ≤ h)
range_true l h b e = let p = and_parts (nat_le l b) (nat_le b h) e in (leb-true l b p.0, leb-true b h p.1)

true_range : (l h b : ℕ) → l ≤ b → b ≤ h → (nat_le l b && nat_le b h) ≡ true
true_range l h b p q = and_from (nat_le l b) (nat_le b h) (le-leb l b p) (le-leb b h q)

pub word_true : (b : ℕ) → is_word_byte b ≡ true → IsWordByte b
word_true b e = grind (arith, range_true 48 57 b, range_true 65 90 b, range_true 97 122 b, eqb-true b 95, or_cases)

pub true_word : (b : ℕ) → IsWordByte b → is_word_byte b ≡ true
true_word b w = grind (arith, true_range 48 57 b, true_range 65 90 b, true_range 97 122 b, eq-eqb b 95, or_from)

pub blank_true : (b : ℕ) → is_blank b ≡ true → IsBlank b
blank_true b e = grind (arith, eqb-true b 9, eqb-true b 10, eqb-true b 13, eqb-true b 32, or_cases)

pub true_blank : (b : ℕ) → IsBlank b → is_blank b ≡ true
true_blank b w = grind (arith, eq-eqb b 9, eq-eqb b 10, eq-eqb b 13, eq-eqb b 32, or_from)

pub comment_true : (b : ℕ) → is_comment_byte b ≡ true → IsCommentByte b
comment_true b e = grind (arith, eqb-true b 9, eqb-true b 13, range_true 32 126 b, or_cases)

pub true_comment : (b : ℕ) → IsCommentByte b → is_comment_byte b ≡ true
true_comment b w = grind (arith, eq-eqb b 9, eq-eqb b 13, true_range 32 126 b, or_from)

-- a test that fails denies what it says
pub denied : {t : Bool} {P : Type 0} → (P → t ≡ true) → t ≡ false → P → ⊥
denied f e p = false≢true (sym e ∙ f p)

pub allowed_comment : (b : ℕ) → is_comment_byte b ≡ false → b ≢ 10 → IsAllowed b → ⊥
allowed_comment b e n a = denied (true_comment b) e (a, n)

pub word_no_blank : (b : ℕ) → IsWordByte b → IsBlank b → ⊥
word_no_blank b w v = grind arith

pub word_no_hash : (b : ℕ) → IsWordByte b → b ≢ 35
word_no_hash b w = λ e. grind arith
