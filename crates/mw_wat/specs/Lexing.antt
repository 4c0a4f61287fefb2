-- The tokens of bytes in turn, up to the first place where none stands.
use Rattle.std.specs.Prelude.{ℕ, zero, suc, ◌+◌, ◌-◌, ◌*◌, Bool, ◌&&◌, ◌||◌, ◌==◌, not, nat_le, if◌then◌else◌, List, []}
use Rattle.std.specs.Prelude.{◌∷◌, length, Option, Some, None}
use Rattle.mw_wat.specs.Tokens.{PureToken, left, right, word, string}

-- Tokens with their places, and the place where they stop: the end of the bytes, or a byte that begins no token.
pub data Tokens : Type 0 where
  stop : (at : ℕ) → Tokens
  token : (at : ℕ) (t : PureToken) (rest : Tokens) → Tokens

abbrev pub is_blank : ℕ → Bool
is_blank b = b == 0x09 || b == 0x0A || b == 0x0D || b == 0x20

abbrev pub is_word_byte : ℕ → Bool
is_word_byte b = nat_le 0x21 b && nat_le b 0x7E && not (b == 0x28) && not (b == 0x29) && not (b == 0x22)

abbrev pub is_plain : ℕ → Bool
is_plain b = nat_le 0x20 b && nat_le b 0x7E && not (b == 0x22) && not (b == 0x5C)

abbrev pub hex_value : ℕ → Option ℕ
hex_value b = if nat_le 0x30 b && nat_le b 0x39 then Some (b - 0x30) else if nat_le 0x61 b && nat_le b 0x66 then Some
    (b - 0x57) else None

-- a token and the bytes behind it
pub data Lexeme : Type 0 where
  none : Lexeme
  found : (t : PureToken) (rest : List ℕ) → Lexeme

abbrev pub with_byte : ℕ → Lexeme → Lexeme
with_byte b (found (string bytes) rest) = found (string (b ∷ bytes)) rest
with_byte b _ = none

abbrev pub with_digits : ℕ → Option ℕ → Lexeme → Lexeme
with_digits h None more = none
with_digits h (Some l) more = with_byte (16 * h + l) more

-- what stands behind an opening quotation mark, behind `\`, and behind `\` and a digit
abbrev mutual
  pub quotes : List ℕ → Lexeme
  quotes [] = none
  quotes (b ∷ rest) = if b == 0x22 then found
      (string []) rest else if b == 0x5C then escaped rest else if is_plain b then with_byte b (quotes rest) else none

  pub escaped : List ℕ → Lexeme
  escaped [] = none
  escaped (h ∷ rest) = half_escaped (hex_value h) rest

  pub half_escaped : Option ℕ → List ℕ → Lexeme
  half_escaped None bytes = none
  half_escaped (Some h) [] = none
  half_escaped (Some h) (l ∷ rest) = with_digits h (hex_value l) (quotes rest)

abbrev pub with_word_byte : ℕ → Lexeme → Lexeme
with_word_byte b (found (word bytes) rest) = found (word (b ∷ bytes)) rest
with_word_byte b _ = none

abbrev pub whole_word : List ℕ → Lexeme
whole_word [] = found (word []) []
whole_word (b ∷ rest) = if is_word_byte b then with_word_byte b (whole_word rest) else found (word []) (b ∷ rest)

-- the token at the front
abbrev pub front : List ℕ → Lexeme
front [] = none
front (b ∷ rest) =
    if b == 0x28 then found left rest else if b == 0x29 then found right rest else if b == 0x22 then quotes rest else
    if is_word_byte b then whole_word (b ∷ rest) else none

abbrev pub without_blanks : List ℕ → List ℕ
without_blanks [] = []
without_blanks (b ∷ rest) = if is_blank b then without_blanks rest else b ∷ rest

abbrev pub onward : (List ℕ → Tokens) → ℕ → Lexeme → Tokens
onward go at none = stop at
onward go at (found t rest) = token at t (go rest)

-- at most so many tokens of bytes that end at this place
abbrev pub tokens_up_to : ℕ → (end : ℕ) → List ℕ → Tokens
tokens_up_to zero end bytes = stop end
tokens_up_to (suc n) end bytes = let left = without_blanks bytes in onward (λ rest. tokens_up_to n end rest)
    (end - length left) (front left)

-- there are no more of them than bytes
unfoldable pub tokens : (end : ℕ) → List ℕ → Tokens
tokens end bytes = tokens_up_to (suc (length bytes)) end bytes
