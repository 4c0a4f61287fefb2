-- Which texts may be a token's, and which symbols they spell.
use Rattle.std.specs.Prelude.{◌≡◌, ◌≢◌, ◌⊎◌, ℕ, ◌+◌, ◌*◌, ◌-◌, ◌≤◌, List, [], ◌∷◌, ◌++◌, length, codes, Option, Some}
use Rattle.std.specs.Prelude.{None}
use Rattle.std.specs.List.{AllByRecursion}
use Rattle.std.specs.Map.{lookup}
use Rattle.std.specs.Str.{bytes_eq}
use Rattle.mw_lex.specs.Bytes.{IsDigit, IsWordByte}
use Rattle.mw_lex.specs.Tokens.{Symbol, let_word, rec_word, in_word, fun_word, if_word, then_word, else_word, true_word}
use Rattle.mw_lex.specs.Tokens.{false_word, not_word, fst_word, snd_word, run_word, close_word, open_word, lift_word}
use Rattle.mw_lex.specs.Tokens.{lift_b_word, kernel_word, main_word, int_word, bool_word, mod_word, bracket_left}
use Rattle.mw_lex.specs.Tokens.{bracket_right, escape_mark, paren_left, paren_right, square_left, square_right, comma}
use Rattle.mw_lex.specs.Tokens.{arrow, item_end, colon, equal, less_equal, less, plus, minus, star, slash, and_mark}
use Rattle.mw_lex.specs.Tokens.{or_mark, word, number}

abbrev pub reserved_words : List (List ℕ × Symbol)
reserved_words = (codes "let", let_word) ∷ (codes "rec", rec_word) ∷ (codes "in", in_word) ∷ (codes "fun", fun_word)
    ∷ (codes "if", if_word) ∷ (codes "then", then_word) ∷ (codes "else", else_word)
    ∷ (codes "true", true_word) ∷ (codes "false", false_word) ∷ (codes "not", not_word) ∷ (codes "fst", fst_word)
    ∷ (codes "snd", snd_word) ∷ (codes "run", run_word) ∷ (codes "close", close_word)
    ∷ (codes "open", open_word) ∷ (codes "lift", lift_word) ∷ (codes "liftb", lift_b_word)
    ∷ (codes "kernel", kernel_word) ∷ (codes "main", main_word) ∷ (codes "int", int_word)
    ∷ (codes "bool", bool_word) ∷ (codes "mod", mod_word) ∷ []

abbrev pub mark_texts : List (List ℕ × Symbol)
mark_texts = (codes ".<", bracket_left) ∷ (codes ">.", bracket_right) ∷ (codes ".~", escape_mark) ∷ (codes "->", arrow)
    ∷ (codes ";;", item_end) ∷ (codes "<=", less_equal) ∷ (codes "&&", and_mark)
    ∷ (codes "||", or_mark) ∷ (codes "(", paren_left) ∷ (codes ")", paren_right) ∷ (codes "[", square_left)
    ∷ (codes "]", square_right) ∷ (codes ",", comma) ∷ (codes ":", colon) ∷ (codes "=", equal)
    ∷ (codes "<", less) ∷ (codes "+", plus) ∷ (codes "-", minus) ∷ (codes "*", star) ∷ (codes "/", slash) ∷ []

abbrev pub reserved : List ℕ → Option Symbol
reserved text = lookup (bytes_eq text) reserved_words

abbrev pub mark : List ℕ → Option Symbol
mark text = lookup (bytes_eq text) mark_texts

-- a word begins with a letter or an underscore, and a numeral with a digit; both go on over letters, digits and
-- underscores
abbrev pub IsWord : List ℕ → Type 0
IsWord [] = ⊥
IsWord (b ∷ bytes) = (IsDigit b → ⊥) × AllByRecursion IsWordByte (b ∷ bytes)

abbrev pub IsNumeral : List ℕ → Type 0
IsNumeral [] = ⊥
IsNumeral (b ∷ bytes) = IsDigit b × AllByRecursion IsWordByte (b ∷ bytes)

abbrev pub IsMark : List ℕ → Type 0
IsMark text = (s : Symbol) × (mark text ≡ Some s)

-- what may be taken for a token, well spelt or not
abbrev pub IsText : List ℕ → Type 0
IsText text = IsWord text ⊎ IsNumeral text ⊎ IsMark text

-- The text of a token is the longest that stands at its place: with more of the bytes after it, it is none.
abbrev pub IsLongest : List ℕ → List ℕ → Type 0
IsLongest text rest = IsText text × ((more after : List ℕ) → rest ≡ more ++ after → more ≢ [] → IsText (text ++ more)
    → ⊥)

-- the number that decimal digits stand for, the most significant first, after digits of the value front
abbrev pub decimal : ℕ → List ℕ → ℕ
decimal front [] = front
decimal front (b ∷ bytes) = decimal (10 * front + (b - 48)) bytes

-- the text spells the symbol; a number of any size is spelled here
pub data Spells : List ℕ → Symbol → Type 0 where
  a_mark : {text : List ℕ} {s : Symbol} → mark text ≡ Some s → Spells text s
  a_reserved_word : {text : List ℕ} {s : Symbol} → reserved text ≡ Some s → Spells text s
  a_name : {text : List ℕ} → IsWord text → reserved text ≡ None → length text ≤ 64 → Spells text (word text)
  a_number : {text : List ℕ} → text ≢ [] → AllByRecursion IsDigit text → Spells text (number (decimal 0 text))
