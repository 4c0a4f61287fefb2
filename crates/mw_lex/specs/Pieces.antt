-- What stands at the front of bytes, as functions that look at one byte after another.
use Rattle.std.specs.Prelude.{◌≡◌, ℕ, suc, ◌+◌, ◌^◌, ◌<◌, ◌≤◌, Bool, true, false, ◌&&◌, ◌||◌, ◌==◌, nat_le}
use Rattle.std.specs.Prelude.{nat_lt, if◌then◌else◌, List, [], ◌∷◌, length, drop, Option, Some, None, Result, Ok, Err}
use Rattle.mw_term.specs.Decimals.{is_digit, number_in}
use Rattle.mw_term.specs.declared.refusal.Refusal.{Refusal}
use Rattle.mw_term.specs.declared.refusal.Refusal.TheVariants.{Number, Name}
use Rattle.mw_term.specs.declared.refusal.Stop.{Stop}
use Rattle.mw_term.specs.declared.refusal.Stop.TheVariants.{Refused, Memory}
use Rattle.mw_lex.specs.Texts.{mark, reserved}
use Rattle.mw_lex.specs.Tokens.{Symbol, PureToken, token, number, word, paren_left, minus, symbol_of}
use Rattle.mw_lex.specs.declared.piece.Piece.{Piece}
use Rattle.mw_lex.specs.declared.piece.Piece.TheVariants as p
use Rattle.mw_lex.specs.declared.token.Kind.{Kind}

abbrev pub is_blank : ℕ → Bool
is_blank b = b == 9 || b == 10 || b == 13 || b == 32

abbrev pub is_word_byte : ℕ → Bool
is_word_byte b = is_digit b || (nat_le 65 b && nat_le b 90) || (nat_le 97 b && nat_le b 122) || b == 95

abbrev pub is_comment_byte : ℕ → Bool
is_comment_byte b = b == 9 || b == 13 || (nat_le 32 b && nat_le b 126)

-- how many bytes at the front pass a test
abbrev pub count : (ℕ → Bool) → List ℕ → ℕ
count test [] = 0
count test (b ∷ bytes) = if test b then suc (count test bytes) else 0

-- a blank or a comment, a mark, a run of letters, digits and underscores, each with its length, or a strange byte with
-- its offset
pub data Seen : Type 0 where
  gap : (n : ℕ) → Seen
  marked : (s : Symbol) (n : ℕ) → Seen
  run : (n : ℕ) → Seen
  strange : (n : ℕ) → Seen

-- after n bytes of a comment
abbrev pub comment_end : ℕ → List ℕ → Seen
comment_end n [] = gap n
comment_end n (b ∷ rest) = if b == 10 then gap n else strange n

-- a comment, of which the bytes stand after its #
abbrev pub comment : List ℕ → Seen
comment bytes = comment_end (suc (count is_comment_byte bytes)) (drop (count is_comment_byte bytes) bytes)

abbrev pub short_mark : Option Symbol → Seen
short_mark None = strange 0
short_mark (Some s) = marked s 1

abbrev pub long_mark : Option Symbol → Option Symbol → Seen
long_mark None other = short_mark other
long_mark (Some s) other = marked s 2

abbrev pub a_mark : List ℕ → Seen
a_mark [] = strange 0
a_mark (a ∷ []) = short_mark (mark (a ∷ []))
a_mark (a ∷ b ∷ rest) = long_mark (mark (a ∷ b ∷ [])) (mark (a ∷ []))

abbrev pub front : List ℕ → Seen
front [] = strange 0
front (b ∷ bytes) =
    if is_blank b then gap 1 else
    (if b == 35 then comment bytes else
    (if is_word_byte b then run (count is_word_byte (b ∷ bytes)) else a_mark (b ∷ bytes)))

-- the entries of a table whose texts have this length
abbrev pub of_length : ℕ → List (List ℕ × Symbol) → List (List ℕ × Symbol)
of_length n [] = []
of_length n (entry ∷ entries) = if length entry.0 == n then entry ∷ of_length n entries else of_length n entries

-- the code's values as plain data
abbrev pub kind_seen : Option Kind → Option Symbol
kind_seen None = None
kind_seen (Some kind) = Some (symbol_of kind)

abbrev pub seen : Piece → Seen
seen (p.Gap n) = gap n
seen (p.Mark kind n) = marked (symbol_of kind) n
seen (p.Run n) = run n
seen (p.Strange n) = strange n

-- the piece lies in bytes of this length
abbrev pub IsWithin : ℕ → Piece → Type 0
IsWithin length (p.Gap n) = (0 < n) × (n ≤ length)
IsWithin length (p.Mark kind n) = (0 < n) × (n ≤ length)
IsWithin length (p.Run n) = (0 < n) × (n ≤ length)
IsWithin length (p.Strange n) = n < length

-- the symbol of a run of letters, digits and underscores that begins at an offset; lowest says whether 2^63 may stand
-- there
abbrev pub number_answer : Bool → ℕ → Option ℕ → Result Symbol Refusal
number_answer lowest at None = Err (Number at)
number_answer lowest at (Some n) = if nat_lt n (2 ^ 63) || lowest then Ok (number n) else Err (Number at)

abbrev pub or_name : List ℕ → Option Symbol → Symbol
or_name text None = word text
or_name text (Some s) = s

abbrev pub word_answer : ℕ → List ℕ → Result Symbol Refusal
word_answer at text = if nat_lt 64 (length text) then Err (Name at) else Ok (or_name text (reserved text))

abbrev pub run_answer : Bool → ℕ → List ℕ → Result Symbol Refusal
run_answer lowest at [] = Err (Name at)
run_answer lowest at (b ∷ bytes) = if is_digit b then number_answer lowest at (number_in 0 (b ∷ bytes)) else word_answer
    at (b ∷ bytes)

-- the last two symbols, where a and b stand before the tokens
abbrev pub next_to_last : Symbol → Symbol → List PureToken → Symbol
next_to_last a b [] = a
next_to_last a b (token start stop s ∷ tokens) = next_to_last b s tokens

abbrev pub last : Symbol → List PureToken → Symbol
last b [] = b
last b (token start stop s ∷ tokens) = last s tokens

abbrev pub is_paren_left : Symbol → Bool
is_paren_left paren_left = true
is_paren_left _ = false

abbrev pub is_minus : Symbol → Bool
is_minus minus = true
is_minus _ = false

-- whether the last two tokens are `(` and `-`
abbrev pub opens_literal : List PureToken → Bool
opens_literal tokens = is_paren_left (next_to_last minus minus tokens) && is_minus (last minus tokens)

-- the answer is this one, unless memory ran out
abbrev pub Gives : Result Kind Stop → Result Symbol Refusal → Type 0
Gives (Ok kind) answer = answer ≡ Ok (symbol_of kind)
Gives (Err (Refused r)) answer = answer ≡ Err r
Gives (Err (Memory e)) answer = Unit {0}
