-- What the functions that read texts answer, as pure data.
use Rattle.std.specs.Prelude.{◌≡◌, ◌<◌, ℕ, Bool, true, false, List, [], ◌++◌, length, Option, Some, None, Result, Ok}
use Rattle.std.specs.Prelude.{Err}
use Rattle.mw_wat.specs.declared.reading.cursor.Cursor.{Cursor}
use Rattle.mw_wat.specs.declared.reading.cursor.Fault.{Fault}
use Rattle.mw_wat.specs.declared.reading.cursor.Fault.TheVariants.{Bad, Memory}
use Rattle.mw_wat.specs.declared.reading.lexer.Token.{Token}
use Rattle.mw_wat.specs.declared.reading.lexer.Token.TheVariants as seen
use Rattle.mw_wat.specs.declared.reading.lexer.Unit.{Unit as Piece}
use Rattle.mw_wat.specs.declared.reading.lexer.Unit.TheVariants as piece
use Rattle.mw_wat.specs.Tokens.{PureToken, left, right, word, string}
use Rattle.mw_wat.specs.Lexing.{Tokens, tokens, Lexeme, found, none, with_byte, quotes}
use Rattle.mw_wat.specs.Reading.{Read, got, bad, Reader, and_then, one_of, gives, if_opened, if_word}

abbrev pub tokens_at : Cursor → Tokens
tokens_at cursor = tokens cursor.end cursor.left.now

-- the bytes that a string stands for, and what is behind it
abbrev pub content : Lexeme → List ℕ
content (found (string bytes) rest) = bytes
content _ = []

abbrev pub behind : Lexeme → Option (List ℕ)
behind (found (string bytes) rest) = Some rest
behind _ = None

abbrev pub token_of : Token → PureToken
token_of seen.Left = left
token_of seen.Right = right
token_of (seen.Word bytes) = word bytes.now
token_of (seen.Quoted bytes) = string (content (quotes bytes.now))

-- what a piece of a string makes of it
abbrev pub pieced : Piece → Lexeme
pieced (piece.Byte b rest) = with_byte b (quotes rest.now)
pieced (piece.End rest) = found (string []) rest.now
pieced piece.None = none

-- what is behind a piece is shorter
abbrev pub IsBefore : Piece → List ℕ → Type 0
IsBefore (piece.Byte b rest) bytes = length rest.now < length bytes
IsBefore (piece.End rest) bytes = length rest.now < length bytes
IsBefore piece.None bytes = Unit {0}

-- any token
abbrev pub next : Reader PureToken
next = one_of Some

-- whether `(` or this word comes next, which is taken then
abbrev pub is_opened : Reader Bool
is_opened = if_opened (gives true) (gives false)

unfoldable pub is_word : List ℕ → Reader Bool
is_word w = if_word w (gives true) (gives false)

-- what was read before, and what is still read
abbrev pub joined : {A : Type 0} → List A → Read (List A) → Read (List A)
joined front read = and_then read λ xs rest. got (front ++ xs) rest

-- what a function answered is what a reader gives, unless memory ran out
abbrev pub Fails : {A : Type 0} → Fault → Read A → Type 0
Fails (Memory e) read = Unit {0}
Fails (Bad cursor) read = read ≡ bad (tokens_at cursor)

abbrev pub Gives : {X A : Type 0} → (X → Read A) → Result X Fault → Read A → Type 0
Gives view (Ok x) read = read ≡ view x
Gives view (Err e) read = Fails e read
