-- Which tokens bytes are, and the faults of bytes that are no tokens.
use Rattle.std.specs.Prelude.{◌≡◌, ◌≢◌, ℕ, suc, ◌+◌, ◌<◌, List, [], ◌∷◌, ◌++◌, length}
use Rattle.std.specs.List.{AllByRecursion}
use Rattle.mw_term.specs.declared.refusal.Refusal.{Refusal}
use Rattle.mw_term.specs.declared.refusal.Refusal.TheVariants.{Char, Number, Name}
use Rattle.mw_lex.specs.Bytes.{IsBlank, IsAllowed, IsDigit, IsCommentByte}
use Rattle.mw_lex.specs.Texts.{IsWord, IsNumeral, IsText, IsLongest, decimal, Spells}
use Rattle.mw_lex.specs.Tokens.{Symbol, PureToken, token, number}
use Rattle.mw_lex.specs.InOrder.{HaveNumbersInRange}

-- a comment ends before the next line feed, or at the end of the file
abbrev pub EndsComment : List ℕ → Type 0
EndsComment [] = Unit {0}
EndsComment (b ∷ bytes) = b ≡ 10

-- The bytes from the offset at on are these tokens, with blanks and comments before, between and after them, up to
-- the offset stop, where the bytes rest stand. A comment begins with #.
pub data Reads : ℕ → List ℕ → List PureToken → ℕ → List ℕ → Type 0 where
  so_far : {at : ℕ} {bytes : List ℕ} → Reads at bytes [] at bytes
  behind_blank : {at stop b : ℕ} {bytes rest : List ℕ} {tokens : List PureToken} → IsBlank b
      → Reads (suc at) bytes tokens stop rest → Reads at (b ∷ bytes) tokens stop rest
  behind_comment : {at stop : ℕ} {all rest : List ℕ} {tokens : List PureToken} (body after : List ℕ) → all ≡ 35 ∷ body
      ++ after → AllByRecursion IsCommentByte body → EndsComment after
      → Reads (at + suc (length body)) after tokens stop rest → Reads at all tokens stop rest
  behind_token : {at stop : ℕ} {all rest : List ℕ} {s : Symbol} {tokens : List PureToken} (text after : List ℕ)
      → all ≡ text ++ after → IsLongest text after → Spells text s
      → Reads (at + length text) after tokens stop rest → Reads at all (token at (at + length text) s ∷ tokens) stop
      rest

-- the whole bytes are these tokens
pub record AreTokens (bytes : List ℕ) (tokens : List PureToken) : Type 0 where
  pub reads : Reads 0 bytes tokens (length bytes) []
  pub in_range : HaveNumbersInRange tokens

-- the text is no number that may stand at this place after these tokens: not all of it is digits, or the value is too
-- large there
abbrev pub IsNoNumber : List PureToken → ℕ → List ℕ → Type 0
IsNoNumber tokens at text = AllByRecursion IsDigit text
    → HaveNumbersInRange (tokens ++ token at (at + length text) (number (decimal 0 text)) ∷ []) → ⊥

-- no text of a token stands at the front
abbrev pub BeginsNone : List ℕ → Type 0
BeginsNone bytes = (text after : List ℕ) → bytes ≡ text ++ after → IsText text → ⊥

-- what is wrong with the bytes at an offset, after these tokens
pub data IsFault : List PureToken → ℕ → List ℕ → Refusal → Type 0 where
  no_token : {tokens : List PureToken} {at b : ℕ} {rest : List ℕ} → (IsBlank b → ⊥) → b ≢ 35 → BeginsNone (b ∷ rest)
      → IsFault tokens at (b ∷ rest) (Char at)
  in_comment : {tokens : List PureToken} {at b : ℕ} {all : List ℕ} (body rest : List ℕ) → all ≡ 35 ∷ body ++ b ∷ rest
      → AllByRecursion IsCommentByte body → (IsAllowed b → ⊥)
      → IsFault tokens at all (Char (at + suc (length body)))
  no_number : {tokens : List PureToken} {at : ℕ} {all : List ℕ} (text rest : List ℕ) → all ≡ text ++ rest
      → IsNumeral text → IsLongest text rest → IsNoNumber tokens at text
      → IsFault tokens at all (Number at)
  long_name : {tokens : List PureToken} {at : ℕ} {all : List ℕ} (text rest : List ℕ) → all ≡ text ++ rest → IsWord text
      → IsLongest text rest → 64 < length text → IsFault tokens at all (Name at)

-- The fault with the smallest offset: all that stands before it is tokens, blanks and comments, with no fault in it.
-- Bytes have at most one such fault, and none where they are tokens (module laws).
pub record IsFirstFault (bytes : List ℕ) (r : Refusal) : Type 0 where
  pub front : List PureToken
  pub at : ℕ
  pub rest : List ℕ
  pub reads : Reads 0 bytes front at rest
  pub in_range : HaveNumbersInRange front
  pub fault : IsFault front at rest r
