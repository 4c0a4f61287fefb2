-- The tokens that bytes are.
use Rattle.std.specs.Prelude.{◌≡◌, ◌≢◌, ◌⊎◌, ℕ, false, ◌+◌, ◌*◌, ◌<◌, ◌≤◌, List, [], ◌∷◌, ◌++◌}
use Rattle.std.specs.List.{AllByRecursion}
use Rattle.std.specs.Fmt.{digit_glyph}

-- a parenthesis, a word, or a string, by the bytes that it stands for
pub data PureToken : Type 0 where
  left : PureToken
  right : PureToken
  word : (bytes : List ℕ) → PureToken
  string : (bytes : List ℕ) → PureToken

-- tab, line feed, carriage return and space
abbrev pub IsBlank : ℕ → Type 0
IsBlank b = (b ≡ 0x09) ⊎ (b ≡ 0x0A) ⊎ (b ≡ 0x0D) ⊎ (b ≡ 0x20)

-- a visible character of ASCII other than `(`, `)` and `"`
abbrev pub IsWordByte : ℕ → Type 0
IsWordByte b = (0x21 ≤ b) × (b ≤ 0x7E) × (b ≢ 0x28) × (b ≢ 0x29) × (b ≢ 0x22)

-- what stands for itself in a string: a printable character of ASCII other than `"` and `\`
abbrev pub IsPlain : ℕ → Type 0
IsPlain b = (0x20 ≤ b) × (b ≤ 0x7E) × (b ≢ 0x22) × (b ≢ 0x5C)

-- What stands between the quotation marks of a string, and the bytes that it stands for. An escape is `\` and two
-- lower-case hexadecimal digits.
pub data Quotes : List ℕ → List ℕ → Type 0 where
  nothing : Quotes [] []
  plain : {b : ℕ} {text bytes : List ℕ} → IsPlain b → Quotes text bytes → Quotes (b ∷ text) (b ∷ bytes)
  escape : {text bytes : List ℕ} (h l : ℕ) → h < 16 → l < 16 → Quotes text bytes → Quotes
      (0x5C ∷ digit_glyph false h ∷ digit_glyph false l ∷ text) ((16 * h + l) ∷ bytes)

-- how a token is spelled
pub data Spells : List ℕ → PureToken → Type 0 where
  a_left : Spells (0x28 ∷ []) left
  a_right : Spells (0x29 ∷ []) right
  a_word : {text : List ℕ} → text ≢ [] → AllByRecursion IsWordByte text → Spells text (word text)
  a_string : {text bytes : List ℕ} → Quotes text bytes → Spells (0x22 ∷ text ++ 0x22 ∷ []) (string bytes)

-- a word is a whole run: what stands behind it doesn't go on with it
abbrev pub IsWhole : PureToken → List ℕ → Type 0
IsWhole (word w) (b ∷ rest) = IsWordByte b → ⊥
IsWhole _ _ = Unit {0}

-- this token stands at the front of the bytes, and rest behind it
pub record Begins (bytes : List ℕ) (t : PureToken) (rest : List ℕ) : Type 0 where
  pub text : List ℕ
  pub split : bytes ≡ text ++ rest
  pub spelled : Spells text t
  pub whole : IsWhole t rest

-- the bytes up to rest are these tokens, with blanks before and between them
pub data ReadsTo : List ℕ → List PureToken → List ℕ → Type 0 where
  so_far : {bytes : List ℕ} → ReadsTo bytes [] bytes
  behind_blank : {b : ℕ} {bytes rest : List ℕ} {tokens : List PureToken} → IsBlank b → ReadsTo bytes tokens rest
      → ReadsTo (b ∷ bytes) tokens rest
  behind_token : {bytes after rest : List ℕ} {t : PureToken} {tokens : List PureToken} → Begins bytes t after
      → ReadsTo after tokens rest → ReadsTo bytes (t ∷ tokens) rest

-- the whole bytes are these tokens
abbrev pub AreTokens : List ℕ → List PureToken → Type 0
AreTokens bytes tokens = ReadsTo bytes tokens []

-- what stands there is no token and no blank: a byte that begins none, or the first byte of a string that isn't
-- closed or not well spelled
abbrev pub BeginsNone : List ℕ → Type 0
BeginsNone [] = ⊥
BeginsNone (b ∷ rest) = (IsBlank b → ⊥) × ((t : PureToken) (after : List ℕ) → Begins (b ∷ rest) t after → ⊥)
