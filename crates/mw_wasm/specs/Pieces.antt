-- What the grammar of the binary format is made of (standard: Binary Format, Conventions).
use Rattle.std.specs.Prelude.{◌≡◌, ℕ, ◌<◌, ◌^◌, ◌⊎◌, List, [], ◌∷◌, ◌++◌, length}
use Rattle.mw_wasm.specs.Leb.{IsUnsigned, IsInteger}

-- A piece says which bytes may stand there. Pieces are named like the standard's symbols, and those that spell a value
-- take it.
abbrev pub Piece : Type 1
Piece = List ℕ → Type 0

abbrev pub nothing : Piece
nothing bytes = bytes ≡ []

-- this byte
abbrev pub byte : ℕ → Piece
byte b bytes = bytes ≡ b ∷ []

-- these bytes
abbrev pub exactly : List ℕ → Piece
exactly those bytes = bytes ≡ those

-- a byte of data, whichever it is
abbrev pub octet : ℕ → Piece
octet b bytes = (b < 2 ^ 8) × (bytes ≡ b ∷ [])

pub record Joined (P Q : List ℕ → Type 0) (bytes : List ℕ) : Type 0 where
  pub front : List ℕ
  pub back : List ℕ
  pub whole : bytes ≡ front ++ back
  pub first : P front
  pub second : Q back

-- one piece and another after it
infixr 20 ◌then◌
abbrev pub ◌then◌ : Piece → Piece → Piece
(P then Q) bytes = Joined P Q bytes

-- one piece or another
infixr 15 ◌or◌
abbrev pub ◌or◌ : Piece → Piece → Piece
(P or Q) bytes = P bytes ⊎ Q bytes

-- a piece under a condition
infixr 18 ◌when◌
abbrev pub ◌when◌ : Piece → Type 0 → Piece
(P when condition) bytes = condition × P bytes

-- indices, counts and sizes (standard: Binary Format, Integers)
abbrev pub u32 : ℕ → Piece
u32 n bytes = IsUnsigned 32 bytes n

-- operands of constants
abbrev pub i32 : ℕ → Piece
i32 n bytes = IsInteger 32 bytes n

abbrev pub i64 : ℕ → Piece
i64 n bytes = IsInteger 64 bytes n

-- a spelling of each item in order
abbrev pub items : {A : Type 0} → (A → Piece) → List A → Piece
items P [] = nothing
items P (x ∷ xs) = P x then items P xs

-- a vector: the number of its items, and these (standard: Binary Format, Vectors)
abbrev pub vector : {A : Type 0} → (A → Piece) → List A → Piece
vector P xs = u32 (length xs) then items P xs

pub record Sized (P : List ℕ → Type 0) (bytes : List ℕ) : Type 0 where
  pub size : List ℕ
  pub content : List ℕ
  pub whole : bytes ≡ size ++ content
  pub counted : IsUnsigned 32 size (length content)
  pub inside : P content

-- the number of a piece's bytes, and the piece
abbrev pub sized : Piece → Piece
sized P bytes = Sized P bytes
