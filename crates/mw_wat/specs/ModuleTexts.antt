-- The texts of modules, and the places where bytes are none.
use Rattle.std.specs.Prelude.{◌≡◌, ℕ, ◌-◌, ◌≤◌, List, [], ◌∷◌, ◌++◌, length}
use Rattle.std.specs.List.{AllByRecursion}
use Rattle.mw_wasm.specs.Syntax.{PureModule}
use Rattle.mw_wasm.specs.Profile.{IsWithinProfile, IsWithinFileLimit}
use Rattle.mw_wat.specs.Tokens.{PureToken, Begins, ReadsTo, AreTokens, BeginsNone}
use Rattle.mw_wat.specs.Lexemes.{IsInRange, lexemes, tokens_of}

-- a module that has texts: within the profile, and each number in its range
pub record HasTexts (m : PureModule) : Type 0 where
  pub profile : IsWithinProfile m
  pub ranges : AllByRecursion IsInRange (lexemes m)

-- the tokens are a module's
pub record Says (tokens : List PureToken) (m : PureModule) : Type 0 where
  pub tokens_are : tokens ≡ tokens_of m
  pub has : HasTexts m

-- the bytes are a text of the module; blanks and escapes in strings are free
abbrev pub IsTextOf : List ℕ → PureModule → Type 0
IsTextOf bytes m = (tokens : List PureToken) × AreTokens bytes tokens × Says tokens m

-- no module's text begins with these tokens
abbrev pub IsDead : List PureToken → Type 0
IsDead front = (more : List PureToken) (m : PureModule) → Says (front ++ more) m → ⊥

-- where the bytes that are left begin
abbrev pub place : List ℕ → List ℕ → ℕ
place bytes rest = length bytes - length rest

-- a place that shows that the bytes are no text within the limit
pub data IsBadPlace (bytes : List ℕ) : ℕ → Type 0 where
  no_token : {tokens : List PureToken} {rest : List ℕ} → ReadsTo bytes tokens rest → BeginsNone rest
      → IsBadPlace bytes (place bytes rest)
  no_module : {front : List PureToken} {t : PureToken} {rest after : List ℕ} → ReadsTo bytes front rest
      → Begins rest t after → IsDead (front ++ t ∷ []) → IsBadPlace bytes (place bytes rest)
  unfinished : {tokens : List PureToken} → AreTokens bytes tokens → ((m : PureModule) → Says tokens m → ⊥)
      → IsBadPlace bytes (length bytes)
  too_long : (IsWithinFileLimit bytes → ⊥) → IsBadPlace bytes 67_108_864

-- the smallest of them
pub record IsFirstBadPlace (bytes : List ℕ) (at : ℕ) : Type 0 where
  pub bad : IsBadPlace bytes at
  pub first : (other : ℕ) → IsBadPlace bytes other → at ≤ other
