-- Which bytes are what.
use Rattle.std.specs.Prelude.{◌≡◌, ◌≢◌, ◌⊎◌, ℕ, ◌≤◌}

-- tab, line feed, carriage return and space
abbrev pub IsBlank : ℕ → Type 0
IsBlank b = (b ≡ 9) ⊎ (b ≡ 10) ⊎ (b ≡ 13) ⊎ (b ≡ 32)

-- a source has blanks and the visible characters of ASCII
abbrev pub IsAllowed : ℕ → Type 0
IsAllowed b = IsBlank b ⊎ ((33 ≤ b) × (b ≤ 126))

abbrev pub IsDigit : ℕ → Type 0
IsDigit b = (48 ≤ b) × (b ≤ 57)

-- what words and numbers go on over: a digit, a letter or an underscore
abbrev pub IsWordByte : ℕ → Type 0
IsWordByte b = IsDigit b ⊎ ((65 ≤ b) × (b ≤ 90)) ⊎ ((97 ≤ b) × (b ≤ 122)) ⊎ (b ≡ 95)

-- what a comment goes on over: any allowed byte but a line feed
abbrev pub IsCommentByte : ℕ → Type 0
IsCommentByte b = IsAllowed b × (b ≢ 10)
