-- What the parser may count on of tokens.
use Rattle.std.specs.Prelude.{ℕ, ◌<◌, ◌≤◌, ◌^◌, List, [], ◌∷◌}
use Rattle.mw_lex.specs.Tokens.{Symbol, PureToken, token, paren_left, minus, number}

-- tokens from an offset on, in rising order, none of them empty and none above another, up to a length
abbrev pub AreFrom : ℕ → List PureToken → ℕ → Type 0
AreFrom at [] length = at ≤ length
AreFrom at (token start stop s ∷ tokens) length = (at ≤ start) × (start < stop) × AreFrom stop tokens length

abbrev pub AreInOrder : List PureToken → ℕ → Type 0
AreInOrder tokens length = AreFrom 0 tokens length

-- whether a number may stand after these two symbols, the nearer one last
abbrev pub MayStand : Symbol → Symbol → ℕ → Type 0
MayStand paren_left minus n = n ≤ 2 ^ 63
MayStand _ _ n = n < 2 ^ 63

-- a symbol after two others: a number is in range
abbrev pub IsInRange : Symbol → Symbol → Symbol → Type 0
IsInRange a b (number n) = MayStand a b n
IsInRange a b s = Unit {0}

-- each number is below 2^63, or is 2^63 after `(` and `-`; a and b are the two symbols before the tokens
abbrev pub AreInRange : Symbol → Symbol → List PureToken → Type 0
AreInRange a b [] = Unit {0}
AreInRange a b (token start stop s ∷ tokens) = IsInRange a b s × AreInRange b s tokens

-- in a whole file no symbol stands before the first token, which any symbol but these two may stand for
abbrev pub HaveNumbersInRange : List PureToken → Type 0
HaveNumbersInRange tokens = AreInRange minus minus tokens
