-- What is known between two pieces.
use Rattle.std.specs.Prelude.{ℕ, ◌≤◌, List, length, drop}
use Rattle.mw_lex.specs.Tokens.{PureToken}
use Rattle.mw_lex.specs.InOrder.{HaveNumbersInRange}
use Rattle.mw_lex.specs.Reading.{Reads}

-- the bytes up to an offset are these tokens, with blanks and comments, and no fault
pub record IsRead (bytes : List ℕ) (at : ℕ) (tokens : List PureToken) : Type 0 where
  pub within : at ≤ length bytes
  pub reads : Reads 0 bytes tokens at (drop at bytes)
  pub in_range : HaveNumbersInRange tokens
