-- How a part of a text is laid out, by where it stands: behind a token other than `(`, or right behind one.
use Rattle.std.specs.Prelude.{ℕ, List, [], ◌∷◌, ◌++◌}
use Rattle.mw_wat.specs.Lexemes.{Lexeme, left, right}
use Rattle.mw_wat.specs.CanonicalTexts.{spelled}

abbrev mutual
  pub spaced : List Lexeme → List ℕ
  spaced [] = []
  spaced (left ∷ lexemes) = 0x20 ∷ 0x28 ∷ opened lexemes
  spaced (right ∷ lexemes) = 0x29 ∷ spaced lexemes
  spaced (i ∷ lexemes) = 0x20 ∷ spelled i ++ spaced lexemes

  pub opened : List Lexeme → List ℕ
  opened [] = []
  opened (left ∷ lexemes) = 0x28 ∷ opened lexemes
  opened (i ∷ lexemes) = spelled i ++ spaced lexemes
