-- The canonical text of a module: a line for each field.
use Rattle.std.specs.Prelude.{ℕ, Bool, true, ◌/◌, ◌%◌, ◌==◌, ◌||◌, false, if◌then◌else◌, List, [], ◌∷◌, ◌++◌, codes}
use Rattle.std.specs.List.{flat_map}
use Rattle.std.specs.Fmt.{decimal, signed_decimal, digit_glyph}
use Rattle.std.specs.Int.{cast_signed}
use Rattle.mw_wasm.specs.Syntax.{PureModule}
use Rattle.mw_wat.specs.Lexemes.{Lexeme, left, right, word, number, keyed, constant, name, octets, lines}

-- a byte as `\` and two digits
abbrev pub escaped : ℕ → List ℕ
escaped b = 0x5C ∷ digit_glyph false (b / 16) ∷ digit_glyph false (b % 16) ∷ []

-- `"` and `\` are escaped in a name, and all other bytes stand as themselves
abbrev pub name_byte : ℕ → List ℕ
name_byte b = if b == 0x22 || b == 0x5C then escaped b else b ∷ []

abbrev pub quoted : List ℕ → List ℕ
quoted text = 0x22 ∷ text ++ 0x22 ∷ []

abbrev pub spelled : Lexeme → List ℕ
spelled left = codes "("
spelled right = codes ")"
spelled (word w) = w
spelled (number n) = decimal n
spelled (keyed key n) = key ++ decimal n
spelled (constant w n) = signed_decimal (cast_signed w n)
spelled (name bytes) = quoted (flat_map name_byte bytes)
spelled (octets bytes) = quoted (flat_map escaped bytes)

abbrev pub is_left : Lexeme → Bool
is_left left = true
is_left _ = false

abbrev pub is_right : Lexeme → Bool
is_right right = true
is_right _ = false

-- one space between tokens, and none behind `(` and before `)`
abbrev pub gap : Lexeme → Lexeme → List ℕ
gap i j = if is_left i || is_right j then [] else codes " "

abbrev pub laid_out : List Lexeme → List ℕ
laid_out [] = []
laid_out (i ∷ []) = spelled i
laid_out (i ∷ j ∷ lexemes) = spelled i ++ gap i j ++ laid_out (j ∷ lexemes)

abbrev pub line : List Lexeme → List ℕ
line lexemes = laid_out lexemes ++ codes "\n"

abbrev pub canonical_text : PureModule → List ℕ
canonical_text m = flat_map line (lines m)
