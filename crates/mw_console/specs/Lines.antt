-- Lines of a text.
use Rattle.std.specs.Prelude.{ℕ, zero, suc, nat_eq, List, [], ◌∷◌, if◌then◌else◌}

-- the length of the first line, up to and with its line feed, or of the whole text where there is none
abbrev pub line_length : List ℕ → ℕ
line_length [] = zero
line_length (byte ∷ bytes) = if nat_eq byte 10 then 1 else suc (line_length bytes)
