-- Reading the sections of a certificate, as functions on bytes: an answer is what was read, and the bytes after it.
use Rattle.std.specs.Prelude.{ℕ, zero, suc, ◌+◌, ◌*◌, ◌-◌, ◌^◌, Bool, ◌&&◌, ◌==◌, nat_lt, nat_le, if◌then◌else◌}
use Rattle.std.specs.Prelude.{List, [], ◌∷◌, Option, Some, None, codes}
use Rattle.mw_lines.specs.TypeLines.{TypeLine, int_line, bool_line, unknown_line, pair_line, arrow_line, code_line}
use Rattle.mw_lines.specs.TypeLines.{closed_line}
use Rattle.mw_recheck.specs.Options.{◌>>=◌, found_or}
use Rattle.mw_recheck.specs.Sections.{SectionLines}

-- the bytes behind a text, with which they begin
abbrev pub behind : List ℕ → List ℕ → Option (List ℕ)
behind [] bytes = Some bytes
behind (t ∷ text) [] = None
behind (t ∷ text) (b ∷ bytes) = if t == b then behind text bytes else None

abbrev pub is_digit : ℕ → Bool
is_digit b = nat_le 48 b && nat_le b 57

-- the number below 2^64 to which digits go on from a value
abbrev pub digits_at : ℕ → List ℕ → Option (ℕ × List ℕ)
digits_at value [] = Some (value, [])
digits_at value (b ∷ bytes) =
    if is_digit b then (if nat_lt (10 * value + (b - 48)) (2 ^ 64) then digits_at (10 * value +
    (b - 48)) bytes else None)
    else Some (value, b ∷ bytes)

-- A number: its first digit isn't 0, or is the only one.
abbrev pub number_at : List ℕ → Option (ℕ × List ℕ)
number_at [] = None
number_at (b ∷ bytes) = if b == 48 then Some (0, bytes) else (if is_digit b then digits_at (b - 48) bytes else None)

-- a number, and a text behind it
abbrev pub number_before : List ℕ → List ℕ → Option (ℕ × List ℕ)
number_before text bytes = number_at bytes >>= λ x. (behind text x.1 >>= λ rest. Some (x.0, rest))

-- lines that end with one number, and with two
abbrev pub one_at : (ℕ → TypeLine) → List ℕ → Option (TypeLine × List ℕ)
one_at line bytes = number_before (codes "\n") bytes >>= λ x. Some (line x.0, x.1)

abbrev pub two_at : (ℕ → ℕ → TypeLine) → List ℕ → Option (TypeLine × List ℕ)
two_at line bytes =
    number_before (codes " ") bytes >>= λ x. (number_before (codes "\n") x.1 >>= λ y. Some (line x.0 y.0, y.1))

abbrev pub type_line_at : List ℕ → Option (TypeLine × List ℕ)
type_line_at bytes =
    found_or (behind (codes "int\n") bytes) (λ rest. Some (int_line, rest))
    (found_or (behind (codes "bool\n") bytes) (λ rest. Some (bool_line, rest))
    (found_or (behind (codes "u ") bytes) (one_at unknown_line)
    (found_or (behind (codes "pair ") bytes) (two_at pair_line)
    (found_or (behind (codes "arrow ") bytes) (two_at arrow_line)
    (found_or (behind (codes "code ") bytes) (two_at code_line)
    (found_or (behind (codes "closed ") bytes) (one_at closed_line) None))))))

abbrev pub type_lines_at : ℕ → List ℕ → Option (List TypeLine × List ℕ)
type_lines_at zero bytes = Some ([], bytes)
type_lines_at (suc n) bytes = type_line_at bytes >>= λ x. (type_lines_at n x.1 >>= λ y. Some (x.0 ∷ y.0, y.1))

-- a line of at most so many numbers
abbrev pub numbers_at : ℕ → List ℕ → Option (List ℕ × List ℕ)
numbers_at zero bytes = None
numbers_at (suc most) bytes =
    number_at bytes >>= λ x. found_or (behind (codes "\n") x.1) (λ rest. Some (x.0 ∷ [], rest))
    (behind (codes " ") x.1 >>= λ rest. (numbers_at most rest >>= λ y. Some (x.0 ∷ y.0, y.1)))

-- node lines have three numbers at most
abbrev pub node_lines_at : ℕ → List ℕ → Option (List (List ℕ) × List ℕ)
node_lines_at zero bytes = Some ([], bytes)
node_lines_at (suc n) bytes = numbers_at 3 bytes >>= λ x. (node_lines_at n x.1 >>= λ y. Some (x.0 ∷ y.0, y.1))

-- type lines behind their number
abbrev pub types_at : List ℕ → Option (List TypeLine × List ℕ)
types_at bytes =
    behind (codes "types ") bytes >>= λ a. (number_before (codes "\n") a >>= λ n. type_lines_at n.0 n.1)

-- the node lines of a term of so many nodes, behind their number
abbrev pub nodes_at : ℕ → List ℕ → Option (List (List ℕ) × List ℕ)
nodes_at size bytes =
    behind (codes "nodes ") bytes >>= λ a. (number_before (codes "\n") a >>= λ m.
    (if m.0 == size then node_lines_at size m.1 else None))

-- the section of a term of so many nodes
abbrev pub section_at : ℕ → List ℕ → Option (SectionLines × List ℕ)
section_at size bytes =
    types_at bytes >>= λ t. (nodes_at size t.1 >>= λ x. Some (record { types = t.0; nodes = x.0 }, x.1))
