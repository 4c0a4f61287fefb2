-- Whether bytes certify a program, as a function.
use Rattle.std.specs.Prelude.{ℕ, Bool, true, false, ◌&&◌, if◌then◌else◌, List, [], ◌∷◌, ◌++◌, Option, Some, None, codes}
use Rattle.mw_term.specs.Terms.{Expression, size}
use Rattle.mw_term.specs.Types.{live}
use Rattle.mw_term.specs.Programs.{Definition, value as defines, kernel, PureProgram}
use Rattle.mw_types.specs.Types.{TypeExpression, closed_ty}
use Rattle.mw_types.specs.Expressions.{ground_expression, kernel_expression}
use Rattle.mw_lines.specs.Deciding.{are_type_lines, same_type}
use Rattle.mw_recheck.specs.Options.{◌>>=◌}
use Rattle.mw_recheck.specs.Sections.{SectionLines}
use Rattle.mw_recheck.specs.Notes.{TopNote, let_root, hidden}
use Rattle.mw_recheck.specs.Certificates.{defined_term, notes_for_main}
use Rattle.mw_recheck.specs.Judging.{type_of, judged}
use Rattle.mw_recheck.specs.Reading.{behind, section_at}

-- the root's type in a section that is right for a term that sees these names
abbrev pub section_judged : List TopNote → Expression → SectionLines → Option TypeExpression
section_judged tops e x =
    if are_type_lines x.types then (judged x.types tops [] live e x.nodes >>= λ r. Some (type_of x.types r.0)) else None

-- what later items see of an item
abbrev pub note_seen : Definition → TypeExpression → TopNote
note_seen (defines e) t = let_root t
note_seen (kernel k e) t = hidden

-- an item may have the root type
abbrev pub is_root : Definition → TypeExpression → Bool
is_root (defines e) t = true
is_root (kernel k e) t = same_type t (closed_ty (kernel_expression k))

-- the root type of a term whose section the bytes begin with, and the bytes after the section
abbrev pub root_at : List TopNote → Expression → List ℕ → Option (TypeExpression × List ℕ)
root_at tops e bytes = section_at (size e) bytes >>= λ x. (section_judged tops e x.0 >>= λ t. Some (t, x.1))

-- the root types of items that see these names and the ones before them
abbrev pub roots_at : List TopNote → List Definition → List ℕ → Option (List TypeExpression × List ℕ)
roots_at tops [] bytes = Some ([], bytes)
roots_at tops (d ∷ items) bytes =
    root_at tops (defined_term d) bytes >>= λ x.
    (if is_root d x.0 then (roots_at (tops ++ note_seen d x.0 ∷ []) items x.1 >>= λ y. Some (x.0 ∷ y.0, y.1)) else None)

abbrev pub is_end : List ℕ → Bool
is_end [] = true
is_end (b ∷ bytes) = false

-- main's root type, and that nothing follows its section
abbrev pub main_at : List TopNote → PureProgram → List ℕ → Option TypeExpression
main_at tops p bytes =
    root_at tops p.body bytes >>= λ x. (if same_type x.0
    (ground_expression p.result) && is_end x.1 then Some x.0 else None)

abbrev pub program_judged : List ℕ → PureProgram → Option TypeExpression
program_judged bytes p =
    behind (codes "cert1\n") bytes >>= λ b. (roots_at [] p.items b >>= λ r. main_at (notes_for_main p.items r.0) p r.1)

abbrev pub is_there : {A : Type 0} → Option A → Bool
is_there (Some x) = true
is_there None = false

abbrev pub certified : List ℕ → PureProgram → Bool
certified bytes p = is_there (program_judged bytes p)
