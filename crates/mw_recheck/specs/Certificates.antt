-- Which bytes certify the typing of a program.
use Rattle.std.specs.Prelude.{ℕ, zero, suc, ◌≡◌, ◌+◌, List, [], ◌∷◌, length, Some, slice_get}
use Rattle.mw_term.specs.Terms.{Expression, size}
use Rattle.mw_term.specs.Types.{live}
use Rattle.mw_term.specs.Programs.{Definition, value as defines, kernel, PureProgram}
use Rattle.mw_types.specs.Types.{TypeExpression, closed_ty}
use Rattle.mw_types.specs.Expressions.{ground_expression, kernel_expression}
use Rattle.mw_lines.specs.TypeLines.{AreTypeLines}
use Rattle.mw_recheck.specs.Sections.{SectionLines}
use Rattle.mw_recheck.specs.Texts.{IsCertificateText}
use Rattle.mw_recheck.specs.Notes.{TopNote, let_root, kernel_root, hidden, Noted}

-- a section is right for a term that sees these names: its root type is this one
pub record Certified (tops : List TopNote) (e : Expression) (x : SectionLines) (root : TypeExpression) : Type 0 where
  pub types : List TypeExpression
  pub table : AreTypeLines x.types types
  pub count : length x.nodes ≡ size e
  pub noted : Noted (record { types = types; nodes = x.nodes }) tops [] live 0 e root

-- what an item's root type is asked
abbrev pub IsRootOf : Definition → TypeExpression → Type 0
IsRootOf (defines e) t = Unit {0}
IsRootOf (kernel k e) t = t ≡ closed_ty (kernel_expression k)

abbrev pub defined_term : Definition → Expression
defined_term (defines e) = e
defined_term (kernel k e) = e

-- what item i sees of the items with these root types: the lets before it
abbrev pub notes_for_item : List Definition → List TypeExpression → ℕ → List TopNote
notes_for_item [] roots i = []
notes_for_item (d ∷ items) [] i = []
notes_for_item (d ∷ items) (t ∷ roots) zero = []
notes_for_item (defines e ∷ items) (t ∷ roots) (suc i) = let_root t ∷ notes_for_item items roots i
notes_for_item (kernel k e ∷ items) (t ∷ roots) (suc i) = hidden ∷ notes_for_item items roots i

-- and main: all lets and kernels
abbrev pub notes_for_main : List Definition → List TypeExpression → List TopNote
notes_for_main [] roots = []
notes_for_main (d ∷ items) [] = []
notes_for_main (defines e ∷ items) (t ∷ roots) = let_root t ∷ notes_for_main items roots
notes_for_main (kernel k e ∷ items) (t ∷ roots) = kernel_root k ∷ notes_for_main items roots

-- The sections are right for a program: one for each item in order, and one for main after them.
pub record CertifiesBy (xs : List SectionLines) (p : PureProgram) : Type 0 where
  pub roots : List TypeExpression
  pub root_count : length roots ≡ length p.items
  pub section_count : length xs ≡ length p.items + 1
  pub item : (i : ℕ) (d : Definition) (x : SectionLines) (t : TypeExpression) → slice_get p.items i ≡ Some d
      → slice_get xs i ≡ Some x → slice_get roots i ≡ Some t
      → IsRootOf d t × Certified (notes_for_item p.items roots i) (defined_term d) x t
  pub main : (x : SectionLines) → slice_get xs (length p.items) ≡ Some x
      → Certified (notes_for_main p.items roots) p.body x (ground_expression p.result)

-- the bytes are a certificate of the program's typing
abbrev pub Certifies : List ℕ → PureProgram → Type 0
Certifies bytes p = (xs : List SectionLines) × IsCertificateText bytes xs × CertifiesBy xs p
