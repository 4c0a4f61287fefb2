-- The written certificate: of most general types, with numbers and lines in the order in which they are read.
use Rattle.std.specs.Prelude.{ℕ, ◌≡◌, List, map, length, Some, slice_get}
use Rattle.mw_term.specs.Terms.{Expression}
use Rattle.mw_term.specs.Programs.{Definition, PureProgram}
use Rattle.mw_types.specs.Types.{TypeExpression, Assignment}
use Rattle.mw_types.specs.Expressions.{ground_expression}
use Rattle.mw_lines.specs.Naming.{types_named}
use Rattle.mw_recheck.specs.Sections.{SectionLines}
use Rattle.mw_recheck.specs.Texts.{IsCertificateText}
use Rattle.mw_recheck.specs.Notes.{TopNote}
use Rattle.mw_recheck.specs.Certificates.{Certified, IsRootOf, defined_term, notes_for_item, notes_for_main}
use Rattle.mw_recheck.specs.Certificates.{CertifiesBy}
use Rattle.mw_written.specs.Readings.{section_readings, reading_value}
use Rattle.mw_written.specs.Order.{AreNumbered, AreCompleted}

-- What assignments make of the readings of any section that is right for the term, with a root type as asked, some
-- assignment makes of this one's.
abbrev pub IsMostGeneral : List TopNote → Expression → (TypeExpression → Type 0) → SectionLines → Type 0
IsMostGeneral tops e asked x = (y : SectionLines) (t : TypeExpression) → Certified tops e y t → asked t
    → (b : Assignment)
    → (d : Assignment) × (map (reading_value d) (section_readings e x) ≡ map (reading_value b) (section_readings e y))

-- a section of a term is the written one, among those whose root types are as asked
pub record IsWrittenSection (tops : List TopNote) (e : Expression) (asked : TypeExpression → Type 0) (x : SectionLines)
    : Type 0 where
  pub general : IsMostGeneral tops e asked x
  pub numbered : AreNumbered 0 0 (section_readings e x)
  pub completed : AreCompleted (section_readings e x) (types_named x.types)

-- what main's root type is asked
abbrev pub IsMainRoot : PureProgram → TypeExpression → Type 0
IsMainRoot p t = t ≡ ground_expression p.result

-- The sections are right for the program, and each is the written one.
pub record IsWritten (xs : List SectionLines) (p : PureProgram) : Type 0 where
  pub right : CertifiesBy xs p
  pub item : (i : ℕ) (d : Definition) (x : SectionLines) → slice_get p.items i ≡ Some d → slice_get xs i ≡ Some x
      → IsWrittenSection (notes_for_item p.items right.roots i) (defined_term d) (IsRootOf d) x
  pub main : (x : SectionLines) → slice_get xs (length p.items) ≡ Some x
      → IsWrittenSection (notes_for_main p.items right.roots) p.body (IsMainRoot p) x

-- the bytes are the written certificate of the program
abbrev pub IsCertificateOf : PureProgram → List ℕ → Type 0
IsCertificateOf p bytes = (xs : List SectionLines) × IsCertificateText bytes xs × IsWritten xs p
