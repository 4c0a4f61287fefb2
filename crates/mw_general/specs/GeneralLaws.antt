-- How what inference tells of a part goes together with the certificates of the part.
use Rattle.std.specs.Prelude.{◌≡◌, List, map}
use Rattle.mw_term.specs.Parts.{Part}
use Rattle.mw_types.specs.Types.{TypeExpression, Assignment}
use Rattle.mw_infer.specs.Nodes.{NodeFacts, AreNodesOfPart}
use Rattle.mw_recheck.specs.Sections.{SectionLines}
use Rattle.mw_recheck.specs.Notes.{TopNote}
use Rattle.mw_recheck.specs.Certificates.{Certified}
use Rattle.mw_written.specs.Readings.{section_readings, reading_value}
use Rattle.mw_general.specs.Telling.{fact_readings, AreRootsOf, IsRootAt}

-- What assignments make of the readings of any section that is right for a part, with a root type as its place asks,
-- some assignment makes of what inference tells of the part.
abbrev pub InferredAreGeneral : Type 0
InferredAreGeneral = (x : Part) (facts : List NodeFacts) (h : AreNodesOfPart x facts) (tops : List TopNote)
    → AreRootsOf h.schemes tops → (y : SectionLines) (t : TypeExpression) → Certified tops x.term y t
    → IsRootAt x.place t → (b : Assignment)
    → (d : Assignment)
    × (map (reading_value d) (fact_readings facts) ≡ map (reading_value b) (section_readings x.term y))
