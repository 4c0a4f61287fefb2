-- How what inference tells and the rules of certificates go together.
use Rattle.std.specs.Prelude.{◌≡◌, List, map}
use Rattle.mw_term.specs.Programs.{PureProgram}
use Rattle.mw_term.specs.Parts.{Part, IsResolved}
use Rattle.mw_types.specs.Types.{TypeExpression, Assignment, value}
use Rattle.mw_recheck.specs.Sections.{SectionLines}
use Rattle.mw_recheck.specs.Certificates.{CertifiesBy}
use Rattle.mw_infer.specs.Nodes.{NodeFacts, AreNodesOfPart, AreNodesOf}
use Rattle.mw_agree.specs.Telling.{NodesAreFormed, NewNumbers, with_numbers}
use Rattle.mw_agree.specs.Writing.{AreSectionsOf}

-- two types of which each assignment makes one type are one
abbrev pub EqualUnderAll : Type 0
EqualUnderAll = (s t : TypeExpression) → ((b : Assignment) → value b s ≡ value b t) → s ≡ t

-- Whatever the new numbers, no code type stands under a code type in what inference tells of a part: its types can
-- stand in type lines.
abbrev pub NoCodeUnderCode : Type 0
NoCodeUnderCode = (x : Part) (facts : List NodeFacts) (r : NewNumbers) → AreNodesOfPart x facts
    → NodesAreFormed (map (with_numbers r) facts)

-- Sections that tell what inference tells certify the program.
abbrev pub InferredAreCertified : Type 0
InferredAreCertified = (p : PureProgram) (parts : List (List NodeFacts)) (xs : List SectionLines) → IsResolved p
    → AreNodesOf p parts → AreSectionsOf parts xs → CertifiesBy xs p
