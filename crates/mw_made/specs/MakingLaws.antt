-- What is proved of the sections that are made.
use Rattle.std.specs.Prelude.{List, map}
use Rattle.mw_term.specs.Programs.{PureProgram}
use Rattle.mw_term.specs.Parts.{IsResolved}
use Rattle.mw_infer.specs.Nodes.{NodeFacts, AreNodesOf}
use Rattle.mw_written.specs.Written.{IsWritten}
use Rattle.mw_made.specs.Making.{section_of}

-- The sections that are made for what inference tells of a program are those of its written certificate.
abbrev pub MadeAreWritten : Type 0
MadeAreWritten = (p : PureProgram) (parts : List (List NodeFacts)) → IsResolved p → AreNodesOf p parts
    → IsWritten (map section_of parts) p
