use Rattle.std.proofs.Common.{map}
use Rattle.mw_recheck.specs.Answers.{numbers_of}
use Rattle.mw_cert.specs.Nodes.{type_at_part, facts_at_part}
use Rattle.mw_cert.proofs.Parts.{AreWritten}
use Rattle.mw_cert.proofs.part.put_part.Given as goal

-- the nodes before this one are written
abbrev pub invariant-loop-at : goal.invariant-loop-at
invariant-loop-at l =
    AreWritten (type_at_part l.typed l.part) (facts_at_part l.typed l.part) l.at l.writer
    (map numbers_of l.nodes.items)
