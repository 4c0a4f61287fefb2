use Rattle.mw_infer.specs.Typings.{facts_of}
use Rattle.mw_cert.proofs.Parts.{StandsSoFar}
use Rattle.mw_cert.proofs.part.certificate.Given as goal

-- the sections of the parts before this one stand in the text
abbrev pub invariant-loop-part : goal.invariant-loop-part
invariant-loop-part l = StandsSoFar (facts_of l.typed) l.part l.text.items
