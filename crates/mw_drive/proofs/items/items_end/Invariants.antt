use Rattle.mw_reading.specs.NamedPrograms.{named_program_of}
use Rattle.mw_drive.proofs.Loops.{Reaches}
use Rattle.mw_drive.proofs.items.items_end.Given as goal

abbrev pub invariant-loop-at : goal.invariant-loop-at
invariant-loop-at l = Reaches (named_program_of l.program) l.outcomes l.at l.next l.built.items
