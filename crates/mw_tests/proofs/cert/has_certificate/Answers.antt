use Rattle.std.proofs.Common.{ℕ, List, subst}
use Rattle.mw_term.specs.Parts.{IsResolved}
use Rattle.mw_term.specs.Programs.{program_of}
use Rattle.mw_term.specs.declared.program.Program.{Program}
use Rattle.mw_reading.specs.NamedPrograms.{named_program_of}
use Rattle.mw_reading.specs.SourceReading.{IsRead}
use Rattle.mw_reading.proofs.ScopedTerms.{is_resolved}
use Rattle.mw_reading.proofs.SourceReadings.{unnamed_program}
use Rattle.mw_tests.proofs.cert.has_certificate.Goals as goal

-- a program that was read is resolved
resolved : (bytes : List ℕ) (p : Program) → IsRead bytes (named_program_of p) → IsResolved (program_of p)
resolved bytes p found = subst IsResolved (unnamed_program p) (is_resolved bytes (named_program_of p) found)

pub check-requires : goal.check-requires
check-requires g c = resolved _ c.in_ok-program.program c.in_ok-program.ensures.found

pub write_cert-requires-clause-resolved : goal.write_cert-requires-clause-resolved
write_cert-requires-clause-resolved g c = resolved _ c.in_ok-program.program c.in_ok-program.ensures.found

pub holds-requires : goal.holds-requires
holds-requires g c = resolved _ c.in_ok-program.program c.in_ok-program.ensures.found
