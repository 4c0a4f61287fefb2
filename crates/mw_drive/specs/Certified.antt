-- What a certificate says of a source, and what its judgement does.
use Rattle.std.specs.Prelude.{ℕ, List}
use Rattle.mw_term.specs.Typable.{Typable}
use Rattle.mw_console.specs.declared.status.Status.{Status}
use Rattle.mw_console.specs.declared.status.Status.TheVariants.{Answer, NotTyped}
use Rattle.mw_recheck.specs.Certificates.{Certifies}
use Rattle.mw_reading.specs.NamedPrograms.{NamedProgram, unnamed}
use Rattle.mw_reading.specs.SourceReading.{IsRead}
use Rattle.mw_drive.specs.Works.{CertifiesWithin}

-- the source is read as a program, which is typable, and whose typing the text certifies
pub record IsCertified (bytes text : List ℕ) : Type 0 where
  pub program : NamedProgram
  pub read : IsRead bytes program
  pub typable : Typable (unnamed program)
  pub certifies : Certifies text (unnamed program)

-- the source is read as a program, whose typing the text doesn't certify, or it is too long
pub record IsUncertified (bytes text : List ℕ) : Type 0 where
  pub program : NamedProgram
  pub read : IsRead bytes program
  pub uncertified : CertifiesWithin text (unnamed program) → ⊥

-- An answer says that the text certifies the source, and `NotTyped` that it doesn't.
abbrev pub IsTypingVerdict : Status → (text bytes : List ℕ) → Type 0
IsTypingVerdict Answer text bytes = IsCertified bytes text
IsTypingVerdict NotTyped text bytes = IsUncertified bytes text
IsTypingVerdict s text bytes = Unit {0}
