-- What the written certificate of a program is.
use Rattle.std.specs.Prelude.{ℕ, ◌≡◌, List}
use Rattle.mw_term.specs.Programs.{PureProgram}
use Rattle.mw_recheck.specs.Certificates.{Certifies}
use Rattle.mw_written.specs.Written.{IsCertificateOf}

-- the written certificate certifies the program
abbrev pub WrittenCertify : Type 0
WrittenCertify = (p : PureProgram) (bytes : List ℕ) → IsCertificateOf p bytes → Certifies bytes p

-- there is one at most
abbrev pub CertificatesAreOne : Type 0
CertificatesAreOne = (p : PureProgram) (a b : List ℕ) → IsCertificateOf p a → IsCertificateOf p b → a ≡ b
