-- Which programs have a written certificate.
use Rattle.std.specs.Prelude.{ℕ, List}
use Rattle.mw_term.specs.Programs.{PureProgram}
use Rattle.mw_term.specs.Parts.{IsResolved}
use Rattle.mw_term.specs.Typable.{Typable}
use Rattle.mw_infer.specs.Checking.{NoneTooBig}
use Rattle.mw_written.specs.Written.{IsCertificateOf}

-- a typable program without a type that is too big has one
abbrev pub AcceptedHaveOne : Type 0
AcceptedHaveOne = (p : PureProgram) → IsResolved p → Typable p → NoneTooBig p
    → (bytes : List ℕ) × IsCertificateOf p bytes
