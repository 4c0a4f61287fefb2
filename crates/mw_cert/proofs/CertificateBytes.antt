-- The bytes of the sections that are made are the program's written certificate.
use Rattle.std.proofs.Common.{ℕ, List, map}
use Rattle.mw_term.specs.Programs.{PureProgram}
use Rattle.mw_term.specs.Parts.{IsResolved}
use Rattle.mw_recheck.specs.Texts.{IsCertificateText}
use Rattle.mw_recheck.specs.Certificates.{Certifies}
use Rattle.mw_infer.specs.Nodes.{NodeFacts, AreNodesOf}
use Rattle.mw_written.specs.Written.{IsCertificateOf}
use Rattle.mw_made.specs.Making.{section_of}
use Rattle.mw_made.proofs.CertificateSections.{made_written}

module _ (p : PureProgram) (parts : List (List NodeFacts)) (bytes : List ℕ) (resolved : IsResolved p)
    (nodes : AreNodesOf p parts) (exact : IsCertificateText bytes (map section_of parts)) where
  pub is_written : IsCertificateOf p bytes
  is_written = (map section_of parts, exact, made_written p parts resolved nodes)

  pub certifies : Certifies bytes p
  certifies = (map section_of parts, exact, (made_written p parts resolved nodes).right)
