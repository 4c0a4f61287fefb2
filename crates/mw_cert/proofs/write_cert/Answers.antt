use Rattle.std.proofs.lemmas.Result.{IfOk-weaker}
use Rattle.mw_term.specs.Programs.{program_of}
use Rattle.mw_infer.specs.Typings.{facts_of}
use Rattle.mw_cert.proofs.ShortNodes.{nodes_short}
use Rattle.mw_cert.proofs.CertificateBytes.{is_written, certifies}
use Rattle.mw_cert.proofs.write_cert.Goals as goal

pub certificate-requires-clause-short : goal.certificate-requires-clause-short
certificate-requires-clause-short c =
    nodes_short (program_of c.args.program.now) (facts_of c.args.typed.now) c.requires.nodes

pub returns-clause-written : goal.returns-clause-written
returns-clause-written c =
    IfOk-weaker c.certificate.result _ _
    (λ bytes exact. is_written (program_of c.args.program.now) (facts_of c.args.typed.now) bytes.items
    c.requires.resolved c.requires.nodes exact) c.certificate.ensures.exact

pub returns-clause-right : goal.returns-clause-right
returns-clause-right c =
    IfOk-weaker c.certificate.result _ _
    (λ bytes exact. certifies (program_of c.args.program.now) (facts_of c.args.typed.now) bytes.items
    c.requires.resolved c.requires.nodes exact) c.certificate.ensures.exact
