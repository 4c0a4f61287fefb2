use Rattle.std.proofs.lemmas.Result.{IfOk-weaker}
use Rattle.mw_section.proofs.WriterContents.{puts_classifier}
use Rattle.mw_section.proofs.writer.LineWriter.put_classifier.Goals as goal

pub returns : goal.returns
returns c =
    IfOk-weaker c.put.result _ _ (λ k h types. puts_classifier types c.args.self.now c.put.new.self c.args.classifier k
    h)
    c.put.ensures
