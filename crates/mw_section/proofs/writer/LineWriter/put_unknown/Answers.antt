use Rattle.std.proofs.lemmas.Result.{IfOk-weaker}
use Rattle.mw_section.proofs.WriterContents.{puts_unknown}
use Rattle.mw_section.proofs.writer.LineWriter.put_unknown.Goals as goal

pub returns : goal.returns
returns c =
    IfOk-weaker c.put.result _ _ (λ k h types. puts_unknown types c.args.self.now c.put.new.self c.args.unknown k h)
    c.put.ensures
