use Rattle.std.proofs.lemmas.Result.{IfOk-weaker}
use Rattle.mw_lines.specs.TypeLines.{line_of}
use Rattle.mw_section.proofs.WriterContents.{puts_line}
use Rattle.mw_section.proofs.writer.LineWriter.put_line.Goals as goal

pub returns : goal.returns
returns c =
    IfOk-weaker c.put.result _ _ (λ k h types. puts_line types c.args.self.now c.put.new.self (line_of c.args.line) k h)
    c.put.ensures
