use Rattle.std.proofs.Common.{sym, ◌∙◌}
use Rattle.mw_judge.proofs.FileAnswers.{binary_of_file, decoded_same, read_same, reading_only_memory, text_of_file}
use Rattle.mw_judge.proofs.file.file_module.Goals as goal

pub returns-in_err-module-2-clause-found : goal.returns-in_err-module-2-clause-found
returns-in_err-module-2-clause-found c = λ m h.
    let t = text_of_file c.args.bytes.now m (sym c.is_binary.ensures ∙ c.if-is_binary.false) h in
    reading_only_memory _ m c.in_err-module-2.field-0.0 c.from_residual-in_err-module-2.result
    c.from_residual-in_err-module-2.ensures.1 (c.in_err-module-2.ensures.found m t.text t.limit)

pub returns-in_ok-module-clause-found : goal.returns-in_ok-module-clause-found
returns-in_ok-module-clause-found c = λ m h.
    let b = binary_of_file c.args.bytes.now m (sym c.is_binary.ensures ∙ c.if-is_binary.true) h in
    decoded_same m c.in_ok-module.module (c.in_ok-module.ensures.read m b.limit b.spelled b.profile)

pub returns-in_ok-module-2-clause-found : goal.returns-in_ok-module-2-clause-found
returns-in_ok-module-2-clause-found c = λ m h.
    let t = text_of_file c.args.bytes.now m (sym c.is_binary.ensures ∙ c.if-is_binary.false) h in
    read_same m c.in_ok-module-2.module (c.in_ok-module-2.ensures.found m t.text t.limit)
