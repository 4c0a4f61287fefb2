use Rattle.std.proofs.Common.{◌++◌, ◌∙◌, ap}
use Rattle.mw_console.specs.Texts.{typing_line}
use Rattle.mw_drive.proofs.Certificates.{typing_report}
use Rattle.mw_drive.proofs.typing.rechecked.Goals as goal

pub returns : goal.returns
returns c = λ bytes read.
    typing_report bytes c.args.program.now read c.args.text.now _ c.in_ok-typed.typed c.status_of.result
    c.in_ok-typed.ensures
    (c.in_ok-put_typing.ensures ∙ ap (λ t. t ++ typing_line c.in_ok-typed.typed) c.new-line.ensures.items)
    c.status_of.ensures
