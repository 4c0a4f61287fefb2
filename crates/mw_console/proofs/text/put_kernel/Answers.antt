use Rattle.std.specs.Prelude.{codes}
use Rattle.mw_term.specs.Terms.{kernel_type_of}
use Rattle.mw_console.specs.Texts.{kernel_line, digits_line}
use Rattle.mw_console.proofs.TextLemmas.{on_ok, three_put}
use Rattle.mw_console.proofs.text.put_kernel.Goals as goal

pub returns : goal.returns
returns c = on_ok c.put_module.result
    (λ _ w. three_put c.args.text.now.items c.put_name.new.text.items c.put_digits.new.text.items
    c.put_module.new.text.items
    (kernel_line c.args.name.now (kernel_type_of c.args.kind.now)) (digits_line (codes "key ") c.args.key.now)
    (digits_line (codes "module ") c.args.bytes.now)
    c.in_ok-put_name.ensures c.in_ok-put_digits.ensures w) c.put_module.ensures
