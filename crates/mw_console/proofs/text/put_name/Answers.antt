use Rattle.std.specs.Prelude.{codes}
use Rattle.mw_term.specs.Terms.{kernel_type_of}
use Rattle.mw_console.specs.Texts.{kind_text}
use Rattle.mw_console.proofs.TextLemmas.{on_ok, five_put}
use Rattle.mw_console.proofs.text.put_name.Goals as goal

pub returns : goal.returns
returns c = on_ok c.put-4.result (λ _ w. five_put c.args.text.now.items c.put.new.text.items c.put-2.new.text.items
    c.put-3.new.text.items c.put_kind.new.text.items c.put-4.new.text.items
    (codes "kernel ") c.args.name.now (codes " : ") (kind_text (kernel_type_of c.args.kind.now)) (codes "\n")
    c.in_ok-put.ensures c.in_ok-put-2.ensures c.in_ok-put-3.ensures c.in_ok-put_kind.ensures w) c.put-4.ensures
