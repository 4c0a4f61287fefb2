use Rattle.std.proofs.Common.{◌∙◌, ap, ◌++◌}
use Rattle.std.specs.Prelude.{codes}
use Rattle.std.specs.Fmt.{decimal}
use Rattle.mw_console.proofs.TextLemmas.{on_ok, put_more}
use Rattle.mw_console.proofs.text.put_total.Goals as goal

pub returns : goal.returns
returns c = on_ok c.put-2.result
    (λ _ w. put_more c.args.text.now.items c.args.word.now (decimal c.args.number ++ codes "\n") c.put.new.text.items
    c.put-2.new.text.items
    c.in_ok-put.ensures
    (w ∙ ap (λ x. c.put.new.text.items ++ x) (c.as_bytes.ensures.value ∙ c.in_ok-digits.ensures.ok)))
    c.put-2.ensures
