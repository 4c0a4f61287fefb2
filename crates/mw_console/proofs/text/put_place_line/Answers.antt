use Rattle.std.proofs.Common.{◌∙◌, ap, ◌++◌}
use Rattle.std.specs.Prelude.{codes}
use Rattle.std.specs.Fmt.{decimal}
use Rattle.mw_console.proofs.TextLemmas.{on_ok, five_put}
use Rattle.mw_console.proofs.text.put_place_line.Goals as goal

pub returns : goal.returns
returns c = on_ok c.put-5.result (λ _ w. five_put c.args.text.now.items c.put.new.text.items c.put-2.new.text.items
    c.put-3.new.text.items c.put-4.new.text.items c.put-5.new.text.items
    (codes "refused ") c.args.words.now (codes " at ") (decimal c.args.at) (codes "\n")
    c.in_ok-put.ensures c.in_ok-put-2.ensures c.in_ok-put-3.ensures
    (c.in_ok-put-4.ensures ∙ ap (λ x. c.put-3.new.text.items ++ x)
    (c.as_bytes.ensures.value ∙ c.in_ok-place.ensures.ok)) w) c.put-5.ensures
