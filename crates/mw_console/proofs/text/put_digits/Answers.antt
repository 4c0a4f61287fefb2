use Rattle.std.specs.Prelude.{codes}
use Rattle.hex.specs.Hex.{encode_lower}
use Rattle.mw_console.proofs.TextLemmas.{on_ok, three_put}
use Rattle.mw_console.proofs.text.put_digits.Goals as goal

pub returns : goal.returns
returns c = on_ok c.put-2.result (λ _ w. three_put c.args.text.now.items c.put.new.text.items c.put_hex.new.text.items
    c.put-2.new.text.items
    c.args.word.now (encode_lower c.args.bytes.now) (codes "\n")
    c.in_ok-put.ensures c.in_ok-put_hex.ensures w) c.put-2.ensures
