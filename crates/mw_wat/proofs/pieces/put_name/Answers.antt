use Rattle.std.proofs.Common.{refl, ap, ◌∙◌, ◌++◌}
use Rattle.std.specs.Prelude.{codes}
use Rattle.std.specs.List.{flat_map}
use Rattle.mw_wat.specs.CanonicalTexts.{name_byte}
use Rattle.mw_wat.proofs.TextParts.{left_step, left_end, string_end}
use Rattle.mw_wat.proofs.pieces.put_name.Goals as goal

pub loop-byte-init : goal.loop-byte-init
loop-byte-init c = ap (λ text. text ++ flat_map name_byte c.as_slice-list.result.now) c.in_ok-put.ensures

pub loop-byte-preserved : goal.loop-byte-preserved
loop-byte-preserved c =
    left_step name_byte c.as_slice-list.result.now c.loop-byte.byte-index _ _ c.loop-byte.out.items
    c.put_name_byte.new.out.items _
    c.loop-byte-test.true refl c.in_ok-put_name_byte.ensures c.loop-byte.invariant

pub returns : goal.returns
returns c = string_end c.put-2.result c.args.out.now.items c.loop-byte.out.items c.put-2.new.out.items
    (flat_map name_byte c.args.bytes.now)
    (left_end name_byte c.as_slice-list.result.now c.loop-byte.byte-index c.loop-byte.out.items _
    c.loop-byte-test.false c.loop-byte.invariant
    ∙ ap (λ list. (c.args.out.now.items ++ codes " \"") ++ flat_map name_byte list) c.as_slice-list.ensures)
    c.put-2.ensures
