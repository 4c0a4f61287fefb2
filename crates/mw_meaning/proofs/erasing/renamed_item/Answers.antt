use Rattle.std.proofs.Common.{◌<◌, ◌+◌, ◌^◌, Some, refl, ap, ◌∙◌, arith}
use Rattle.std.proofs.lemmas.Option.{slice_get_past}
use Rattle.mw_meaning.proofs.NewNames.{kernel_room, at_place}
use Rattle.mw_meaning.proofs.erasing.renamed_item.Goals as goal

pub overflow_add-result : goal.overflow_add-result
overflow_add-result c =
    let room : c.args.depth + c.in-Some-Kernel.number < 2 ^ 32 = kernel_room c.args.names.now c.args.item c.args.depth
    c.in-Some-Kernel.number (at_place _ _ c.in-Some-Kernel.field-0 c.in-Some-Kernel.ensures.lookup
    ∙ ap Some c.in-Some-Kernel.field-0-is)
    c.requires in
    omega (arith, room)

pub returns-in-None : goal.returns-in-None
returns-in-None c = rw (slice_get_past c.args.names.now c.args.item c.in-None.ensures.lookup.3) refl

pub returns-in-Some-Let : goal.returns-in-Some-Let
returns-in-Some-Let c =
    rw (
      at_place c.args.names.now c.args.item c.in-Some-Let.field-0 c.in-Some-Let.ensures.lookup,
      c.in-Some-Let.field-0-is,
    ) refl

pub returns-in-Some-Kernel : goal.returns-in-Some-Kernel
returns-in-Some-Kernel c =
    rw (
      at_place c.args.names.now c.args.item c.in-Some-Kernel.field-0 c.in-Some-Kernel.ensures.lookup,
      c.in-Some-Kernel.field-0-is,
    ) refl
