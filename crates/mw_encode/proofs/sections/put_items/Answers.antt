use Rattle.std.proofs.Common.{refl, length}
use Rattle.mw_encode.proofs.AppendedBytes.{positive, no_section, items_spelled, content_is, section_put}
use Rattle.mw_encode.proofs.sections.put_items.Goals as goal

pub returns-then-list-eq0 : goal.returns-then-list-eq0
returns-then-list-eq0 g c = no_section c.args.id g.T.Encoded.spelled g.T.Encoded.bytes g.T.Encoded.seen c.args.list.now
    (length c.args.list.now) refl c.args.out.now.items c.if-list-eq0.true

pub put_all-requires : goal.put_all-requires
put_all-requires g c = items_spelled c.args.id g.T.Encoded.spelled g.T.Encoded.bytes g.T.Encoded.seen c.args.list.now
    (length c.args.list.now) refl c.args.list.now c.if-list-eq0.false refl c.requires.spelled

pub put_section-requires : goal.put_section-requires
put_section-requires g c =
    rw (content_is c.args.id g.T.Encoded.spelled g.T.Encoded.bytes g.T.Encoded.seen c.args.list.now
    (length c.args.list.now) refl c.args.list.now c.new-content.result.items c.put_all.new.out.items
    c.as_slice.result.now refl c.new-content.ensures.items c.in_ok-put_all.ensures c.as_slice.ensures.value)
    (c.requires.small (positive (length c.args.list.now) c.if-list-eq0.false))

pub returns : goal.returns
returns g c = section_put c.args.id g.T.Encoded.spelled g.T.Encoded.bytes g.T.Encoded.seen c.args.list.now
    (length c.args.list.now) refl c.put_section.result c.put_section.new.out.items c.args.out.now.items
    c.as_slice.result.now c.if-list-eq0.false
    (content_is c.args.id g.T.Encoded.spelled g.T.Encoded.bytes g.T.Encoded.seen c.args.list.now
    (length c.args.list.now) refl c.args.list.now c.new-content.result.items c.put_all.new.out.items
    c.as_slice.result.now refl c.new-content.ensures.items c.in_ok-put_all.ensures c.as_slice.ensures.value)
    c.put_section.ensures
