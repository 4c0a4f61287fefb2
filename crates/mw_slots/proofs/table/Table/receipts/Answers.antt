use Rattle.std.proofs.Common.{◌<◌, length, refl, ap, ◌∙◌, sym, arith}
use Rattle.std.specs.Arc.{arc_value}
use Rattle.mw_slots.specs.Witnesses.{shown}
use Rattle.mw_slots.proofs.Windows.{full_none, full_more}
use Rattle.mw_slots.proofs.table.Table.receipts.Goals as goal

pub loop-at-init : goal.loop-at-init
loop-at-init g c = record {
  count = c.args.seen.ok.0 ∙ ap length c.requires.none;
  room = c.requires.room;
  full = full_none g.E.Named.name_of c.args.self.now c.args.start c.args.name.now _ c.requires.none;
}

pub loop-at-preserved : goal.loop-at-preserved
loop-at-preserved g c = record {
  count = omega arith;
  room = omega arith;
  full =
      let near : c.loop-at.at < length c.args.passed.items = omega (arith, c.args.passed.ok.0) in
      full_more g.E.Named.name_of c.args.self.now c.args.start c.args.name.now shown c.args.passed.items
      c.index.result.now c.again-own.result c.loop-at.items.items _ _ c.loop-at.at near c.index.ensures
      (λ i. (c.again-own.ensures.0 i, arc_value (c.again-own.ensures.1 i)))
      (sym c.loop-at.invariant.count ∙ c.loop-at.items.ok.0) c.place-slot.ensures.is refl refl
      c.push_reserved.ensures.items c.requires.others c.loop-at.invariant.full;
}
