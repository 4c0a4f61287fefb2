use Rattle.std.proofs.Common.{List, sym, subst, ◌∙◌, arith}
use Rattle.mw_slots.specs.Receipts.{AllOther}
use Rattle.mw_slots.specs.Witnesses.{shown, all_shown}
use Rattle.mw_slots.proofs.Windows.{others_pushed}
use Rattle.mw_slots.proofs.table.Table.settle.Goals as goal

pub slots-preserved : goal.slots-preserved
slots-preserved g c = record {
  count = omega arith;
  room = omega arith;
  others = subst (λ (zs : List _). AllOther g.E.Named.name_of c.args.self.now c.args.start c.args.name.now
      (all_shown zs)) (sym c.push_reserved.ensures.items)
      (others_pushed g.E.Named.name_of c.args.self.now c.args.start c.args.name.now shown c.slots.passed.items
      c.in_ok-witness.witness c.len-in-slots.result c.place.result (c.len-in-slots.ensures ∙ c.slots.passed.ok.0)
      c.place.ensures.is c.in_ok-witness.ensures.cell (rw c.if-same.false at c.in_ok-witness.ensures.same)
      c.slots.invariant.others);
}
