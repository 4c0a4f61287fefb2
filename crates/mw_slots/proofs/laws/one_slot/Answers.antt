use Rattle.std.proofs.Common.{◌≡◌, ◌<◌, length, ap, sym, ◌∙◌, arith}
use Rattle.std.specs.Arc.{arc_value}
use Rattle.mw_slots.specs.Receipts.{Known}
use Rattle.mw_slots.specs.Witnesses.{shown}
use Rattle.mw_slots.proofs.Slots.{passed_over, same_slot}
use Rattle.mw_slots.proofs.laws.one_slot.Goals as goal

passed_of : {X : Type 0} {r s : Known X} → r ≡ s → s.passed ≡ r.passed
passed_of e = ap (λ (k : Known _). k.passed) (sym e)

cell_of : {X : Type 0} {r s : Known X} → r ≡ s → s.cell ≡ r.cell
cell_of e = ap (λ (k : Known _). k.cell) (sym e)

entry_of : {X : Type 0} {r s : Known X} → r ≡ s → s.entry ≡ r.entry
entry_of e = ap (λ (k : Known _). k.entry) (sym e)

pub agrees-requires : goal.agrees-requires
agrees-requires g c =
    let near : c.len-mine.result < length c.other.inside.passed.items = omega (arith, c.other.inside.passed.ok.0) in
    let o = passed_over _ g.E.Named.home _ shown _ _ _ _ _ _ (passed_of c.one.view_is) (passed_of c.other.view_is)
    (c.len-mine.ensures ∙ c.one.inside.passed.ok.0) near c.index.ensures c.requires.one c.requires.other
    c.requires.name in
    o.0 ∙ cell_of c.one.view_is

pub unreachable-requires : goal.unreachable-requires
unreachable-requires g c =
    let near : c.len-mine.result < length c.other.inside.passed.items = omega (arith, c.other.inside.passed.ok.0) in
    let o = passed_over _ g.E.Named.home _ shown _ _ _ _ _ _ (passed_of c.one.view_is) (passed_of c.other.view_is)
    (c.len-mine.ensures ∙ c.one.inside.passed.ok.0) near c.index.ensures c.requires.one c.requires.other
    c.requires.name in
    o.1 (ap g.E.Named.name_of (ap arc_value c.agrees.ensures ∙ sym (entry_of c.one.view_is)))

pub agrees-requires-then-theirs-mine : goal.agrees-requires-then-theirs-mine
agrees-requires-then-theirs-mine g c =
    let near : c.len-theirs.result < length c.one.inside.passed.items = omega (arith, c.one.inside.passed.ok.0) in
    let o = passed_over _ g.E.Named.home _ shown _ _ _ _ _ _ (passed_of c.other.view_is) (passed_of c.one.view_is)
    (c.len-theirs.ensures ∙ c.other.inside.passed.ok.0) near c.index-then-theirs-mine.ensures c.requires.other
    c.requires.one (sym c.requires.name) in
    o.0 ∙ cell_of c.other.view_is

pub unreachable-requires-then-theirs-mine : goal.unreachable-requires-then-theirs-mine
unreachable-requires-then-theirs-mine g c =
    let near : c.len-theirs.result < length c.one.inside.passed.items = omega (arith, c.one.inside.passed.ok.0) in
    let o = passed_over _ g.E.Named.home _ shown _ _ _ _ _ _ (passed_of c.other.view_is) (passed_of c.one.view_is)
    (c.len-theirs.ensures ∙ c.other.inside.passed.ok.0) near c.index-then-theirs-mine.ensures c.requires.other
    c.requires.one (sym c.requires.name) in
    o.1 (ap g.E.Named.name_of (ap arc_value c.agrees-then-theirs-mine.ensures ∙ sym (entry_of c.other.view_is)))

pub returns : goal.returns
returns g c =
    let count : length c.one.inside.passed.items ≡ length c.other.inside.passed.items =
    omega (arith, c.one.inside.passed.ok.0, c.other.inside.passed.ok.0) in
    same_slot _ g.E.Named.home _ shown _ _ _ _ (passed_of c.one.view_is) (passed_of c.other.view_is)
    count c.requires.one c.requires.other c.requires.name
