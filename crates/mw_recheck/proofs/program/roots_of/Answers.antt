use Rattle.std.proofs.Common.{◌≡◌, ◌+◌, false, [], drop, length, refl, sym, ◌∙◌, ap, subst, arith, Some}
use Rattle.std.specs.Prelude.{slice_get}
use Rattle.std.proofs.lemmas.Option.{slice_get_read}
use Rattle.mw_term.specs.Programs.{definition_of}
use Rattle.mw_recheck.specs.Following.{definitions_of, item_at, main_notes_at, AreSmall}
use Rattle.mw_recheck.specs.Roots.{tops_of}
use Rattle.mw_recheck.proofs.Items.{notes_after, notes_step, roots_more, definitions_from}
use Rattle.mw_recheck.proofs.program.roots_of.Goals as goal

pub loop-item-preserved : goal.loop-item-preserved
loop-item-preserved c =
    let items = c.args.items.now in
    let i = c.loop-item.item-index in
    let item : slice_get items i ≡ Some c.item-item.result =
    slice_get_read items (length items) i c.item-item.result refl (omega (
      arith,
      c.loop-item-test.true,
    )) c.item-item.is in
    let split = definitions_from items i c.item-item.result item in
    let step = notes_step c.loop-item.roots.items c.push.new.self.items c.in_ok-root.root
    (definition_of c.item-item.result.kind)
    (definitions_of (drop (i + 1) items)) c.in_ok-root.more.now c.in_ok-push.ensures.items c.loop-item.rest.now
    (ap (λ l. item_at (tops_of false l) (definition_of c.item-item.result.kind) c.loop-item.rest.now)
    (sym c.as_slice.ensures.value) ∙ c.in_ok-root.ensures.root) in
    let same = subst (λ l. notes_after c.loop-item.roots.items l c.loop-item.rest.now ≡ main_notes_at []
    (definitions_of items) c.args.bytes.now) split c.loop-item.invariant.same in
    let small = subst AreSmall split c.loop-item.invariant.small in
    record {
      same = sym step ∙ same;
      held = roots_more c.loop-item.roots.items c.push.new.self.items c.in_ok-root.root c.loop-item.invariant.held
          c.in_ok-root.ensures.held c.in_ok-push.ensures.items;
      small = small.1;
    }
