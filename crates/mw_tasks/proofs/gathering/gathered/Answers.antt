use Rattle.std.proofs.Common.{◌≡◌, ◌∷◌, length, ap, sym, ◌∙◌, subst, arith}
use Rattle.std.specs.List.{All}
use Rattle.std.specs.Vec.Iter.{into_iter_items}
use Rattle.mw_tasks.specs.Gathering.{HasAllSlots}
use Rattle.mw_tasks.proofs.Outputs.{IsGathered, next_gathered, whole_slots, whole_asked, none_left}
use Rattle.mw_tasks.proofs.gathering.gathered.Goals as goal

pub loop-done-preserved : goal.loop-done-preserved
loop-done-preserved g c =
    let step = c.in-Some.ensures.steps in
    let rest = into_iter_items c.next.new.self in
    let longer : length (into_iter_items c.loop-done.done-iterator)
    ≡ length (c.in-Some.done ∷ rest) = ap length step.0 in
    let old = c.loop-done.invariant.left in
    let count = step.1 in
    record {
      gathered =
          next_gathered c.args.all.items rest c.loop-done.outcomes c.push.new.self c.loop-done.kept
          c.keep_each.new.self
          c.loop-done.emitted c.saturating_add-emitted.result c.loop-done.asked c.join.new.self c.in-Some.done
          (subst (λ left. IsGathered c.args.all.items left c.loop-done.outcomes c.loop-done.kept c.loop-done.emitted
          c.loop-done.asked)
          step.0
          c.loop-done.invariant.gathered)
          c.in_ok-push.ensures.ok c.in_ok-keep_each.ensures.table c.in_ok-keep_each.ensures.stay
          c.in_ok-keep_each.ensures.kept
          (let sum = c.saturating_add-emitted.ensures in omega (arith, sum)) c.join.ensures;
      left = omega (arith, longer, old, count);
    }

pub returns-clause-stored : goal.returns-clause-stored
returns-clause-stored g c =
    let none = none_left (into_iter_items c.loop-done.done-iterator)
    (sym c.loop-done.invariant.left ∙ c.in-None.ensures.steps.0) in
    let end = subst
    (λ left. IsGathered c.args.all.items left c.loop-done.outcomes c.loop-done.kept c.loop-done.emitted
    c.loop-done.asked) none
    c.loop-done.invariant.gathered in
    subst (λ receipts. All (HasAllSlots receipts) c.args.all.items) (sym c.into_receipts.ensures)
    (whole_slots c.args.all.items c.loop-done.outcomes c.loop-done.kept c.loop-done.emitted c.loop-done.asked end)

pub returns-clause-asked : goal.returns-clause-asked
returns-clause-asked g c =
    let none = none_left (into_iter_items c.loop-done.done-iterator)
    (sym c.loop-done.invariant.left ∙ c.in-None.ensures.steps.0) in
    let end = subst
    (λ left. IsGathered c.args.all.items left c.loop-done.outcomes c.loop-done.kept c.loop-done.emitted
    c.loop-done.asked) none
    c.loop-done.invariant.gathered in
    whole_asked c.args.all.items c.loop-done.outcomes c.loop-done.kept c.loop-done.emitted c.loop-done.asked end
