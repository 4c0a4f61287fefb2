use Rattle.std.proofs.Common.{rules, ◌≤◌, ◌<◌, ◌++◌, ◌∷◌, [], List, option_map, length, refl, sym, ◌∙◌, ap}
use Rattle.std.proofs.Common.{subst}
use Rattle.std.specs.String.{string_bytes}
use Rattle.mw_words.specs.Words.{PurePart, is_named, parts_named, word_in}
use Rattle.mw_words.specs.Gathered.{part_in}
use Rattle.mw_words.proofs.Items.{no_item, some_text, none_listed, some_listed, on_err}
use Rattle.mw_words.proofs.PartLemmas.{fewer_items}
use Rattle.mw_words.proofs.ReadParts.{here, passes_more, passes_all, stuck_is_none, next_is, same_parts}
use Rattle.mw_words.proofs.PartSelection.{one_fails, one_passes, two_pass}
use Rattle.mw_words.proofs.given.only_part.Goals as goal

pub loop-rest-init : goal.loop-rest-init
loop-rest-init c = ([], (here, refl))

pub loop-rest-smaller : goal.loop-rest-smaller
loop-rest-smaller c = fewer_items string_bytes c.loop-rest.rest.now c.in_ok-part.after.now c.in_ok-part.ensures.ok

pub loop-rest-smaller-else-is_some : goal.loop-rest-smaller-else-is_some
loop-rest-smaller-else-is_some c =
    fewer_items string_bytes c.loop-rest.rest.now c.in_ok-part.after.now c.in_ok-part.ensures.ok

pub loop-rest-preserved : goal.loop-rest-preserved
loop-rest-preserved c =
    let before = c.loop-rest.invariant in (
      before.0 ++ part_in c.in_ok-part.part ∷ [],
      (
        passes_more before.1.0 c.in_ok-part.ensures.ok,
        one_fails (is_named (option_map word_in c.args.name)) before.0 _ (part_in c.in_ok-part.part)
            (sym c.is_named.ensures ∙ c.if-is_named.false) before.1.1,
      ),
    )

pub loop-rest-preserved-else-is_some : goal.loop-rest-preserved-else-is_some
loop-rest-preserved-else-is_some c =
    let before = c.loop-rest.invariant in (
      before.0 ++ part_in c.in_ok-part.part ∷ [],
      (
        passes_more before.1.0 c.in_ok-part.ensures.ok,
        one_passes (is_named (option_map word_in c.args.name)) before.0 [] (part_in c.in_ok-part.part)
            (sym c.is_named.ensures ∙ c.if-is_named.true)
            (before.1.1 ∙ none_listed part_in c.loop-rest.found (sym c.is_some.ensures ∙ c.if-is_some.false)),
      ),
    )

pub returns-in_err-part-clause-usage : goal.returns-in_err-part-clause-usage
returns-in_err-part-clause-usage c =
    let some : 1 ≤ length c.loop-rest.rest.now = search rules in
    on_err c.from_residual.result _ (λ parts whole. absurd
    (stuck_is_none c.loop-rest.invariant.1.0
    (some_text string_bytes c.loop-rest.rest.now some) c.in_err-part.ensures.usage parts whole))

pub returns-then-is_some-clause-usage : goal.returns-then-is_some-clause-usage
returns-then-is_some-clause-usage c = λ parts whole.
    let before = c.loop-rest.invariant in
    let next = next_is before.1.0 c.in_ok-part.ensures.ok parts whole in
    let found = some_listed part_in c.loop-rest.found (sym c.is_some.ensures ∙ c.if-is_some.true) in
    two_pass (is_named (option_map word_in c.args.name)) parts before.0 next.0 (part_in c.in_ok-part.part) next.1
    (sym c.is_named.ensures ∙ c.if-is_named.true) (subst (λ (l : List PurePart). 1 ≤ length l) (sym before.1.1) found)

pub returns-clause-ok : goal.returns-clause-ok
returns-clause-ok c = λ parts whole.
    let before = c.loop-rest.invariant in
    let low : length c.loop-rest.rest.now < 1 = search rules in
    let all = passes_all (rw (no_item c.loop-rest.rest.now low) at before.1.0) in
    ap (parts_named (option_map word_in c.args.name)) (same_parts whole all) ∙ before.1.1
