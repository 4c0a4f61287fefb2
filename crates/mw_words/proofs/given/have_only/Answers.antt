use Rattle.std.proofs.Common.{rules, ◌≤◌, ◌<◌, ◌++◌, ◌∷◌, [], not, map, length, refl, sym, ◌∙◌, ap}
use Rattle.std.specs.String.{string_bytes}
use Rattle.mw_words.specs.Words.{is_taken, word_in}
use Rattle.mw_words.specs.Gathered.{part_in}
use Rattle.mw_words.proofs.Items.{no_item, some_text, on_err}
use Rattle.mw_words.proofs.PartLemmas.{fewer_items}
use Rattle.mw_words.proofs.ReadParts.{here, passes_more, passes_all, stuck_is_none, next_is}
use Rattle.mw_words.proofs.PartSelection.{one_fails, not_none}
use Rattle.mw_words.proofs.given.have_only.Goals as goal

pub loop-rest-init : goal.loop-rest-init
loop-rest-init c = ([], (here, refl))

pub loop-rest-smaller : goal.loop-rest-smaller
loop-rest-smaller c = fewer_items string_bytes c.loop-rest.rest.now c.in_ok-part.after.now c.in_ok-part.ensures.ok

pub loop-rest-preserved : goal.loop-rest-preserved
loop-rest-preserved c =
    let before = c.loop-rest.invariant in (
      before.0 ++ part_in c.in_ok-part.part ∷ [],
      (
        passes_more before.1.0 c.in_ok-part.ensures.ok,
        one_fails (λ part. not (is_taken (map word_in c.args.options.now) part)) before.0 [] (part_in c.in_ok-part.part)
            (ap not (sym c.is_taken.ensures ∙ c.if-not-is_taken.false)) before.1.1,
      ),
    )

pub returns-in_err-part-clause-usage : goal.returns-in_err-part-clause-usage
returns-in_err-part-clause-usage c =
    let some : 1 ≤ length c.loop-rest.rest.now = search rules in
    on_err c.from_residual.result _ (λ parts whole. absurd
    (stuck_is_none c.loop-rest.invariant.1.0
    (some_text string_bytes c.loop-rest.rest.now some) c.in_err-part.ensures.usage parts whole))

pub returns-then-not-is_taken-clause-usage : goal.returns-then-not-is_taken-clause-usage
returns-then-not-is_taken-clause-usage c = λ parts whole.
    let before = c.loop-rest.invariant in
    let next = next_is before.1.0 c.in_ok-part.ensures.ok parts whole in
    not_none (λ part. not (is_taken (map word_in c.args.options.now) part)) parts before.0 next.0
    (part_in c.in_ok-part.part) next.1
    (ap not (sym c.is_taken.ensures ∙ c.if-not-is_taken.true))

pub returns-clause-ok : goal.returns-clause-ok
returns-clause-ok c =
    let before = c.loop-rest.invariant in
    let low : length c.loop-rest.rest.now < 1 = search rules in
    (before.0, (passes_all (rw (no_item c.loop-rest.rest.now low) at before.1.0), before.1.1))
