use Rattle.std.proofs.Common.{[], inl, inr, ap, sym, length, ◌∙◌, arith}
use Rattle.std.proofs.lemmas.List.{length-map}
use Rattle.mw_term.specs.Terms.{expression_of}
use Rattle.mw_term.specs.Types.{live}
use Rattle.mw_infer.specs.Inferring.{item_unknowns, item_classifiers}
use Rattle.mw_infer.specs.Judging.{place_of}
use Rattle.mw_infer.specs.Views.{tops_of}
use Rattle.mw_infer.specs.Emitting.{close_of}
use Rattle.mw_infer.proofs.CloseCodes.{item-codes, item-counts}
use Rattle.mw_infer.proofs.FirstFails.{fails-of}
use Rattle.mw_infer.proofs.FirstOpen.{closes-below}
use Rattle.mw_infer.proofs.Items.{item-within}
use Rattle.mw_infer.proofs.Owned.{size-unknowns}
use Rattle.mw_infer.proofs.faults.part_fault.Goals as goal

pub solve-requires : goal.solve-requires
solve-requires c =
    let e = c.in_ok-unknowns.ensures in
    record {
      within = rw (e.unknowns, e.classifiers, c.in_ok-pairs.ensures, e.equations)
          (item-within (tops_of c.args.names.now) (place_of c.args.asked.now) (expression_of c.args.term.now)
          c.requires.own);
    }

pub first_open_close-requires-clause-below : goal.first_open_close-requires-clause-below
first_open_close-requires-clause-below c =
    let e = c.in_ok-unknowns.ensures in
    let tops = tops_of c.args.names.now in
    let term = expression_of c.args.term.now in
    rw (
      c.in-Ok.ensures.types,
      c.in-Ok.ensures.classifiers,
      e.unknowns,
      e.classifiers,
      c.as_slice.ensures.value,
      e.closes,
    ) (closes-below tops (item_unknowns tops term) (item_classifiers tops term) 1 0 [] live term
    (omega arith) (omega arith) tt tt)

pub first_open_close-requires-clause-codes : goal.first_open_close-requires-clause-codes
first_open_close-requires-clause-codes c =
    let e = c.in_ok-unknowns.ensures in
    rw c.as_slice.ensures.value (sym (length-map _ close_of) ∙ ap length e.closes
    ∙ item-codes (tops_of c.args.names.now) (expression_of c.args.term.now))

pub first_open_close-requires-clause-count : goal.first_open_close-requires-clause-count
first_open_close-requires-clause-count c =
    item-counts (tops_of c.args.names.now) (expression_of c.args.term.now) c.requires

pub failing_part-requires : goal.failing_part-requires
failing_part-requires c = let x = size-unknowns (tops_of c.args.names.now) (expression_of c.args.term.now) in
    omega (arith, x, c.requires.unknowns)

pub failing_part-requires-in-Err-TooBig : goal.failing_part-requires-in-Err-TooBig
failing_part-requires-in-Err-TooBig c =
    let x = size-unknowns (tops_of c.args.names.now) (expression_of c.args.term.now) in
    omega (arith, x, c.requires.unknowns)

pub returns-in-Err-Unsolvable : goal.returns-in-Err-Unsolvable
returns-in-Err-Unsolvable c =
    let e = c.in_ok-unknowns.ensures in
    let f = c.in_ok-failing-in-Err-Unsolvable in (
      fails-of (tops_of c.args.names.now) (place_of c.args.asked.now) (expression_of c.args.term.now) _ _ f.failing
          c.requires e.unknowns e.classifiers (c.in_ok-pairs.ensures ∙ e.equations)
          (inl (rw c.in-Err-Unsolvable.field-0-is at c.in-Err-Unsolvable.ensures.fault))
          f.ensures.equations f.ensures.owners f.ensures.front,
      f.ensures.part,
    )

pub returns : goal.returns
returns c =
    let e = c.in_ok-unknowns.ensures in
    let f = c.in_ok-failing-in-Err-TooBig in (
      fails-of (tops_of c.args.names.now) (place_of c.args.asked.now) (expression_of c.args.term.now) _ _ f.failing
          c.requires e.unknowns e.classifiers (c.in_ok-pairs.ensures ∙ e.equations)
          (inr (rw c.in-Err-TooBig.field-0-is at c.in-Err-TooBig.ensures.fault))
          f.ensures.equations f.ensures.owners f.ensures.front,
      f.ensures.part,
    )
