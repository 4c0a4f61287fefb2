use Rattle.std.proofs.Common.{◌≡◌, ◌+◌, ℕ, [], length, ap, sym, ◌∙◌, arith}
use Rattle.std.proofs.lemmas.List.{length-map}
use Rattle.mw_term.specs.Parts.{main_place, part_of_item}
use Rattle.mw_term.specs.Programs.{PureProgram, Definition, program_of, definition_of}
use Rattle.mw_infer.specs.Views.{tops_of, top_of}
use Rattle.mw_infer.proofs.Finding.{item-found, item-none, main-found, main-none, answer-found, answer-first}
use Rattle.mw_infer.proofs.Growing.{revealed}
use Rattle.mw_infer.proofs.Stepping.{progress-first, progress-next, item-judged, main-judged, steps-length}
use Rattle.mw_infer.proofs.Stepping.{item-at, ended}
use Rattle.mw_infer.proofs.faults.first_fault.Goals as goal

pub loop-item-init : goal.loop-item-init
loop-item-init c = record {
  progress = rw c.new-names.ensures.items (progress-first (program_of c.args.program.now));
  names = ap length c.new-names.ensures.items;
}

pub step-requires : goal.step-requires
step-requires c = item-judged _ _ _ _ c.requires
    (item-at c.args.program.now c.as_slice-items.ensures c.loop-item-test.true c.item-item.is)
    c.loop-item.invariant.progress

pub item_fault-requires : goal.item_fault-requires
item_fault-requires c = rw (c.as_slice.ensures.value, c.in-Err-Refused.ensures.kept)
    (item-judged _ _ _ _ c.requires
    (item-at c.args.program.now c.as_slice-items.ensures c.loop-item-test.true c.item-item.is)
    c.loop-item.invariant.progress)

pub returns-in-Err-Refused-clause-found : goal.returns-in-Err-Refused-clause-found
returns-in-Err-Refused-clause-found c =
    let p : PureProgram = program_of c.args.program.now in
    let i : ℕ = c.loop-item.item-index in
    let d : Definition = definition_of c.item-item.result.kind in
    let g = item-at c.args.program.now c.as_slice-items.ensures c.loop-item-test.true c.item-item.is in
    let e : c.len-index.result ≡ i =
    omega (arith, c.len-index.ensures, c.loop-item.names.ok.0, c.loop-item.invariant.names) in
    answer-found p (tops_of c.loop-item.names.items) (part_of_item [] d).place (part_of_item [] d).term i
    c.item_fault.result
    (λ x has at. item-found p i d (tops_of c.loop-item.names.items) x g c.loop-item.invariant.progress has at)
    (rw (c.as_slice.ensures.value, c.in-Err-Refused.ensures.kept, e) at c.item_fault.ensures)

pub returns-in-Err-Refused-clause-first : goal.returns-in-Err-Refused-clause-first
returns-in-Err-Refused-clause-first c r q =
    let p : PureProgram = program_of c.args.program.now in
    let i : ℕ = c.loop-item.item-index in
    let d : Definition = definition_of c.item-item.result.kind in
    let g = item-at c.args.program.now c.as_slice-items.ensures c.loop-item-test.true c.item-item.is in
    let e : c.len-index.result ≡ i =
    omega (arith, c.len-index.ensures, c.loop-item.names.ok.0, c.loop-item.invariant.names) in
    answer-first p (tops_of c.loop-item.names.items) (part_of_item [] d).place (part_of_item [] d).term i
    c.item_fault.result r c.requires
    (λ x has at. item-found p i d (tops_of c.loop-item.names.items) x g c.loop-item.invariant.progress has at)
    (λ none. item-none p i d (tops_of c.loop-item.names.items) c.in-Err-Refused.field-0-0 c.requires g
    c.loop-item.invariant.progress none
    (rw (c.in-Err-Refused.field-0-is, e) at c.in-Err-Refused.ensures.refused)) q
    (rw (c.as_slice.ensures.value, c.in-Err-Refused.ensures.kept, e) at c.item_fault.ensures)

pub loop-item-preserved : goal.loop-item-preserved
loop-item-preserved c =
    let p : PureProgram = program_of c.args.program.now in
    let i : ℕ = c.loop-item.item-index in
    let d : Definition = definition_of c.item-item.result.kind in
    let g = item-at c.args.program.now c.as_slice-items.ensures c.loop-item-test.true c.item-item.is in
    let s = c.in-Ok.ensures.ok in
    record {
      progress = progress-next p i d (tops_of c.loop-item.names.items) (tops_of c.step.new.names.items) c.in-Ok.field-0
          c.requires g c.loop-item.invariant.progress s;
      names = sym (length-map c.step.new.names.items top_of) ∙ steps-length (tops_of c.loop-item.names.items) d
          (tops_of c.step.new.names.items) c.in-Ok.field-0 s
          ∙ ap (λ n. n + 1) (length-map c.loop-item.names.items top_of ∙ c.loop-item.invariant.names);
    }

pub main_fault-requires : goal.main_fault-requires
main_fault-requires c =
    let a = ended c.args.program.now c.as_slice-items.ensures c.loop-item-test.false
    c.loop-item.auto.item-index-end c.loop-item.invariant.progress c.reveal.ensures in
    rw (c.as_slice-2.ensures.value, a.shown) (main-judged _ _ c.requires a.progress)

pub returns-clause-found : goal.returns-clause-found
returns-clause-found c =
    let p : PureProgram = program_of c.args.program.now in
    let a = ended c.args.program.now c.as_slice-items.ensures c.loop-item-test.false
    c.loop-item.auto.item-index-end c.loop-item.invariant.progress c.reveal.ensures in
    let e : c.len-index-2.result ≡ length p.items =
    omega (arith, c.len-index-2.ensures, c.loop-item.names.ok.0, c.loop-item.invariant.names, a.index) in
    answer-found p (revealed p.items (tops_of c.loop-item.names.items)) (main_place p.result) p.body (length p.items)
    c.main_fault.result (λ x has at. main-found p (tops_of c.loop-item.names.items) x a.progress has at)
    (rw (c.as_slice-2.ensures.value, a.shown, e) at c.main_fault.ensures)

pub returns-clause-first : goal.returns-clause-first
returns-clause-first c r q =
    let p : PureProgram = program_of c.args.program.now in
    let a = ended c.args.program.now c.as_slice-items.ensures c.loop-item-test.false
    c.loop-item.auto.item-index-end c.loop-item.invariant.progress c.reveal.ensures in
    let e : c.len-index-2.result ≡ length p.items =
    omega (arith, c.len-index-2.ensures, c.loop-item.names.ok.0, c.loop-item.invariant.names, a.index) in
    answer-first p (revealed p.items (tops_of c.loop-item.names.items)) (main_place p.result) p.body (length p.items)
    c.main_fault.result r c.requires
    (λ x has at. main-found p (tops_of c.loop-item.names.items) x a.progress has at)
    (λ none. main-none p (tops_of c.loop-item.names.items) r c.requires a.progress none q) q
    (rw (c.as_slice-2.ensures.value, a.shown, e) at c.main_fault.ensures)
