use Rattle.std.proofs.Common.{◌≡◌, ◌+◌, ℕ, length, ap, sym, ◌∙◌, arith}
use Rattle.std.proofs.lemmas.List.{length-map}
use Rattle.mw_term.specs.Programs.{PureProgram, Definition, program_of, definition_of}
use Rattle.mw_infer.specs.Checking.{IsFirstRefusal}
use Rattle.mw_infer.specs.Views.{tops_of, top_of}
use Rattle.mw_infer.proofs.Stepping.{progress-first, progress-next, item-judged, item-refused, main-judged}
use Rattle.mw_infer.proofs.Stepping.{main-refused, main-faultless, steps-length, if-refused, item-at, ended}
use Rattle.mw_infer.proofs.Growing.{principal-main}
use Rattle.mw_infer.proofs.NodesTold.{told-first, kept-next, kept-main}
use Rattle.mw_infer.proofs.program.whole.Goals as goal

pub loop-item-init : goal.loop-item-init
loop-item-init c = record {
  progress = rw c.new-names.ensures.items (progress-first (program_of c.args.program.now));
  names = ap length c.new-names.ensures.items;
  told = λ w. rw c.new-parts.ensures.items (told-first (program_of c.args.program.now));
}

pub step-requires : goal.step-requires
step-requires c = item-judged _ _ _ _ c.requires
    (item-at c.args.program.now c.as_slice-items.ensures c.loop-item-test.true c.item-item.is)
    c.loop-item.invariant.progress

pub returns-in-Err-clause-refused : goal.returns-in-Err-clause-refused
returns-in-Err-clause-refused c =
    let p : PureProgram = program_of c.args.program.now in
    let i : ℕ = c.loop-item.item-index in
    let d : Definition = definition_of c.item-item.result.kind in
    let g = item-at c.args.program.now c.as_slice-items.ensures c.loop-item-test.true c.item-item.is in
    let e : c.len-index.result ≡ i =
    omega (arith, c.len-index.ensures, c.loop-item.names.ok.0, c.loop-item.invariant.names) in
    if-refused c.in-Err.stop _ (IsFirstRefusal p)
    (λ r f. item-refused p i d (tops_of c.loop-item.names.items) r g c.loop-item.invariant.progress (rw e at f))
    c.in-Err.ensures.refused

pub loop-item-preserved : goal.loop-item-preserved
loop-item-preserved c =
    let p : PureProgram = program_of c.args.program.now in
    let i : ℕ = c.loop-item.item-index in
    let d : Definition = definition_of c.item-item.result.kind in
    let g = item-at c.args.program.now c.as_slice-items.ensures c.loop-item-test.true c.item-item.is in
    let s = c.in-Ok.ensures.ok in
    record {
      progress = progress-next p i d (tops_of c.loop-item.names.items) (tops_of c.step.new.names.items) c.in-Ok.nodes
          c.requires g c.loop-item.invariant.progress s;
      names = sym (length-map c.step.new.names.items top_of) ∙ steps-length (tops_of c.loop-item.names.items) d
          (tops_of c.step.new.names.items) c.in-Ok.nodes s
          ∙ ap (λ n. n + 1) (length-map c.loop-item.names.items top_of ∙ c.loop-item.invariant.names);
      told = λ w. kept-next p i d (tops_of c.loop-item.names.items) (tops_of c.step.new.names.items) c.in-Ok.nodes
          c.loop-item.parts.items c.keep.new.parts.items g c.loop-item.invariant.progress s (c.in-Ok.ensures.told w)
          c.in_ok-keep-in-Ok.ensures (c.loop-item.invariant.told w);
    }

pub last-requires : goal.last-requires
last-requires c =
    let a = ended c.args.program.now c.as_slice-items.ensures c.loop-item-test.false
    c.loop-item.auto.item-index-end c.loop-item.invariant.progress c.reveal.ensures in
    rw (c.as_slice.ensures.value, a.shown) (main-judged _ _ c.requires a.progress)

pub returns-in-Ok-last-clause-faultless : goal.returns-in-Ok-last-clause-faultless
returns-in-Ok-last-clause-faultless c =
    let a = ended c.args.program.now c.as_slice-items.ensures c.loop-item-test.false
    c.loop-item.auto.item-index-end c.loop-item.invariant.progress c.reveal.ensures in
    main-faultless _ _ c.in-Ok-last.nodes c.requires a.progress
    (rw (c.as_slice.ensures.value, a.shown) at c.in-Ok-last.ensures.fine)

pub returns-in-Ok-last-clause-principal : goal.returns-in-Ok-last-clause-principal
returns-in-Ok-last-clause-principal c =
    let a = ended c.args.program.now c.as_slice-items.ensures c.loop-item-test.false
    c.loop-item.auto.item-index-end c.loop-item.invariant.progress c.reveal.ensures in
    rw a.shown (principal-main _ _ a.progress.principal)

pub returns-in-Ok-last-clause-nodes : goal.returns-in-Ok-last-clause-nodes
returns-in-Ok-last-clause-nodes c = λ w.
    let p : PureProgram = program_of c.args.program.now in
    let a = ended c.args.program.now c.as_slice-items.ensures c.loop-item-test.false
    c.loop-item.auto.item-index-end c.loop-item.invariant.progress c.reveal.ensures in
    kept-main p (tops_of c.loop-item.names.items) c.in-Ok-last.nodes c.loop-item.parts.items
    c.keep-in-Ok-last.new.parts.items a.progress
    (rw (c.as_slice.ensures.value, a.shown) at c.in-Ok-last.ensures.fine) (c.in-Ok-last.ensures.told w)
    c.in_ok-keep-in-Ok-last.ensures (rw a.index at (c.loop-item.invariant.told w))

pub returns-clause-refused : goal.returns-clause-refused
returns-clause-refused c =
    let p : PureProgram = program_of c.args.program.now in
    let a = ended c.args.program.now c.as_slice-items.ensures c.loop-item-test.false
    c.loop-item.auto.item-index-end c.loop-item.invariant.progress c.reveal.ensures in
    let e : c.len-index-2.result ≡ length p.items =
    omega (arith, c.len-index-2.ensures, c.loop-item.names.ok.0, c.loop-item.invariant.names, a.index) in
    if-refused c.in-Err-last.stop _ (IsFirstRefusal p)
    (λ r f. main-refused p (tops_of c.loop-item.names.items) r a.progress
    (rw (c.as_slice.ensures.value, a.shown, e) at f)) c.in-Err-last.ensures.refused
