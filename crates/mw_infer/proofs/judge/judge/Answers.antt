use Rattle.std.proofs.Common.{[], map, ap, sym, ◌∙◌, arith}
use Rattle.std.proofs.lemmas.List.{nil_from_length}
use Rattle.mw_term.specs.Terms.{expression_of}
use Rattle.mw_term.specs.Types.{live}
use Rattle.mw_types.specs.Types.{type_of}
use Rattle.mw_types.specs.Solutions.{substitution_of}
use Rattle.mw_types.specs.declared.types.Ty.TheVariants.{Int}
use Rattle.mw_infer.specs.Inferring.{item_unknowns, item_classifiers}
use Rattle.mw_infer.specs.Judging.{place_of}
use Rattle.mw_infer.specs.Nodes.{facts_at}
use Rattle.mw_infer.specs.NodeViews.{numbers_of}
use Rattle.mw_infer.specs.Views.{tops_of}
use Rattle.mw_infer.proofs.FirstOpen.{closes-below}
use Rattle.mw_infer.proofs.Items.{item-within}
use Rattle.mw_infer.proofs.NodeLists.{facts-told, numbers-within}
use Rattle.mw_infer.proofs.Shortened.{big-alike, unsolvable-alike}
use Rattle.mw_infer.proofs.Testing.{read}
use Rattle.mw_infer.proofs.TypeAlone.{item-solved, type-judged}
use Rattle.mw_infer.specs.Emitting.{closes_of}
use Rattle.mw_infer.proofs.judge.judge.Goals as goal

pub solve-requires : goal.solve-requires
solve-requires c =
    let e = c.in_ok-out.ensures in
    record {
      within = rw (e.unknowns, e.classifiers) (c.in_ok-pairs.ensures.within _ _
          (rw e.equations (item-within (tops_of c.args.names.now) (place_of c.args.asked.now)
          (expression_of c.args.term.now) c.requires.own)));
    }

pub first_open-requires : goal.first_open-requires
first_open-requires c =
    let e = c.in_ok-out.ensures in
    let tops = tops_of c.args.names.now in
    let term = expression_of c.args.term.now in
    rw (
      c.in-Ok.ensures.types,
      c.in-Ok.ensures.classifiers,
      e.unknowns,
      e.classifiers,
      c.as_slice.ensures.value,
      e.closes,
    ) (closes-below tops (item_unknowns tops term) (item_classifiers tops term) 1 0 [] live term
    (omega arith) (omega arith) tt tt)

pub let_type-requires-clause-within : goal.let_type-requires-clause-within
let_type-requires-clause-within c =
    let e = c.in_ok-out.ensures in
    let p = ap (λ t. type_of t) (read c.in-Ok.solved.types 0 Int c.ty.result.now c.ty.ensures) in
    rw p at (c.in-Ok.ensures.within.types 0 (rw e.unknowns (omega arith)))

pub let_type-requires-clause-small : goal.let_type-requires-clause-small
let_type-requires-clause-small c =
    let e = c.in_ok-out.ensures in
    let p = ap (λ t. type_of t) (read c.in-Ok.solved.types 0 Int c.ty.result.now c.ty.ensures) in
    rw p at (c.in-Ok.ensures.small 0 (rw e.unknowns (omega arith)))

pub returns-in-Err-Unsolvable-clause-judged : goal.returns-in-Err-Unsolvable-clause-judged
returns-in-Err-Unsolvable-clause-judged c = let e = c.in_ok-out.ensures in (
  _,
  rw (e.unknowns, e.classifiers, e.equations) at
      (unsolvable-alike c.in_ok-pairs.ensures (rw c.in-Err-Unsolvable.field-0-is at c.in-Err-Unsolvable.ensures.fault)),
)

pub returns-in-Err-TooBig-clause-judged : goal.returns-in-Err-TooBig-clause-judged
returns-in-Err-TooBig-clause-judged c = let e = c.in_ok-out.ensures in (
  _,
  rw (e.unknowns, e.classifiers, e.equations) at
      (big-alike c.in_ok-pairs.ensures (rw c.in-Err-TooBig.field-0-is at c.in-Err-TooBig.ensures.fault)),
)

pub returns-in-Some-clause-judged : goal.returns-in-Some-clause-judged
returns-in-Some-clause-judged c =
    let e = c.in_ok-out.ensures in (
      substitution_of c.in-Ok.solved,
      item-solved e.unknowns e.classifiers e.equations c.in_ok-pairs.ensures c.in-Ok.ensures.most_general
          c.in-Ok.ensures.small c.in-Ok.ensures.within,
      rw (c.as_slice.ensures.value, e.closes) at (rw c.in-Some.is at c.in_ok-at-in-Ok.ensures),
    )

pub returns-in-Ok-clause-judged : goal.returns-in-Ok-clause-judged
returns-in-Ok-clause-judged c =
    let e = c.in_ok-out.ensures in
    let p = ap (λ t. type_of t) (read c.in-Ok.solved.types 0 Int c.ty.result.now c.ty.ensures) in (
      substitution_of c.in-Ok.solved,
      item-solved e.unknowns e.classifiers e.equations c.in_ok-pairs.ensures c.in-Ok.ensures.most_general
          c.in-Ok.ensures.small c.in-Ok.ensures.within,
      rw (c.as_slice.ensures.value, e.closes) at (rw c.in_default.is at c.in_ok-at-in-Ok.ensures),
      rw p c.in_ok-known-in-Ok.ensures,
      facts-told c.in-Ok.solved (map numbers_of c.in_ok-nodes-in-Ok.nodes.items)
          ∙ ap (map (facts_at (substitution_of c.in-Ok.solved))) c.in_ok-nodes-in-Ok.ensures,
    )

pub invariant_of-nodes : goal.invariant_of-nodes
invariant_of-nodes c =
    let e = c.in_ok-out.ensures in
    let tops = tops_of c.args.names.now in
    let term = expression_of c.args.term.now in
    rw (c.in-Ok.ensures.types, c.in-Ok.ensures.classifiers, e.unknowns, e.classifiers, c.in_ok-nodes-in-Ok.ensures)
    (numbers-within tops (item_unknowns tops term) (item_classifiers tops term) 0 1 0 term (omega arith) (omega arith)
    (omega arith))

pub judge_type-requires-clause-within : goal.judge_type-requires-clause-within
judge_type-requires-clause-within c = let e = c.in_ok-out.ensures in
    rw (e.unknowns, e.classifiers) (c.in_ok-pairs.ensures.within _ _
    (rw e.equations (item-within (tops_of c.args.names.now) (place_of c.args.asked.now)
    (expression_of c.args.term.now) c.requires.own)))

pub returns-then-not-with_nodes-clause-judged : goal.returns-then-not-with_nodes-clause-judged
returns-then-not-with_nodes-clause-judged c =
    let e = c.in_ok-out.ensures in
    let empty = nil_from_length c.in_ok-out.out.closes.items (grind (arith, c.is_empty.ensures, c.if-is_empty.true)) in
    type-judged (tops_of c.args.names.now) (place_of c.args.asked.now) (expression_of c.args.term.now) _ _
    e.unknowns e.classifiers e.equations c.in_ok-pairs.ensures (sym e.closes ∙ ap closes_of empty)
    c.judge_type.result c.judge_type.ensures

pub returns-then-not-with_nodes-2-clause-judged : goal.returns-then-not-with_nodes-2-clause-judged
returns-then-not-with_nodes-2-clause-judged c =
    let e = c.in_ok-out.ensures in
    let p = ap (λ t. type_of t) (read c.in-Ok.solved.types 0 Int c.ty.result.now c.ty.ensures) in (
      substitution_of c.in-Ok.solved,
      item-solved e.unknowns e.classifiers e.equations c.in_ok-pairs.ensures c.in-Ok.ensures.most_general
          c.in-Ok.ensures.small c.in-Ok.ensures.within,
      rw (c.as_slice.ensures.value, e.closes) at (rw c.in_default.is at c.in_ok-at-in-Ok.ensures),
      rw p c.in_ok-known-in-Ok.ensures,
      tt,
    )
