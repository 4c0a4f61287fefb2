use Rattle.std.proofs.Common.{rules, arith, ap, sym, ◌∙◌, ◌≡◌, map, max, [], ◌∷◌, ◌++◌}
use Rattle.mw_lex.specs.Tokens.{tokens_of}
use Rattle.mw_grammar.specs.SurfaceTrees.{item_of}
use Rattle.mw_grammar.specs.Grammar.{program}
use Rattle.mw_grammar.specs.Forms.{end_next, items_of, program_by}
use Rattle.mw_grammar.specs.Descent.{none_yet, full, reading}
use Rattle.mw_grammar.proofs.Below.{read_full}
use Rattle.mw_parse.proofs.Programs.{behind_items, item_goes, item_shorter, expected_shorter, tokens_length, map_more}
use Rattle.mw_parse.proofs.items.program_tree.Goals as goal

pub loop-items-smaller : goal.loop-items-smaller
loop-items-smaller c =
    let p = expected_shorter end_next (tokens_of c.in_ok-item-in-Item.mid.now) (tokens_of c.in-Some-after.behind.now)
    c.in-Some-after.ensures.expected in
    let q = item_shorter c.args.room.nodes (tokens_of c.loop-items.rest.now)
    (tokens_of c.in_ok-item-in-Item.mid.now) _ _ c.in_ok-item-in-Item.ensures.gives in
    omega (
      arith,
      p,
      q,
      tokens_length c.in_ok-item-in-Item.mid.now,
      tokens_length c.in-Some-after.behind.now,
      tokens_length c.loop-items.rest.now,
    )

pub loop-items-preserved : goal.loop-items-preserved
loop-items-preserved c =
    let ts = tokens_of c.loop-items.rest.now in
    let b = c.args.room.nodes in
    let step : full b program ts ≡ reading b items_of none_yet ts = read_full b program ts
    ∙ c.in-Some.ensures.picks program program_by b none_yet ∙ ap (λ F. reading b F none_yet ts) c.in-Item.ensures in
    let goes = item_goes b (map item_of c.loop-items.items) c.loop-items.height (tokens_of c.args.tokens.now)
    ts (tokens_of c.in_ok-item-in-Item.mid.now) (tokens_of c.in-Some-after.behind.now)
    (item_of c.in_ok-item-in-Item.item) c.in_ok-item-in-Item.other
    c.loop-items.invariant.0 step c.in_ok-item-in-Item.ensures.gives
    (λ F a. c.in-Some-after.ensures.expected program F b a) in
    let m : max c.loop-items.height c.in_ok-item-in-Item.other ≡ c.max-height.result = search rules in
    let i : map item_of c.push.new.self ≡ map item_of c.loop-items.items ++ (item_of c.in_ok-item-in-Item.item ∷ []) =
    ap (λ x. map item_of x) c.in_ok-push-in-Some-after.ensures.ok ∙ map_more c.loop-items.items
    c.in_ok-item-in-Item.item in
    let h = c.in_ok-item-in-Item.ensures.height in
    let l = c.loop-items.invariant.1 in (
      goes ∙ ap (λ z. behind_items z (max c.loop-items.height c.in_ok-item-in-Item.other)
          (full b program (tokens_of c.in-Some-after.behind.now))) (sym i)
          ∙ ap (λ k. behind_items (map item_of c.push.new.self) k
          (full b program (tokens_of c.in-Some-after.behind.now))) m,
      omega (arith, m, h, l),
    )
