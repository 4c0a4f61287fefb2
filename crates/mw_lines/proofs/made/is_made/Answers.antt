use Rattle.std.proofs.Common.{◌≡◌, ◌-◌, suc, refl, sym, subst, arith, true≢false}
use Rattle.mw_lines.proofs.ImageSearch.{IsFollowed, first_followed, next_followed, all_followed, not_made}
use Rattle.mw_lines.proofs.made.is_made.Goals as goal

pub loop-left-init : goal.loop-left-init
loop-left-init c =
    let e : suc c.args.root_at ≡ c.len-left.result =
    let n = c.in_ok-images.ensures.count in omega (arith, c.len-left.ensures) in
    subst (λ n. IsFollowed c.args.root.now c.args.here.now c.args.root_at c.args.at c.in_ok-images.images n) e
    (first_followed c.args.root.now c.args.here.now c.args.root_at c.args.at c.requires.root c.requires.here
    c.requires.root_within c.requires.within c.in_ok-images.images c.in_ok-images.ensures)

pub follow-requires-clause-within : goal.follow-requires-clause-within
follow-requires-clause-within c =
    let n = c.loop-left.invariant.count in
    let w = c.loop-left.invariant.within in
    omega (arith, c.loop-left-test.true)

pub loop-left-preserved : goal.loop-left-preserved
loop-left-preserved c =
    let e : c.loop-left.left ≡ suc (c.loop-left.left - 1) = omega (arith, c.loop-left-test.true) in
    next_followed c.args.root.now c.args.here.now c.args.root_at c.args.at c.requires.root c.requires.here
    c.requires.root_within c.requires.within c.loop-left.images c.follow.new.self (c.loop-left.left - 1)
    (subst (λ n. IsFollowed c.args.root.now c.args.here.now c.args.root_at c.args.at c.loop-left.images n) e
    c.loop-left.invariant)
    (c.in_ok-follow.ensures.added c.if-not-branch.false)

pub returns-then-not-branch : goal.returns-then-not-branch
returns-then-not-branch c = (
  (λ e. absurd (true≢false (sym e))),
  (λ w. absurd (not_made c.args.root.now c.args.here.now c.args.root_at c.args.at c.requires.root c.requires.here
      c.requires.root_within c.requires.within c.loop-left.images (c.loop-left.left - 1) c.loop-left.left
      c.loop-left.invariant
      (c.in_ok-follow.ensures.refused c.if-not-branch.true) w)),
)

pub returns : goal.returns
returns c =
    let e : c.loop-left.left ≡ 0 = omega (arith, c.loop-left-test.false) in (
      (λ t. all_followed c.args.root.now c.args.here.now c.args.root_at c.args.at c.requires.root c.requires.here
          c.requires.root_within c.requires.within c.loop-left.images
          (subst (λ n. IsFollowed c.args.root.now c.args.here.now c.args.root_at c.args.at c.loop-left.images n) e
          c.loop-left.invariant)),
      (λ w. refl),
    )
