use Rattle.std.proofs.Common.{◌≡◌, ◌∙◌, arith}
use Rattle.mw_term.specs.Terms.{expression_of}
use Rattle.mw_infer.specs.Owners.{own_count}
use Rattle.mw_infer.proofs.Owned.{pushed-more}
use Rattle.mw_infer.proofs.owners.own.Goals as goal

pub loop-preserved : goal.loop-preserved
loop-preserved c = record {
  next = c.loop.invariant.next;
  nodes = c.in_ok-push.ensures.items
      ∙ rw c.loop.invariant.nodes (pushed-more c.args.owners.now.nodes.items c.loop.counter c.args.owners.now.next);
}

pub returns : goal.returns
returns c =
    let e : c.loop.counter ≡ own_count c.args.is_quoted (expression_of c.args.term.now) =
    omega (arith, c.count_own-end.ensures.count) in
    record { next = c.loop.invariant.next; nodes = rw e at c.loop.invariant.nodes }
