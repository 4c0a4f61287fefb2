use Rattle.std.proofs.Common.{◌≡◌, ◌+◌, ◌++◌, map, Some}
use Rattle.std.specs.Prelude.{replicate}
use Rattle.mw_infer.proofs.owners.own.Given as goal

abbrev pub invariant-loop : goal.invariant-loop
invariant-loop l = record {
  next : l.owners.next ≡ l.fn.owners.next + 1;
  nodes : l.owners.nodes.items ≡ l.fn.owners.nodes.items ++ map (λ n. Some n) (replicate l.counter l.fn.owners.next);
}
