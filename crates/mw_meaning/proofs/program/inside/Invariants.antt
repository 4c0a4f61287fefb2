use Rattle.std.proofs.Common.{◌≡◌, ◌≤◌, length, drop}
use Rattle.mw_term.specs.Terms.{expression_of}
use Rattle.mw_meaning.specs.NewNames.{naming_of, inside_terms, definitions}
use Rattle.mw_meaning.proofs.program.inside.Given as goal

abbrev pub invariant-loop-rest : goal.invariant-loop-rest
invariant-loop-rest l = record {
  within : l.rest ≤ length l.items;
  inside : inside_terms (naming_of l.names) (definitions (drop l.rest l.items)) (expression_of l.fn.body.value)
      ≡ expression_of l.inner.value;
}

abbrev pub decreases-loop-rest : goal.decreases-loop-rest
decreases-loop-rest l = l.rest
