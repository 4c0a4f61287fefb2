use Rattle.std.proofs.Common.{◌∙◌}
use Rattle.mw_rows.proofs.linked.outcome.Goals as goal

pub invoke-requires : goal.invoke-requires
invoke-requires c = record {
  can = record {
    function = c.in-Some.ensures.some.0;
    type = c.in-Some.kind.now;
    there = c.in-Some.ensures.some.1;
    fit = c.fit.ensures c.if-not-fit.false ∙ c.as_slice.ensures;
  };
}
