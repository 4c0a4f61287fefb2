use Rattle.mw_bench.proofs.runs.run.Goals as goal

pub invoke-requires : goal.invoke-requires
invoke-requires c = record {
  can = record {
    function = c.in-Some.ensures.some.0;
    type = c.in-Some.kind.now;
    there = c.in-Some.ensures.some.1;
    fit = c.takes_one_large.ensures c.if-not-takes_one_large.false;
  };
}
