use Rattle.mw_infer.specs.Views.{top_of, tops_of}
use Rattle.mw_infer.proofs.Emission.{AreLow-at, AreOwn-at}
use Rattle.mw_infer.proofs.own.name.Goals as goal

pub used-requires-clause-low : goal.used-requires-clause-low
used-requires-clause-low c = AreLow-at (tops_of c.args.names.now) c.args.index (top_of c.in-Some.scheme.now)
    c.requires.low c.in-Some.ensures

pub used-requires-clause-own : goal.used-requires-clause-own
used-requires-clause-own c = AreOwn-at (tops_of c.args.names.now) c.args.index (top_of c.in-Some.scheme.now)
    c.requires.own c.in-Some.ensures
