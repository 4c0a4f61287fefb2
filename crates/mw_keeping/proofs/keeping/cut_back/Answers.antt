use Rattle.std.proofs.Common.{ap, ◌∙◌, take, arith}
use Rattle.mw_keeping.proofs.KeptFiles.{all_counted}
use Rattle.mw_keeping.proofs.keeping.cut_back.Goals as goal

pub returns-else-count-eq-FILE_LIMIT-clause-cut : goal.returns-else-count-eq-FILE_LIMIT-clause-cut
returns-else-count-eq-FILE_LIMIT-clause-cut g c = λ tells load same read.
    let held = g.C.Keeper.held c.args.keeper.now in
    all_counted held c.args.count load read (omega (arith, same, c.if-good-count.false)) c.if-count-eq-FILE_LIMIT.false
    ∙ ap (λ n. take n held) same
