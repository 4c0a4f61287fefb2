use Rattle.std.proofs.Common.{refl}
use Rattle.mw_infer.specs.Views.{top_of}
use Rattle.mw_infer.proofs.Emission.{on-ok}
use Rattle.mw_infer.proofs.Shortened.{adds-use}
use Rattle.mw_infer.proofs.own.used.Goals as goal

pub returns-then-is_whole : goal.returns-then-is_whole
returns-then-is_whole c = on-ok c.equate_use.result
    (λ a. adds-use c.args.out.now c.equate_use.new.out c.args.own c.args.name (top_of c.args.named.now)
    (c.if-is_whole.ensures.0 refl) c.requires.own c.requires.name a)
    c.equate_use.ensures
