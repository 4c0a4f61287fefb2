use Rattle.mw_drive.proofs.HonestRuns.{honest_text}
use Rattle.mw_drive.proofs.KernelLines.{its_size, size_small}
use Rattle.mw_drive.proofs.shown.module_size.Goals as goal

pub returns-clause-size : goal.returns-clause-size
returns-clause-size c =
    its_size c.args.cache.now c.args.kernel.now c.requires.built c.bytes.result.now
    (c.bytes.ensures.emission (honest_text c.args.cache.now.load c.requires.honest _))

pub returns-clause-small : goal.returns-clause-small
returns-clause-small c =
    size_small c.args.cache.now c.args.kernel.now c.requires.built c.bytes.result.now
    (c.bytes.ensures.emission (honest_text c.args.cache.now.load c.requires.honest _))
