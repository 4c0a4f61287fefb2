use Rattle.std.proofs.Common.{arith}
use Rattle.mw_infer.specs.Typings.{facts_of}
use Rattle.mw_cert.specs.Nodes.{facts_at_part}
use Rattle.mw_cert.proofs.Trees.{part_facts}
use Rattle.mw_cert.proofs.Parts.{more_stands}
use Rattle.mw_cert.proofs.part.certificate.Goals as goal

pub put_part-requires-clause-short : goal.put_part-requires-clause-short
put_part-requires-clause-short c =
    let t = c.args.typed.now in
    c.requires.short c.loop-part.part (facts_at_part t c.loop-part.part)
    (part_facts t c.loop-part.part (omega arith))

pub loop-part-preserved : goal.loop-part-preserved
loop-part-preserved c =
    let t = c.args.typed.now in
    more_stands (facts_of t) c.loop-part.part c.loop-part.text.items c.put_part.new.text.items
    (facts_at_part t c.loop-part.part) c.loop-part.invariant (part_facts t c.loop-part.part (omega arith))
    c.in_ok-put_part.ensures.text c.in_ok-put_part.ensures.fits
