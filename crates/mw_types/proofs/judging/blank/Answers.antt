use Rattle.mw_types.proofs.Halving.{all_blank, all_free}
use Rattle.mw_types.proofs.judging.blank.Goals as goal

pub returns : goal.returns
returns c = all_blank c.args.unknowns c.args.classifiers _ c.in_ok-parent.ensures c.in_ok-classifier.ensures
    (all_free c.args.unknowns _ c.resize.new.self.items c.new-shape.ensures.len
    (rw c.new-shape.ensures.items at c.in_ok-resize.ensures.items)) c.new.ensures.items
