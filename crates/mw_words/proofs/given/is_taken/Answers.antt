use Rattle.std.proofs.Common.{◌∙◌}
use Rattle.mw_words.proofs.PartSelection.{any_mapped}
use Rattle.mw_words.proofs.given.is_taken.Goals as goal

pub returns-in-Named : goal.returns-in-Named
returns-in-Named c = rw c.in-Named.is (c.contains.ensures.value ∙ any_mapped c.args.options.now c.in-Named.name.now)
