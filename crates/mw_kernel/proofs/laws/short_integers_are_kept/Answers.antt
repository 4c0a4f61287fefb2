use Rattle.mw_kernel.proofs.MeaningLemmas as lemma
use Rattle.mw_kernel.proofs.laws.short_integers_are_kept.Goals as goal

pub returns : goal.returns
returns c = lemma.short_integers_are_kept
