use Rattle.mw_wat.proofs.CanonicalIsText.{canonical_is_text}
use Rattle.mw_wat.proofs.laws.canonical_is_text.Goals as goal

pub returns : goal.returns
returns c = λ m h. canonical_is_text m h
