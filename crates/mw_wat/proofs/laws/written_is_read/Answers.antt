use Rattle.mw_wat.proofs.Ranges.{spelled_has_texts}
use Rattle.mw_wat.proofs.CanonicalIsText.{canonical_is_text}
use Rattle.mw_wat.proofs.OneModule.{short_text_is_read}
use Rattle.mw_wat.specs.CanonicalTexts.{canonical_text}
use Rattle.mw_wat.proofs.laws.written_is_read.Goals as goal

pub returns : goal.returns
returns c = λ bytes m p w s. short_text_is_read (canonical_text m) m
    (canonical_is_text m (spelled_has_texts bytes m p w)) s
