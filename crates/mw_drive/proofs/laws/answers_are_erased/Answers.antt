use Rattle.mw_drive.proofs.ErasedAnswers.{answers_are_erased}
use Rattle.mw_drive.proofs.laws.answers_are_erased.Goals as goal

pub returns : goal.returns
returns c = answers_are_erased
