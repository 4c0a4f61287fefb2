use Rattle.std.proofs.Common.{length, refl}
use Rattle.mw_code.proofs.FreshBinders.{Stands-front}
use Rattle.mw_code.proofs.laws.outer_binders_drop.Goals as goal

pub returns : goal.returns
returns c = λ ns ys xs i e. Stands-front ns ys xs i e (length ys) refl
