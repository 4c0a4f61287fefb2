use Rattle.std.proofs.Common.{zero, refl}
use Rattle.mw_term.proofs.TypedSubstitution.{Typed-substitute}
use Rattle.mw_term.proofs.laws.substitution_keeps_types.Goals as goal

pub returns : goal.returns
returns c = λ tops g m e v s t w h. Typed-substitute tops zero s g v refl w h
