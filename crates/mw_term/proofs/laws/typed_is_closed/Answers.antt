use Rattle.std.proofs.Common.{length, arith}
use Rattle.mw_term.proofs.TypedClosed.{Typed-closed}
use Rattle.mw_term.proofs.laws.typed_is_closed.Goals as goal

pub returns : goal.returns
returns c = λ tops g m e t h. Typed-closed (length g) (omega arith) h
