use Rattle.std.proofs.Common.{refl}
use Rattle.mw_scope.proofs.binders.Binders.find.Goals as goal

pub returns : goal.returns
returns c = rw (c.flatten.ensures, c.copied.ensures, c.get.ensures.value, c.as_slice.ensures) refl
