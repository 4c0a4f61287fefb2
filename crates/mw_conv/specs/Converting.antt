-- What the walk that makes code does to the converter that it goes with.
use Rattle.std.specs.Prelude.{◌≡◌, ℕ, ◌+◌, ◌*◌, ◌^◌, ◌<◌, ◌≤◌, ◌++◌, length}
use Rattle.mw_term.specs.Terms.{Expression, size}
use Rattle.mw_term.specs.Closed.{ClosedBelow}
use Rattle.mw_ir.specs.Ir.{Ir}
use Rattle.mw_conv.specs.declared.code.Converter.{Converter}
use Rattle.mw_conv.specs.Convert.{funs}
use Rattle.mw_conv.specs.Contexts.{found_in, code_in, AreAdded}
use Rattle.mw_conv.specs.Finding.{EndsWith}

-- The term is closed but for the variables in scope, and what was found of its functions comes next. No number of a
-- slot, a binder or a function passes 32 bits.
pub record CanConvert (before : Converter) (e : Expression) (slot : ℕ) : Type 0 where
  pub closed : ClosedBelow (length before.context.items) e
  pub slots : slot + size e < 2 ^ 32
  pub binders : length before.context.items + 2 * size e < 2 ^ 32
  pub left : funs e ≤ before.left
  pub found : EndsWith before.found.items (found_in e before.context.items)

-- The variables in scope are as before, the functions of the term were taken from those that were found and added, so
-- many fewer are left, and this is the code.
pub record Converts (before after : Converter) (e : Expression) (slot : ℕ) (r : Ir) : Type 0 where
  pub same : after.context.items ≡ before.context.items
  pub left : before.left ≡ after.left + funs e
  pub found : before.found.items ≡ after.found.items ++ found_in e before.context.items
  pub code : r ≡ code_in e after.left before.context.items slot
  pub funcs : AreAdded before.funcs after.funcs e after.left before.context.items
