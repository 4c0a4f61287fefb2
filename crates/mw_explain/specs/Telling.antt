-- What is told of a fault of a program's types.
use Rattle.std.specs.Prelude.{◌≡◌, ◌-◌, Option, Some, None, Result, Ok, Err, slice_get}
use Rattle.mw_term.specs.Programs.{PureProgram}
use Rattle.mw_types.specs.Types.{type_of}
use Rattle.mw_infer.specs.Failing.{AreSides}
use Rattle.mw_infer.specs.Faults.{IsFaultOfProgram}
use Rattle.mw_infer.specs.declared.failing.FailingPart.{FailingPart}
use Rattle.mw_infer.specs.declared.faults.OpenClose.{OpenClose}
use Rattle.mw_infer.specs.declared.faults.PartFault.{PartFault}
use Rattle.mw_infer.specs.declared.faults.PartFault.TheVariants.{Close as Closes, Equations as Fails}
use Rattle.mw_explain.specs.declared.telling.Told.{Told}
use Rattle.mw_explain.specs.declared.telling.Told.TheVariants.{Close, Types}
use Rattle.mw_explain.specs.declared.telling.Unclosed.{Unclosed}
use Rattle.mw_explain.specs.declared.telling.Unmet.{Unmet}

-- Of equations that fail these are told: their part, the node whose equation is the first to fail, or that it is no
-- node's, and the types of both sides of it.
pub record TellsTypes (x : FailingPart) (y : Unmet) : Type 0 where
  pub part : y.part ≡ x.part
  pub node : slice_get x.owners.items (x.front - 1) ≡ Some y.node
  pub sides : AreSides x (type_of y.left) (type_of y.right)

-- Of an open close these are told: its part, its offset, and the binder of the fault, which IsToldBinder of mw_infer
-- describes: it is named in the code if any binder that holds the classifier is, and is the nearest of those like it.
pub record TellsClose (x : OpenClose) (y : Unclosed) : Type 0 where
  pub part : y.part ≡ x.part
  pub place : y.at ≡ x.at
  pub binder : y.binder ≡ x.binder

-- what is told is of the fault
abbrev pub Tells : PartFault → Told → Type 0
Tells (Fails x) (Types y) = TellsTypes x y
Tells (Closes x) (Close y) = TellsClose x y
Tells _ _ = ⊥

-- what is told is of the program's first fault
pub record IsTold (p : PureProgram) (told : Told) : Type 0 where
  pub fault : PartFault
  pub is_fault : IsFaultOfProgram p fault
  pub tells : Tells fault told

-- the answer tells something, or is want of memory
abbrev pub TellsOrMemory : {E : Type 0} → Result (Option Told) E → Type 0
TellsOrMemory (Ok (Some told)) = Unit {0}
TellsOrMemory (Ok None) = ⊥
TellsOrMemory (Err e) = Unit {0}
