-- The first fault of a program's types, and where it is.
use Rattle.std.specs.Prelude.{ℕ, ◌≡◌, ◌<◌, List, Option, Some, None, Result, Ok, Err, IsTrue, length, slice_get}
use Rattle.mw_term.specs.Terms.{Expression}
use Rattle.mw_term.specs.Types.{IsAbsentAt}
use Rattle.mw_term.specs.Programs.{PureProgram}
use Rattle.mw_term.specs.Parts.{Place, Part, IsPart}
use Rattle.mw_term.specs.declared.refusal.Refusal.{Refusal}
use Rattle.mw_term.specs.declared.refusal.Refusal.TheVariants.{IllTyped, TypeTooBig, NotClosed}
use Rattle.mw_types.specs.Types.{Substitution, after}
use Rattle.mw_types.specs.Equations.{FirstUnsolvable, FirstTooBig, equations_of}
use Rattle.mw_infer.specs.Schemes.{TopScheme}
use Rattle.mw_infer.specs.ItemEquations.{Slot, Close}
use Rattle.mw_infer.specs.CloseContents.{close_contents, occurs_in}
use Rattle.mw_infer.specs.Inferring.{item_closes, AreFresh, entry_of}
use Rattle.mw_infer.specs.Inferring.{least}
use Rattle.mw_infer.specs.Checking.{ArePrincipal, IsFaultless, IsFirstOpen, IsItemSolution}
use Rattle.mw_infer.specs.Failing.{FailsAt, IsWhole}
use Rattle.mw_infer.specs.declared.faults.OpenClose.{OpenClose}
use Rattle.mw_infer.specs.declared.faults.PartFault.{PartFault}
use Rattle.mw_infer.specs.declared.faults.PartFault.TheVariants.{Equations, Close as Closes}

-- a binder in whose type or level the classifier stands, with the least types for what the substitution leaves open
pub record BindsClassifier (s : Substitution) (classifier : ℕ) (scope : List Slot) (binder : ℕ) : Type 0 where
  pub slot : Slot
  pub bound : slice_get scope binder ≡ Some slot
  pub stands : IsAbsentAt classifier (entry_of (after least s) slot) → ⊥

-- Of the binders that hold the classifier this one is told: it is named in the code if any of them is, and no nearer
-- one is as it is in that.
pub record IsToldBinder (s : Substitution) (classifier : ℕ) (scope : List Slot) (code : Expression) (binder : ℕ)
    : Type 0 where
  pub holds : BindsClassifier s classifier scope binder
  pub occurs : (other : ℕ) → BindsClassifier s classifier scope other → IsTrue (occurs_in other code)
      → IsTrue (occurs_in binder code)
  pub nearer : (other : ℕ) → other < binder → BindsClassifier s classifier scope other
      → occurs_in other code ≡ occurs_in binder code → ⊥

-- the first close that is not fresh on a substitution, by its offset, with the code that it closes, and the binder that
-- is told of it
pub record IsOpenHeld (s : Substitution) (xs : List Close) (codes : List Expression) (at binder : ℕ) : Type 0 where
  pub close : Close
  pub first : IsFirstOpen s xs close
  pub place : at ≡ close.at
  pub code : Expression
  pub closed : slice_get codes (length first.earlier) ≡ Some code
  pub told : IsToldBinder s (s.classifier close.classifier) close.scope code binder

-- with the schemes of its names, a term at its place has its first open close there
pub record OpensAt (schemes : List TopScheme) (place : Place) (e : Expression) (x : OpenClose) : Type 0 where
  pub solution : Substitution
  pub solves : IsItemSolution schemes place e solution
  pub held : IsOpenHeld solution (item_closes schemes e) (close_contents e) x.at x.binder

-- the index of a fault's part
abbrev pub part_at : PartFault → ℕ
part_at (Equations x) = x.part
part_at (Closes x) = x.part

-- with these schemes, a term at its place has the fault
abbrev pub Has : List TopScheme → Place → Expression → PartFault → Type 0
Has schemes place e (Equations x) = FailsAt schemes place e x × IsWhole x
Has schemes place e (Closes x) = OpensAt schemes place e x

-- where there is none, the equations are fine, and all closes are fresh on a most general solution
pub record HasNone (schemes : List TopScheme) (place : Place) (e : Expression) : Type 0 where
  pub solution : Substitution
  pub solves : IsItemSolution schemes place e solution
  pub fresh : AreFresh (after least solution) (item_closes schemes e)

abbrev pub FaultyAt : List TopScheme → Place → Expression → ℕ → Option PartFault → Type 0
FaultyAt schemes place e i None = HasNone schemes place e
FaultyAt schemes place e i (Some x) = Has schemes place e x × (part_at x ≡ i)

-- it is a fault of the first part of the program that has one
pub record IsFaultOfProgram (p : PureProgram) (x : PartFault) : Type 0 where
  pub part : Part
  pub is_part : IsPart p (part_at x) part
  pub schemes : List TopScheme
  pub principal : ArePrincipal part.names schemes
  pub has : Has schemes part.place part.term x
  pub earlier : (j : ℕ) (y : Part) → j < part_at x → IsPart p j y → IsFaultless y

-- the fault is the one of a refusal
abbrev pub IsFor : Refusal → PartFault → Type 0
IsFor (IllTyped i) (Equations x) = (x.part ≡ i)
    × FirstUnsolvable x.equations.unknowns x.equations.classifiers (equations_of x.equations.pairs) x.front
IsFor (TypeTooBig i) (Equations x) = (x.part ≡ i)
    × FirstTooBig x.equations.unknowns x.equations.classifiers (equations_of x.equations.pairs) x.front
IsFor (NotClosed at) (Closes x) = x.at ≡ at
IsFor _ _ = ⊥

-- the answer is a fault for the refusal, or want of memory
abbrev pub IsFaultOrMemory : {E : Type 0} → Refusal → Result (Option PartFault) E → Type 0
IsFaultOrMemory r (Ok (Some x)) = IsFor r x
IsFaultOrMemory r (Ok None) = ⊥
IsFaultOrMemory r (Err e) = Unit {0}
