-- What the outcomes of a program's kernel items say of its run.
use Rattle.std.specs.Prelude.{ℕ, ◌≡◌, List, [], ◌∷◌, Option, Some, None}
use Rattle.mw_term.specs.Terms.{KernelType, kernel_type_of, Expression, expression_of, ground_value_of}
use Rattle.mw_term.specs.Programs.{Definition, value as defines, kernel}
use Rattle.mw_meaning.specs.declared.mode.Mode.{Mode}
use Rattle.mw_meaning.specs.Outcomes.{Outcome, came_to, trapped as traps, bounded as bounds}
use Rattle.mw_term.specs.declared.term.Term.{Term}
use Rattle.mw_term.specs.declared.term.KType.{KType}
use Rattle.mw_link.specs.declared.parts.Linkable.{Linkable}
use Rattle.mw_cache.specs.Gots.{CacheState}
use Rattle.mw_cache.specs.declared.got.Got.{Got}
use Rattle.mw_tasks.specs.declared.outcome.ItemOutcome.{ItemOutcome}
use Rattle.mw_tasks.specs.declared.outcome.ItemOutcome.TheVariants as outcome
use Rattle.mw_tasks.specs.declared.outcome.MainOutcome.{MainOutcome}
use Rattle.mw_tasks.specs.declared.outcome.MainOutcome.TheVariants as main
use Rattle.mw_tasks.specs.Phases.{EachKernel, IfBuilt, IsPlaced}
use Rattle.mw_console.specs.Texts.{Ending, answered, trapped, bounded, main_name}
use Rattle.mw_drive.specs.declared.items.Built.{Built}
use Rattle.mw_drive.specs.declared.items.ItemEnd.{ItemEnd}
use Rattle.mw_drive.specs.declared.items.ItemEnd.TheVariants as item
use Rattle.mw_reading.specs.NamedPrograms.{NamedItem}
use Rattle.mw_link.specs.Linked.{Kernel}
use Rattle.mw_drive.specs.ProgramMeaning.{ItemsRun, all_gave, one_ended, one_stuck, with_kernel, before_others}
use Rattle.mw_drive.specs.ProgramRuns.{ending_of, kernel_of}

abbrev pub outcome_in : ItemOutcome → Outcome Expression
outcome_in (outcome.Code t got) = came_to (expression_of t)
outcome_in (outcome.Trap t) = traps t
outcome_in (outcome.Bound l) = bounds l

-- how main ends that came to this
abbrev pub ending_in : MainOutcome → Ending
ending_in (main.Value v) = answered (ground_value_of v)
ending_in (main.Trap t) = trapped t main_name
ending_in (main.Bound l) = bounded l main_name

-- a kernel item that came to this, before others
abbrev pub came_before : List ℕ → KernelType → ItemOutcome → ItemsRun → ItemsRun
came_before name kind o others = before_others name kind (outcome_in o) others

-- an item with the outcomes of it and of the others
abbrev pub item_run : List ℕ → Definition → (List ItemOutcome → ItemsRun) → List ItemOutcome → ItemsRun
item_run name (defines e) others outcomes = others outcomes
item_run name (kernel k e) others [] = one_stuck
item_run name (kernel k e) others (o ∷ outcomes) = came_before name k o (others outcomes)

-- how items go whose kernel items came to these outcomes, in order
abbrev pub outcomes_run : List NamedItem → List ItemOutcome → ItemsRun
outcomes_run [] outcomes = all_gave []
outcomes_run (i ∷ items) outcomes = item_run i.name i.is (outcomes_run items) outcomes

-- all items gave these kernels, or one after them ended the program
abbrev pub run_with : List Kernel → Option Ending → ItemsRun
run_with kernels None = all_gave kernels
run_with kernels (Some e) = one_ended kernels e

-- what was found of an item, before others
abbrev pub end_before : ItemEnd → ItemsRun → ItemsRun
end_before (item.Code b) others = let k = kernel_of b in with_kernel k.name k.kind k.code others
end_before (item.Ended e) others = one_ended [] (ending_of e)

abbrev pub IfKernel : (Built → Type 0) → ItemEnd → Type 0
IfKernel P (item.Code b) = P b
IfKernel P (item.Ended e) = Unit {0}

-- there is one outcome for each kernel item
abbrev pub HasOneForEach : List Definition → List ItemOutcome → Type 0
HasOneForEach items outcomes = EachKernel (λ k e o. Unit {0}) items outcomes

-- and the module of each code is of this cache
abbrev pub ArePlaced : Mode → CacheState → List Definition → List ItemOutcome → Type 0
ArePlaced mode cache items outcomes = EachKernel (λ k e o. IfBuilt o (IsPlaced mode cache k)) items outcomes

-- the name and the type of an item that is a kernel, and nothing of one that isn't
abbrev pub IsKernelOf : NamedItem → Option (List ℕ × KType) → Type 0
IsKernelOf item (Some (name, k)) =
    (e : Expression) × (item ≡ record { name = name; is = kernel (kernel_type_of k) e })
IsKernelOf item None = (e : Expression) × (item.is ≡ defines e)

-- the first of the outcomes was taken, and this is its code; or none of them is first and code
abbrev pub IsCodeTaken : (before : List ItemOutcome) → Option Term → (after : List ItemOutcome) → Type 0
IsCodeTaken before (Some t) after = (got : Got) × (before ≡ outcome.Code t got ∷ after)
IsCodeTaken before None after =
    (t : Term) (got : Got) (rest : List ItemOutcome) → before ≡ outcome.Code t got ∷ rest → ⊥

-- What is taken of an item and of the outcomes that are left: nothing of an item that is no kernel; a kernel, with the
-- first outcome, which is its code; or no kernel, where the first outcome is no code.
pub data IsNextKernel (item : NamedItem) (before : List ItemOutcome) : Option Linkable → (after : List ItemOutcome)
    → Type 0 where
  not_a_kernel : {e : Expression} → item.is ≡ defines e → IsNextKernel item before None before
  with_code : {l : Linkable} {e : Expression} {got : Got} {after : List ItemOutcome}
      → item ≡ record { name = l.name; is = kernel (kernel_type_of l.kind) e }
      → before ≡ outcome.Code l.code got ∷ after → IsNextKernel item before (Some l) after
  without_code : {k : KernelType} {e : Expression} {after : List ItemOutcome} → item.is ≡ kernel k e
      → IsCodeTaken before None after → IsNextKernel item before None after
