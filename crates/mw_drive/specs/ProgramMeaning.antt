-- What a program means with a fuel, under a mode: its kernel items are evaluated in order, up to the first that gives
-- no code, and then, where all give code, main.
use Rattle.std.specs.Prelude.{ℕ, List, [], ◌∷◌, map, Option, None, Some}
use Rattle.mw_term.specs.Terms.{Expression, Value, KernelType, PureGroundValue}
use Rattle.mw_term.specs.Programs.{Definition, value as defines, kernel, PureProgram}
use Rattle.mw_meaning.specs.declared.mode.Mode.{Mode}
use Rattle.mw_meaning.specs.ErasedPrograms.{erased_outcome}
use Rattle.mw_meaning.specs.Outcomes.{Outcome, came_to, trapped as traps, bounded as bounds, stuck as no_outcome}
use Rattle.mw_meaning.specs.Outcomes.{item_outcome, main_outcome, names_of_items, names_of_main}
use Rattle.mw_link.specs.Linked.{Kernel}
use Rattle.mw_console.specs.Texts.{Ending, answered, trapped, bounded, main_name}
use Rattle.mw_reading.specs.NamedPrograms.{NamedItem, NamedProgram, unnamed}

-- How kernel items go: all gave code; or these did, and the next one ended the program; or one is stuck, as none of a
-- typable program is.
pub data ItemsRun : Type 0 where
  all_gave : (kernels : List Kernel) → ItemsRun
  one_ended : (kernels : List Kernel) (e : Ending) → ItemsRun
  one_stuck : ItemsRun

-- one more kernel before the others
abbrev pub with_kernel : List ℕ → KernelType → Expression → ItemsRun → ItemsRun
with_kernel name kind c (all_gave kernels) = all_gave (record { name = name; kind = kind; code = c } ∷ kernels)
with_kernel name kind c (one_ended kernels e) = one_ended (record { name = name; kind = kind; code = c } ∷ kernels) e
with_kernel name kind c one_stuck = one_stuck

-- a kernel item with its outcome, before others
abbrev pub before_others : List ℕ → KernelType → Outcome Expression → ItemsRun → ItemsRun
before_others name kind (came_to c) others = with_kernel name kind c others
before_others name kind (traps t) others = one_ended [] (trapped t name)
before_others name kind (bounds l) others = one_ended [] (bounded l name)
before_others name kind no_outcome others = one_stuck

-- an item before others, with these values of the names for items
abbrev pub run_item : Mode → ℕ → List Value → List ℕ → Definition → ItemsRun → ItemsRun
run_item mode fuel names name (defines e) others = others
run_item mode fuel names name (kernel k e) others = before_others name k (item_outcome mode names fuel e) others

-- items in order, each with the same fuel
abbrev pub run_items : Mode → ℕ → List Value → List NamedItem → ItemsRun
run_items mode fuel names [] = all_gave []
run_items mode fuel names (item ∷ items) = run_item mode fuel names item.name item.is
    (run_items mode fuel names items)

-- the items' part of a program's run
abbrev pub items_run : Mode → ℕ → NamedProgram → ItemsRun
items_run mode fuel p = run_items mode fuel (names_of_items (unnamed p).items) p.items

-- how main ends; not at all where it is stuck, as no typable program's is
abbrev pub main_ending : Outcome PureGroundValue → Option Ending
main_ending (came_to v) = Some (answered v)
main_ending (traps t) = Some (trapped t main_name)
main_ending (bounds l) = Some (bounded l main_name)
main_ending no_outcome = None

-- main, where the kernel items gave these codes
abbrev pub main_after : Mode → ℕ → List Definition → Expression → List Expression → Option Ending
main_after mode fuel items body codes = main_ending (main_outcome mode (names_of_main items codes) fuel body)

-- The kernels that gave code before the program ended, and how it ended. A program with an item or a main that is stuck
-- has no end; no typable one does.
pub data ProgramRun : Type 0 where
  ended : (kernels : List Kernel) (e : Ending) → ProgramRun
  stuck : ProgramRun

abbrev pub codes_of : List Kernel → List Expression
codes_of kernels = map (λ (k : Kernel). k.code) kernels

abbrev pub ended_after : List Kernel → Option Ending → ProgramRun
ended_after kernels (Some e) = ended kernels e
ended_after kernels None = stuck

-- the items' part, and main after it
abbrev pub with_main : (List Expression → Option Ending) → ItemsRun → ProgramRun
with_main main (all_gave kernels) = ended_after kernels (main (codes_of kernels))
with_main main (one_ended kernels e) = ended kernels e
with_main main one_stuck = stuck

abbrev pub program_run : Mode → ℕ → NamedProgram → ProgramRun
program_run mode fuel p = with_main (λ codes. main_after mode fuel (unnamed p).items p.body codes)
    (items_run mode fuel p)

-- how the erased program's main ends, with a fuel; its name is main's, whatever traps or meets a bound
abbrev pub erased_ending : ℕ → PureProgram → Option Ending
erased_ending fuel p = main_ending (erased_outcome fuel p)
