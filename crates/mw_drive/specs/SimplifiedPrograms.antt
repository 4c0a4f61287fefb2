-- A program that ends with an answer or a trap ends so too, with the same kernels, where their code is simplified
-- before it is run.
use Rattle.std.specs.Prelude.{◌≡◌, ℕ, ◌≤◌, List}
use Rattle.mw_term.specs.Typable.{Typable}
use Rattle.mw_meaning.specs.declared.mode.Mode.TheVariants.{Plain, Simple}
use Rattle.mw_console.specs.Texts.{Ending, answered, trapped, bounded}
use Rattle.mw_reading.specs.NamedPrograms.{NamedProgram, unnamed}
use Rattle.mw_link.specs.Linked.{Kernel}
use Rattle.mw_drive.specs.ProgramMeaning.{ended, program_run}

-- an answer or a trap, and no bound
abbrev pub IsUnbounded : Ending → Type 0
IsUnbounded (answered v) = Unit {0}
IsUnbounded (trapped t name) = Unit {0}
IsUnbounded (bounded l name) = ⊥

-- with at least as much fuel
abbrev pub ProgramsEndAlike : Type 0
ProgramsEndAlike = (p : NamedProgram) (n m : ℕ) (kernels : List Kernel) (e : Ending) → Typable (unnamed p) → n ≤ m
    → program_run Plain n p ≡ ended kernels e → IsUnbounded e
    → program_run Simple m p ≡ ended kernels e
