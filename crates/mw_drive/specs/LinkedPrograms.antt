-- What the linking of a program's kernels comes to, after the items' part of its run.
use Rattle.std.specs.Prelude.{◌≡◌, ℕ, List, [], ◌∷◌, ◌++◌, Option, None, Some, nat_lt, if◌then◌else◌}
use Rattle.std.specs.List.{sum_by}
use Rattle.mw_term.specs.declared.value.Limit.TheVariants.{KernelSize}
use Rattle.mw_conv.specs.Convert.{funs}
use Rattle.mw_link.specs.Linked.{Kernel}
use Rattle.mw_console.specs.Texts.{Ending, bounded}
use Rattle.mw_drive.specs.ProgramMeaning.{ItemsRun, all_gave, one_ended, one_stuck}

-- how many functions these kernels have together
abbrev pub functions_of : List Kernel → ℕ
functions_of kernels = sum_by (λ (k : Kernel). funs k.code) kernels

-- Of the kernels that stand behind a front, the name of the first that with all kernels before it has more than 100,000
-- functions.
abbrev pub first_past : List Kernel → List Kernel → Option (List ℕ)
first_past front [] = None
first_past front (k ∷ kernels) =
    if nat_lt 100_000 (functions_of (front ++ k ∷ [])) then Some k.name else first_past (front ++ k ∷ []) kernels

-- How linking goes: all kernels are put in one module, or the program ends so before that. It doesn't go at all where
-- an item is stuck, as none of a typable program is.
pub data LinkRun : Type 0 where
  in_one : (kernels : List Kernel) → LinkRun
  cut_short : (e : Ending) → LinkRun
  unlinkable : LinkRun

abbrev pub in_one_unless : List Kernel → Option (List ℕ) → LinkRun
in_one_unless kernels None = in_one kernels
in_one_unless kernels (Some name) = cut_short (bounded KernelSize name)

-- where an item gave no code that is the end; where all did, they must not have too many functions
abbrev pub link_run : ItemsRun → LinkRun
link_run (all_gave kernels) = in_one_unless kernels (first_past [] kernels)
link_run (one_ended kernels e) = cut_short e
link_run one_stuck = unlinkable

-- it is cut short so, or not at all, and then all items gave these kernels
abbrev pub IsCutAt : Option Ending → ItemsRun → Type 0
IsCutAt (Some e) run = link_run run ≡ cut_short e
IsCutAt None run = (kernels : List Kernel) × (run ≡ all_gave kernels) × (link_run run ≡ in_one kernels)
