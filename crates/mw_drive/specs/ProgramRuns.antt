-- What the running of a program gives, in the words of its meaning.
use Rattle.std.specs.Prelude.{ℕ, ◌≡◌, ◌≤◌, ◌⊎◌, List, ◌++◌, map, Bool, Option, Some, None, IsSome, IsNone, Result, IfOk}
use Rattle.std.specs.Prelude.{IfErr}
use denote.Ref.{Bor}
use Rattle.mw_term.specs.Terms.{expression_of, kernel_type_of, ground_value_of}
use Rattle.mw_term.specs.Programs.{PureProgram}
use Rattle.mw_meaning.specs.declared.mode.Mode.{Mode}
use Rattle.mw_meaning.specs.declared.mode.Mode.TheVariants.{Plain}
use Rattle.mw_cache.specs.Gots.{CacheState, IsHere}
use Rattle.mw_tasks.specs.Phases.{IsPlaced}
use Rattle.mw_console.specs.Texts.{Ending, answered, trapped, bounded, ending_line, ending_status}
use Rattle.mw_term.specs.declared.refusal.Refusal.{Refusal}
use Rattle.mw_console.specs.declared.status.Status.{Status}
use Rattle.mw_console.specs.declared.status.Status.TheVariants.{Refused, Cache as Unkept}
use Rattle.mw_drive.specs.declared.fault.RunFault.{RunFault}
use Rattle.mw_drive.specs.declared.fault.RunFault.TheVariants.{Unwritten, Bad}
use Rattle.mw_drive.specs.declared.ran.Ran.{Ran}
use Rattle.mw_drive.specs.declared.ending.End.{End}
use Rattle.mw_drive.specs.declared.ending.End.TheVariants as end
use Rattle.mw_drive.specs.declared.items.Built.{Built}
use Rattle.mw_drive.specs.declared.source.Evaluation.{Evaluation}
use Rattle.mw_drive.specs.declared.source.Evaluation.TheVariants.{Run, Erased, Linked}
use Rattle.mw_drive.specs.declared.shown.Shown.{Shown}
use Rattle.mw_drive.specs.declared.shown.Shown.TheVariants.{Totals}
use Rattle.mw_reading.specs.NamedPrograms.{NamedProgram}
use Rattle.mw_link.specs.Linked.{Kernel}
use Rattle.mw_drive.specs.ProgramMeaning.{items_run, ended, program_run, erased_ending}
use Rattle.mw_drive.specs.LinkedPrograms.{LinkRun, in_one, cut_short, unlinkable, link_run}
use Rattle.mw_drive.specs.Works.{Work, Meaning, IsMeaning, running, erasing, linking, ran, joined, unjoined, mode_of}
use Rattle.mw_drive.specs.Works.{shown_text, text_of, status_of}
use Rattle.mw_drive.specs.Written.{Writes}

abbrev pub ending_of : End → Ending
ending_of (end.Answered v) = answered (ground_value_of v)
ending_of (end.Trapped t name) = trapped t name.now
ending_of (end.Bounded l name) = bounded l name.now

-- a kernel that gave code
abbrev pub kernel_of : Built → Kernel
kernel_of b = record { name = b.name.now; kind = kernel_type_of b.kind.now; code = expression_of b.code.now }

abbrev pub kernels_of : List Built → List Kernel
kernels_of built = map kernel_of built

-- its code is closed code of its type, within the limits of kernels, and the module is that of what is run of the code
-- at the type, in this cache
abbrev pub IsBuilt : Mode → CacheState → Built → Type 0
IsBuilt mode cache b = IsPlaced mode cache (kernel_type_of b.kind.now) (expression_of b.code.now) b.got.now

-- it is of this cache
abbrev pub HasModuleHere : CacheState → Built → Type 0
HasModuleHere cache b = IsHere cache b.got.now

-- a run that was written has these kernels, and its status is what its ending says
abbrev pub IsRanTo : List Kernel → Ending → Ran → Type 0
IsRanTo kernels e r = (kernels ≡ kernels_of r.built.items) × (r.status ≡ ending_status e)

-- the status is what the ending says, or, where there is a cache file, that it wasn't kept
abbrev pub IsEndOf : Option (Bor (List ℕ)) → List Kernel → Ending → Status → Type 0
IsEndOf path kernels e s = (s ≡ ending_status e) ⊎ (IsSome path × (s ≡ Unkept))

-- it is that of some ending
abbrev pub HasEnding : Status → Type 0
HasEnding s = (e : Ending) × (s ≡ ending_status e)

-- a fault, but no bad record
abbrev pub IsUsual : RunFault → Type 0
IsUsual (Unwritten fault) = Unit {0}
IsUsual (Bad digest) = ⊥

-- the run of a program was written, and Q holds of its kernels, its ending and the answer; no record was bad
pub record IsWrittenRun {A : Type 0} (Q : List Kernel → Ending → A → Type 0) (shown : Shown) (fuel : ℕ)
    (p : NamedProgram)
    (result : Result A RunFault)
    (tells : Bool)
    (before after : List ℕ) : Type 0 where
  pub kernels : List Kernel
  pub ending : Ending
  pub is_run : program_run (mode_of shown) fuel p ≡ ended kernels ending
  pub answers : IfOk result (Q kernels ending)
  pub usual : IfErr result IsUsual
  pub writes : Writes result tells before after (shown_text shown kernels ++ ending_line ending)

-- how the erased program's main ends was written, and the status says the same
pub record IsWrittenErased (fuel : ℕ) (p : PureProgram) (result : Result Status RunFault) (tells : Bool)
    (before after : List ℕ) : Type 0 where
  pub ending : Ending
  pub is_run : erased_ending fuel p ≡ Some ending
  pub is_status : IfOk result (λ s. s ≡ ending_status ending)
  pub usual : IfErr result IsUsual
  pub writes : Writes result tells before after (ending_line ending)

-- what linking means that goes so; nothing where an item is stuck
abbrev pub link_meaning : LinkRun → Option Meaning
link_meaning (in_one kernels) = Some (joined kernels)
link_meaning (cut_short e) = Some (unjoined e)
link_meaning unlinkable = None

-- what the linking of a program's kernels means was written, and the status says the same
pub record IsWrittenLinked (fuel : ℕ) (p : NamedProgram) (result : Result Status RunFault) (tells : Bool)
    (before after : List ℕ) : Type 0 where
  pub meaning : Meaning
  pub is_meaning : link_meaning (link_run (items_run Plain fuel p)) ≡ Some meaning
  pub is_status : IfOk result (λ s. s ≡ status_of meaning)
  pub usual : IfErr result IsUsual
  pub writes : Writes result tells before after (text_of meaning)

-- the work that an evaluation of a source is; how many workers there are doesn't matter, nor does the cache file
abbrev pub evaluated : Evaluation → List ℕ → ℕ → Work
evaluated (Run options) bytes fuel = running bytes fuel options.shown
evaluated Erased bytes fuel = erasing bytes fuel
evaluated (Linked workers) bytes fuel = linking bytes fuel

-- there are workers where it needs them, and no cache file where totals are shown
abbrev pub IsPossible : Evaluation → Type 0
IsPossible (Run options) = (1 ≤ options.workers) × (options.shown ≡ Totals → IsNone options.cache)
IsPossible Erased = Unit {0}
IsPossible (Linked workers) = 1 ≤ workers

-- the name of its cache file
abbrev pub cache_of : Evaluation → Option (Bor (List ℕ))
cache_of (Run options) = options.cache
cache_of Erased = None
cache_of (Linked workers) = None

-- the status is the meaning's; where there is a cache file, that of a program that ran may be that the file wasn't kept
abbrev pub IsEndMeaning : Option (Bor (List ℕ)) → Meaning → Status → Type 0
IsEndMeaning path (ran shown kernels e) s = IsEndOf path kernels e s
IsEndMeaning path m s = s ≡ status_of m

-- it is a refusal, or as an ending says, or, where there is a cache file, that it wasn't kept
abbrev pub IsEnded : Option (Bor (List ℕ)) → Status → Type 0
IsEnded path s = HasEnding s ⊎ (IsSome path × (s ≡ Unkept))

abbrev pub IsEndedSource : Option (Bor (List ℕ)) → Status → Type 0
IsEndedSource path s = ((r : Refusal) × (s ≡ Refused r)) ⊎ IsEnded path s

-- what a work means was written, and the status is what it says; no record was bad
pub record IsWrittenMeaning (path : Option (Bor (List ℕ))) (work : Work) (result : Result Status RunFault)
    (tells : Bool)
    (before after : List ℕ) : Type 0 where
  pub meaning : Meaning
  pub is_meaning : IsMeaning work meaning
  pub is_status : IfOk result (IsEndMeaning path meaning)
  pub usual : IfErr result IsUsual
  pub writes : Writes result tells before after (text_of meaning)
