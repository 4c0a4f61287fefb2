-- Which statuses each command may end with, whatever source, sink and keeper tell.
use Rattle.std.specs.Prelude.{◌≡◌, ◌⊎◌, List, [], ◌∷◌, Option, Some, None, false}
use Rattle.mw_words.specs.Words.{PureCommand, run, erased, link, sample, migrate, wat, check, cert, recheck}
use Rattle.mw_console.specs.declared.status.Status.{Status}
use Rattle.mw_console.specs.declared.status.Status.TheVariants.{Answer, Trap, Usage, Refused, Bound, Read, Write}
use Rattle.mw_console.specs.declared.status.Status.TheVariants.{Cache, Memory, BadCache, BadModule, Invalid, NotTyped}
use Rattle.mw_drive.specs.declared.inquiry.Inquiry.{Inquiry}
use Rattle.mw_drive.specs.declared.inquiry.Inquiry.TheVariants.{Text, Verdict, Certificate, Typing}

-- what a status is, without what it carries
pub data Sort : Type 0 where
  answer trap usage refusal bound read write cache memory bad_cache bad_module invalid not_typed : Sort

abbrev pub sort_of : Status → Sort
sort_of Answer = answer
sort_of (Trap t) = trap
sort_of Usage = usage
sort_of (Refused r) = refusal
sort_of (Bound l) = bound
sort_of Read = read
sort_of Write = write
sort_of Cache = cache
sort_of (Memory e) = memory
sort_of (BadCache d) = bad_cache
sort_of BadModule = bad_module
sort_of Invalid = invalid
sort_of NotTyped = not_typed

-- what each command may end with
abbrev pub sorts_for : PureCommand → List Sort
sorts_for (run w n s None file) = answer ∷ trap ∷ bound ∷ refusal ∷ read ∷ write ∷ memory ∷ []
sorts_for (run w n s (Some path) file) =
    answer ∷ trap ∷ bound ∷ refusal ∷ read ∷ write ∷ memory ∷ cache ∷ bad_cache ∷ []
sorts_for (erased n file) = answer ∷ trap ∷ bound ∷ refusal ∷ read ∷ write ∷ memory ∷ []
sorts_for (link w n file) = answer ∷ trap ∷ bound ∷ refusal ∷ read ∷ write ∷ memory ∷ []
sorts_for (sample number) = answer ∷ trap ∷ bound ∷ refusal ∷ write ∷ memory ∷ []
sorts_for (migrate path) = answer ∷ write ∷ memory ∷ cache ∷ []
sorts_for (wat file) = answer ∷ bad_module ∷ read ∷ write ∷ memory ∷ []
sorts_for (check file) = answer ∷ bad_module ∷ read ∷ write ∷ memory ∷ invalid ∷ []
sorts_for (cert file) = answer ∷ refusal ∷ read ∷ write ∷ memory ∷ []
sorts_for (recheck certificate file) = answer ∷ refusal ∷ read ∷ write ∷ memory ∷ not_typed ∷ []

-- it is one of these
abbrev pub IsOneOf : List Sort → Sort → Type 0
IsOneOf [] x = ⊥
IsOneOf (y ∷ ys) x = (x ≡ y) ⊎ IsOneOf ys x

-- the command may end with this status
abbrev pub IsStatusFor : PureCommand → Status → Type 0
IsStatusFor command s = IsOneOf (sorts_for command) (sort_of s)

-- A command that evaluates a source, with a cache file or without; and one that asks this of a file. The names of its
-- files don't matter here, nor do its numbers.
abbrev pub evaluating : {X : Type 0} → Option X → PureCommand
evaluating None = run 1 1 false None []
evaluating (Some path) = run 1 1 false (Some []) []

abbrev pub asking : Inquiry → PureCommand
asking Text = wat []
asking Verdict = check []
asking Certificate = cert []
asking (Typing text) = recheck [] []
