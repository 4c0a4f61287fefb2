-- What is asked of a file, and what a verdict says of the module in it.
use Rattle.std.specs.Prelude.{ℕ, List}
use Rattle.mw_wasm.specs.Syntax.{PureModule}
use Rattle.mw_wasm.specs.Validity.{IsValid}
use Rattle.mw_console.specs.declared.status.Status.{Status}
use Rattle.mw_console.specs.declared.status.Status.TheVariants.{Answer, BadModule, Invalid}
use Rattle.mw_judge.specs.ModuleFiles.{IsFileOf}
use Rattle.mw_drive.specs.declared.inquiry.Inquiry.{Inquiry}
use Rattle.mw_drive.specs.declared.inquiry.Inquiry.TheVariants.{Text, Verdict, Certificate, Typing}
use Rattle.mw_drive.specs.Works.{Work, writing, judging, certifying, rechecking}

-- the work that is asked for
abbrev pub inquired : Inquiry → List ℕ → Work
inquired Text bytes = writing bytes
inquired Verdict bytes = judging bytes
inquired Certificate bytes = certifying bytes
inquired (Typing text) bytes = rechecking text.now bytes

-- An answer says that the bytes spell, or are a text of, a valid module within profile and limit; `Invalid` that they
-- are one of a module that isn't valid; and a fault that they are none.
abbrev pub IsVerdictOn : Status → List ℕ → Type 0
IsVerdictOn Answer bytes = (m : PureModule) × IsFileOf bytes m × IsValid m
IsVerdictOn Invalid bytes = (m : PureModule) × IsFileOf bytes m × (IsValid m → ⊥)
IsVerdictOn BadModule bytes = (m : PureModule) → IsFileOf bytes m → ⊥
IsVerdictOn s bytes = Unit {0}
