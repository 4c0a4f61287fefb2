-- The functions that scripted kernels keep.
use Rattle.std.specs.Prelude.{◌≡◌, map}
use Rattle.mw_term.specs.Terms.{Expression, KernelType, expression_of, kernel_type_of}
use Rattle.mw_meaning.specs.StagedMeaning.{Runs}
use Rattle.mw_script.specs.declared.scripts.Kept.{Kept}
use Rattle.mw_script.specs.declared.scripts.Script.{Script}

abbrev pub function_of : Kept → Expression × KernelType
function_of f = (expression_of f.code, kernel_type_of f.kind)

abbrev pub functions_of : Script → Runs
functions_of script = map function_of script.kept.items

-- nothing but the kept functions changes
pub record IsSameRest (old new : Script) : Type 0 where
  pub stopped : new.stopped ≡ old.stopped
  pub next : new.next ≡ old.next
