-- The kernels of a program that is read and accepted: closed code of their types, within the limits, with literals of
-- 64 bits.
use Rattle.std.proofs.Common.{◌≡◌, ◌≤◌, ℕ, List, true, Some, subst}
use Rattle.std.specs.Prelude.{slice_get}
use Rattle.mw_term.specs.Terms.{Expression, KernelType}
use Rattle.mw_term.specs.Programs.{kernel, PureProgram}
use Rattle.mw_term.specs.Typable.{Typable, HasKernelType}
use Rattle.mw_term.specs.Limits.{within_limits, kernel_nodes, LiteralsFit}
use Rattle.mw_meaning.specs.declared.mode.Mode.{Mode}
use Rattle.mw_meaning.specs.Outcomes.{Outcome, came_to, item_outcome, names_of_items}
use Rattle.mw_meaning.specs.OutcomeLaws.{ComesTo}
use Rattle.mw_meaning.proofs.Outcomes.{items_come_to_their_code}
use Rattle.mw_infer.proofs.Deciding.{typable_faultless}
use Rattle.mw_infer.proofs.SmallRuns.{faultless-small_kernels}
use Rattle.mw_infer.proofs.Progressing.{resolved-written}
use Rattle.mw_infer.specs.Checking.{HasSmallKernels}
use Rattle.mw_literals.specs.Literals.{HasShortProgram}
use Rattle.mw_literals.proofs.SourceLiterals.{source_literals}
use Rattle.mw_literals.proofs.BuiltLiterals.{built_literals}
use Rattle.mw_link.specs.Linked.{Kernel}
use Rattle.mw_reading.specs.NamedPrograms.{NamedProgram, unnamed}
use Rattle.mw_reading.specs.SourceReading.{IsRead}
use Rattle.mw_drive.specs.ProgramMeaning.{items_run, program_run}
use Rattle.mw_drive.specs.Works.{IsAccepted}
use Rattle.mw_drive.proofs.ProgramEnds.{Ends, ItemsEnd, items_end_so, all_end}
use Rattle.mw_reading.proofs.ScopedTerms.{is_resolved}

pub record IsSound (k : Kernel) : Type 0 where
  pub typed : HasKernelType k.code k.kind
  pub limits : within_limits k.code ≡ true
  pub literals : LiteralsFit k.code
  pub nodes : kernel_nodes k.kind ≤ 10000

-- what holds of what a term came to
what_came : {A : Type 0} (P : A → Type 0) (o : Outcome A) (x : A) → o ≡ came_to x → ComesTo P o → P x
what_came P o x e h = subst (ComesTo P) e h

module _ (mode : Mode) (fuel : ℕ) (p : PureProgram) (typable : Typable p) (short : HasShortProgram p)
    (small : HasSmallKernels p) where
  item_sound : (i : ℕ) (x : List ℕ) (k : KernelType) (e c : Expression) → slice_get p.items i ≡ Some (kernel k e)
      → item_outcome mode (names_of_items p.items) fuel e ≡ came_to c
      → IsSound record { name = x; code = c; kind = k }
  item_sound i x k e c there came =
      let h =
      what_came (λ c. HasKernelType c k × (within_limits c ≡ true))
      (item_outcome mode (names_of_items p.items) fuel e) c came
      (items_come_to_their_code mode p i k e fuel typable there) in
      record {
        typed = h.0;
        limits = h.1;
        literals = built_literals mode p short i k e c fuel there came;
        nodes = small i k e there;
      }

module _ (mode : Mode) (fuel : ℕ) (bytes : List ℕ) (p : NamedProgram) (read : IsRead bytes p)
    (accepted : IsAccepted (unnamed p)) where
  short_program : HasShortProgram (unnamed p)
  short_program = source_literals read.tokens read.surface (unnamed p) read.is_surface read.is_nameless

  small_kernels : HasSmallKernels (unnamed p)
  small_kernels =
      faultless-small_kernels (unnamed p)
      (typable_faultless (unnamed p) (resolved-written (unnamed p) (is_resolved bytes p read)) accepted.typable
      accepted.small)

  pub items_sound : ItemsEnd IsSound (unnamed p).items (items_run mode fuel p)
  items_sound =
      items_end_so IsSound mode fuel p accepted.typable
      (item_sound mode fuel (unnamed p) accepted.typable short_program small_kernels)

  pub run_sound : Ends IsSound (program_run mode fuel p)
  run_sound =
      all_end IsSound mode fuel p accepted.typable
      (item_sound mode fuel (unnamed p) accepted.typable short_program small_kernels)
