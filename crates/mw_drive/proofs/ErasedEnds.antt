-- The erased program's main of a typable program ends.
use Rattle.std.proofs.Common.{◌≡◌, ℕ, suc, zero, List, [], ◌∷◌, length, Some, refl}
use Rattle.std.specs.Prelude.{slice_get}
use Rattle.mw_term.specs.Terms.{Expression, GroundType, KernelType, PureGroundValue}
use Rattle.mw_term.specs.Sources.{IsSource}
use Rattle.mw_term.specs.Programs.{Definition, value as defines, kernel, PureProgram}
use Rattle.mw_term.specs.Typable.{Typable}
use Rattle.mw_meaning.specs.Outcomes.{Outcome, came_to, trapped, bounded, stuck}
use Rattle.mw_meaning.specs.ErasedPrograms.{AreSourceItems, IsSourceProgram, erased_outcome}
use Rattle.mw_meaning.specs.ErasureLaws.{EndsPlainly}
use Rattle.mw_meaning.proofs.ErasedMain.{erased_main_ends_plainly}
use Rattle.mw_infer.specs.Checking.{IsWritten}
use Rattle.mw_term.specs.Parts.{an_item, main}
use Rattle.mw_infer.proofs.Progressing.{resolved-written}
use Rattle.mw_console.specs.Texts.{Ending}
use Rattle.mw_reading.specs.NamedPrograms.{NamedProgram, unnamed}
use Rattle.mw_reading.specs.SourceReading.{IsRead}
use Rattle.mw_drive.specs.ProgramMeaning.{main_ending, erased_ending}
use Rattle.mw_reading.proofs.ScopedTerms.{is_resolved}

source_items : (items : List Definition)
    → ((i : ℕ) (e : Expression) → slice_get items i ≡ Some (defines e) → IsSource e)
    → ((i : ℕ) (k : KernelType) (e : Expression) → slice_get items i ≡ Some (kernel k e) → IsSource e)
    → AreSourceItems items
source_items [] lets kernels = tt
source_items (defines e ∷ items) lets kernels =
    (lets zero e refl, source_items items (λ i e q. lets (suc i) e q) (λ i k e q. kernels (suc i) k e q))
source_items (kernel k e ∷ items) lets kernels =
    (kernels zero k e refl, source_items items (λ i e q. lets (suc i) e q) (λ i k e q. kernels (suc i) k e q))

-- no value was put for a variable in a program that was read
pub source_program : (bytes : List ℕ) (p : NamedProgram) → IsRead bytes p → IsSourceProgram (unnamed p)
source_program bytes p read = record {
  items =
      source_items (unnamed p).items (λ i e q. written.sources i _ (an_item q))
      (λ i k e q. written.sources i _ (an_item q));
  body = written.sources (length (unnamed p).items) _ (main refl);
}
  where
    written : IsWritten (unnamed p)
    written = resolved-written (unnamed p) (is_resolved bytes p read)

plain_ending : (t : GroundType) (o : Outcome PureGroundValue) → EndsPlainly t o
    → (e : Ending) × (main_ending o ≡ Some e)
plain_ending t (came_to v) h = (_, refl)
plain_ending t (trapped x) h = (_, refl)
plain_ending t (bounded l) h = (_, refl)
plain_ending t stuck h = absurd h

pub erased_ends : (fuel : ℕ) (p : PureProgram) → IsSourceProgram p → Typable p
    → (e : Ending) × (erased_ending fuel p ≡ Some e)
erased_ends fuel p s h = plain_ending p.result (erased_outcome fuel p) (erased_main_ends_plainly p fuel s h)
