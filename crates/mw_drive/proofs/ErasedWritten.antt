-- The erased program of an accepted one, as main's evaluation takes it, and how its main ends.
use Rattle.std.proofs.Common.{Bool, Result, ◌≡◌, ℕ, zero, suc, List, [], ◌∷◌, map, Some, refl, sym, ap, ◌∙◌, subst}
use Rattle.std.specs.Prelude.{slice_get}
use Rattle.mw_term.specs.Terms.{Expression, num, truth, var, glob, fun, fix, app, bind, cond, pair, fst, snd, prim}
use Rattle.mw_term.specs.SmallTypes.{HasSmallRuns, HasSmallDefinition, HasSmallTypes}
use Rattle.mw_term.specs.Programs.{Definition, value as defines, kernel, definition_of, PureProgram, program_of}
use Rattle.mw_term.specs.declared.program.Program.{Program}
use Rattle.mw_term.specs.declared.program.Item.{Item}
use Rattle.mw_term.specs.declared.program.ItemKind.{ItemKind}
use Rattle.mw_term.specs.declared.program.ItemKind.TheVariants.{Value as ValueItem, Kernel as KernelItem}
use Rattle.mw_term.proofs.Sources.{sources}
use Rattle.mw_meaning.specs.declared.mode.Mode.TheVariants.{Plain}
use Rattle.mw_meaning.specs.Outcomes.{main_outcome, names_of_items, names_of_main}
use Rattle.mw_meaning.specs.ErasedPrograms.{erased_program, AreSourceItems, IsSourceProgram, HasNoStaging}
use Rattle.mw_meaning.specs.ErasureLaws.{AreWithoutStaging, IsWithoutStaging}
use Rattle.mw_cache.specs.Gots.{CacheState}
use Rattle.mw_tasks.specs.Phases.{EachKernel}
use Rattle.mw_drive.specs.Honest.{IsMeant, AreMeant}
use Rattle.std.specs.Result.{IsErrAnd}
use Rattle.mw_console.specs.Texts.{Ending, ending_line, ending_status}
use Rattle.mw_console.specs.declared.status.Status.{Status}
use Rattle.mw_term.specs.Typable.{Typable}
use Rattle.mw_drive.specs.declared.fault.RunFault.{RunFault}
use Rattle.mw_drive.specs.ProgramMeaning.{main_ending, main_after, erased_ending}
use Rattle.mw_drive.specs.ProgramRuns.{IsUsual, IsWrittenErased}
use Rattle.mw_drive.proofs.ErasedEnds.{erased_ends}
use Rattle.mw_drive.proofs.Faults.{front_written, no_answer, fault_is}
use Rattle.mw_drive.proofs.Fronts.{grows_nothing}

source_definition : (k : ItemKind) (items : List Definition) → AreSourceItems items
    → AreSourceItems (definition_of k ∷ items)
source_definition (ValueItem t) items h = (sources t, h)
source_definition (KernelItem k t) items h = (sources t, h)

source_definitions : (items : List Item) → AreSourceItems (map (λ (i : Item). definition_of i.kind) items)
source_definitions [] = tt
source_definitions (i ∷ items) =
    source_definition i.kind (map (λ (i : Item). definition_of i.kind) items) (source_definitions items)

-- no term of a program has a value that was put for a variable
pub program_source : (p : Program) → IsSourceProgram (program_of p)
program_source p = record { items = source_definitions p.items; body = sources p.body }

-- a term without staging runs nothing
small_term : (e : Expression) → HasNoStaging e → HasSmallRuns e
small_term (num n) h = tt
small_term (truth b) h = tt
small_term (var i) h = tt
small_term (glob i) h = tt
small_term (fun e) h = small_term e h
small_term (fix e) h = small_term e h
small_term (app f a) h = (small_term f h.0, small_term a h.1)
small_term (bind d e) h = (small_term d h.0, small_term e h.1)
small_term (cond c a b) h = (small_term c h.0, small_term a h.1, small_term b h.2)
small_term (pair a b) h = (small_term a h.0, small_term b h.1)
small_term (fst e) h = small_term e h
small_term (snd e) h = small_term e h
small_term (prim p a b) h = (small_term a h.0, small_term b h.1)
small_term _ h = absurd h

small_items : (items : List Definition) → AreWithoutStaging items → (i : ℕ) (d : Definition)
    → slice_get items i ≡ Some d → HasSmallDefinition d
small_items [] h i d q = absurd (cc)
small_items (defines e ∷ items) h zero d q = let p : defines e ≡ d = cc in subst HasSmallDefinition p
    (small_term e h.0)
small_items (defines e ∷ items) h (suc i) d q = small_items items h.1 i d q
small_items (kernel k e ∷ items) h i d q = absurd h

pub small_types : (p : PureProgram) → IsWithoutStaging p → HasSmallTypes p
small_types p h = record { items = small_items p.items h.0; body = small_term p.body h.1 }

-- lets alone have no outcomes
pub no_outcomes : (fuel : ℕ) (cache : CacheState) (p : PureProgram) → IsWithoutStaging p
    → AreMeant Plain p fuel cache []
no_outcomes fuel cache p h = none p.items h.0
  where
    none : (items : List Definition) → AreWithoutStaging items
        → EachKernel (IsMeant Plain (names_of_items p.items) fuel cache) items []
    none [] h = tt
    none (defines e ∷ items) h = none items h.1
    none (kernel k e ∷ items) h = absurd h

names_without_codes : (items : List Definition) → AreWithoutStaging items
    → names_of_main items [] ≡ names_of_items items
names_without_codes [] h = refl
names_without_codes (defines e ∷ items) h = rw (names_without_codes items h.1) refl
names_without_codes (kernel k e ∷ items) h = absurd h

-- how main of the erased program ends after no codes is how it ends
pub erased_is : (p q : PureProgram) (fuel : ℕ) (e : Ending) → q ≡ erased_program p → IsWithoutStaging q
    → main_after Plain fuel q.items q.body [] ≡ Some e
    → erased_ending fuel p ≡ Some e
erased_is p q fuel e same h is =
    ap (λ (q : PureProgram). main_ending (main_outcome Plain (names_of_items q.items) fuel q.body)) (sym same)
    ∙ (ap (λ names. main_ending (main_outcome Plain names fuel q.body)) (sym (names_without_codes q.items h.0)) ∙ is)

-- a fault, before anything was written
pub erased_failed : {fuel : ℕ} (program : Program) (P : RunFault → Type 0) (r : Result Status RunFault) {tells : Bool}
    {before : List ℕ} → Typable (program_of program) → IsErrAnd r P → ((f : RunFault) → P f → IsUsual f)
    → IsWrittenErased fuel (program_of program) r tells before before
erased_failed {fuel} program P r {tells} {before} typable err usual =
    let e = erased_ends fuel (program_of program) (program_source program) typable in
    record {
      ending = e.0;
      is_run = e.1;
      is_status = no_answer P r (λ s. s ≡ ending_status e.0) err;
      usual = fault_is P IsUsual r err usual;
      writes =
          front_written P r tells before before (ending_line e.0) err (λ t. grows_nothing before (ending_line e.0));
    }
