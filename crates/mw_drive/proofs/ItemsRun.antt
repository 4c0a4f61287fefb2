-- The run of a program's items, from their outcomes.
use Rattle.std.proofs.Common.{◌≡◌, ℕ, List, [], ◌∷◌, ◌++◌, map, refl, sym, ap, subst, arith}
use Rattle.mw_term.specs.Terms.{Expression, KernelType, Value, expression_of}
use Rattle.mw_term.specs.Programs.{Definition, value as defines, kernel, PureProgram, program_of}
use Rattle.mw_term.specs.declared.program.Program.{Program}
use Rattle.mw_meaning.specs.declared.mode.Mode.{Mode}
use Rattle.mw_meaning.specs.Outcomes.{Outcome, names_of_items}
use Rattle.mw_cache.specs.Gots.{CacheState}
use Rattle.mw_tasks.specs.declared.outcome.ItemOutcome.{ItemOutcome}
use Rattle.mw_tasks.specs.declared.outcome.ItemOutcome.TheVariants.{Code, Trap, Bound}
use Rattle.mw_tasks.specs.Phases.{Answers, EachKernel, AreOutcomesOf, AreBuiltAll, codes_in}
use Rattle.mw_drive.specs.Honest.{IsMeant, AreMeant}
use Rattle.mw_console.specs.Texts.{Ending}
use Rattle.mw_reading.specs.NamedPrograms.{NamedItem, unnamed, named_program_of}
use Rattle.mw_link.specs.Linked.{Kernel}
use Rattle.mw_drive.specs.ProgramMeaning.{ItemsRun, all_gave, one_ended, one_stuck, with_kernel, run_item}
use Rattle.mw_drive.specs.ProgramMeaning.{run_items, items_run, codes_of}
use Rattle.mw_drive.specs.ItemOutcomes.{outcome_in, item_run, outcomes_run, HasOneForEach, ArePlaced}
use Rattle.mw_reading.proofs.SourceReadings.{unnamed_program}

abbrev pub definitions : List NamedItem → List Definition
definitions items = map (λ (i : NamedItem). i.is) items

-- kernels before the items that are to come
abbrev pub with_kernels : List Kernel → ItemsRun → ItemsRun
with_kernels [] r = r
with_kernels (k ∷ kernels) r = with_kernel k.name k.kind k.code (with_kernels kernels r)

-- a kernel after the others
pub one_more : (kernels : List Kernel) (k : Kernel) (r : ItemsRun)
    → with_kernels (kernels ++ k ∷ []) r ≡ with_kernels kernels (with_kernel k.name k.kind k.code r)
one_more [] k r = refl
one_more (j ∷ kernels) k r = ap (with_kernel j.name j.kind j.code) (one_more kernels k r)

-- kernels before an ending, and all kernels
pub all_before : (kernels : List Kernel) (e : Ending) → with_kernels kernels (one_ended [] e) ≡ one_ended kernels e
all_before [] e = refl
all_before (k ∷ kernels) e = ap (with_kernel k.name k.kind k.code) (all_before kernels e)

pub all_kernels : (kernels : List Kernel) → with_kernels kernels (all_gave []) ≡ all_gave kernels
all_kernels [] = refl
all_kernels (k ∷ kernels) = ap (with_kernel k.name k.kind k.code) (all_kernels kernels)

-- an outcome that is the meaning's
outcome_is : (o : ItemOutcome) (a : Outcome Expression) → Answers o a → outcome_in o ≡ a
outcome_is o a h = grind arith

module _ (mode : Mode) (names : List Value) (fuel : ℕ) (cache : CacheState) where
  abbrev AreOf : List Definition → List ItemOutcome → Type 0
  AreOf items outcomes = EachKernel (IsMeant mode names fuel cache) items outcomes

  item_is : (x : List ℕ) (d : Definition) (items : List Definition) (others : List ItemOutcome → ItemsRun)
      (rest : ItemsRun)
      → ((outcomes : List ItemOutcome) → AreOf items outcomes → others outcomes ≡ rest)
      → (outcomes : List ItemOutcome) → AreOf (d ∷ items) outcomes
      → item_run x d others outcomes ≡ run_item mode fuel names x d rest
  item_is x (defines e) items others rest same outcomes h = same outcomes h
  item_is x (kernel k e) items others rest same [] h = absurd h
  item_is x (kernel k e) items others rest same (o ∷ outcomes) h =
      rw (outcome_is o _ h.0.means, same outcomes h.1) refl

  -- items go as their outcomes say
  items_are : (items : List NamedItem) (outcomes : List ItemOutcome) → AreOf (definitions items) outcomes
      → outcomes_run items outcomes ≡ run_items mode fuel names items
  items_are [] [] h = refl
  items_are [] (o ∷ outcomes) h = absurd h
  items_are (i ∷ items) outcomes h =
      item_is i.name i.is (definitions items) (outcomes_run items) (run_items mode fuel names items) (items_are items)
      outcomes h

-- what holds for each kernel item
pub each_kernel : {R S : KernelType → Expression → ItemOutcome → Type 0}
    → ((k : KernelType) (e : Expression) (o : ItemOutcome) → R k e o → S k e o)
    → (items : List Definition) (outcomes : List ItemOutcome) → EachKernel R items outcomes
    → EachKernel S items outcomes
each_kernel f [] [] h = tt
each_kernel f [] (o ∷ outcomes) h = absurd h
each_kernel f (defines e ∷ items) outcomes h = each_kernel f items outcomes h
each_kernel f (kernel k e ∷ items) [] h = absurd h
each_kernel f (kernel k e ∷ items) (o ∷ outcomes) h = (f k e o h.0, each_kernel f items outcomes h.1)

-- one kernel and others
with_others : (k : Kernel) (r : ItemsRun) (kernels : List Kernel)
    → with_kernel k.name k.kind k.code r ≡ all_gave kernels
    → (others : List Kernel) × (r ≡ all_gave others) × (kernels ≡ k ∷ others)
with_others k (all_gave others) kernels is = (others, refl, cc)
with_others k (one_ended others e) kernels is = absurd (cc)
with_others k one_stuck kernels is = absurd (cc)

no_kernels : (kernels : List Kernel) → all_gave [] ≡ all_gave kernels → [] ≡ codes_of kernels
no_kernels [] is = refl
no_kernels (k ∷ kernels) is = absurd (cc)

-- where all items gave code, their outcomes are codes, those of the kernels
abbrev IsAll : List ItemOutcome → List Kernel → Type 0
IsAll outcomes kernels = AreBuiltAll outcomes × (codes_in outcomes ≡ codes_of kernels)

item_built : (x : List ℕ) (d : Definition) (items : List Definition) (others : List ItemOutcome → ItemsRun)
    → ((outcomes : List ItemOutcome) (kernels : List Kernel) → HasOneForEach items outcomes
    → others outcomes ≡ all_gave kernels → IsAll outcomes kernels)
    → (outcomes : List ItemOutcome) (kernels : List Kernel) → HasOneForEach (d ∷ items) outcomes
    → item_run x d others outcomes ≡ all_gave kernels → IsAll outcomes kernels
item_built x (defines e) items others rest outcomes kernels h is = rest outcomes kernels h is
item_built x (kernel k e) items others rest [] kernels h is = absurd h
item_built x (kernel k e) items others rest (Code t got ∷ outcomes) kernels h is =
    let more = with_others record { name = x; kind = k; code = expression_of t } (others outcomes) kernels is in
    let all = rest outcomes more.0 h.1 more.1 in
    (all.0, rw more.2 (ap (λ codes. expression_of t ∷ codes) all.1))
item_built x (kernel k e) items others rest (Trap t ∷ outcomes) kernels h is = absurd (cc)
item_built x (kernel k e) items others rest (Bound l ∷ outcomes) kernels h is = absurd (cc)

all_built : (items : List NamedItem) (outcomes : List ItemOutcome) (kernels : List Kernel)
    → HasOneForEach (definitions items) outcomes
    → outcomes_run items outcomes ≡ all_gave kernels → IsAll outcomes kernels
all_built [] [] kernels h is = (tt, no_kernels kernels is)
all_built [] (o ∷ outcomes) kernels h is = absurd h
all_built (i ∷ items) outcomes kernels h is =
    item_built i.name i.is (definitions items) (outcomes_run items) (all_built items) outcomes kernels h is

module _ (mode : Mode) (fuel : ℕ) (cache : CacheState) (program : Program) (outcomes : List ItemOutcome) where
  -- the items' part of the run is what the outcomes say
  pub run_is : AreMeant mode (program_of program) fuel cache outcomes
      → items_run mode fuel (named_program_of program) ≡ outcomes_run (named_program_of program).items outcomes
  run_is are =
      let p = named_program_of program in
      let named : AreMeant mode (unnamed p) fuel cache outcomes =
      subst (λ (q : PureProgram). AreMeant mode q fuel cache outcomes) (sym (unnamed_program program)) are in
      sym (items_are mode (names_of_items (unnamed p).items) fuel cache p.items outcomes named)

  module _ (are : AreOutcomesOf mode (program_of program) fuel cache outcomes) where
    pub one_for_each : HasOneForEach (program_of program).items outcomes
    one_for_each = each_kernel (λ k e o h. tt) (program_of program).items outcomes are

    pub all_placed : ArePlaced mode cache (program_of program).items outcomes
    all_placed = each_kernel (λ k e o h. h.placed) (program_of program).items outcomes are

    -- where all items gave code, these are the kernels' codes
    pub all_codes : (kernels : List Kernel) → outcomes_run (named_program_of program).items outcomes ≡ all_gave kernels
        → IsAll outcomes kernels
    all_codes kernels is =
        let p = named_program_of program in
        let each : HasOneForEach (definitions p.items) outcomes =
        subst (λ (q : PureProgram). HasOneForEach q.items outcomes) (sym (unnamed_program program)) one_for_each in
        all_built p.items outcomes kernels each is
