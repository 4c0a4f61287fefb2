-- The loop over the items of a program.
use Rattle.std.proofs.Common.{◌≡◌, ◌≤◌, ◌<◌, ◌+◌, ℕ, zero, suc, List, [], ◌∷◌, ◌++◌, drop, length, Some, refl, sym, ap}
use Rattle.std.proofs.Common.{◌∙◌, subst, arith}
use Rattle.std.specs.Prelude.{slice_get}
use Rattle.std.specs.List.{AllByRecursion}
use Rattle.std.proofs.lemmas.List.{map-append, length-append}
use Rattle.std.proofs.lemmas.Option.{slice_get-map}
use Rattle.mw_meaning.specs.declared.mode.Mode.{Mode}
use Rattle.mw_term.specs.Terms.{Expression, KernelType, expression_of, kernel_type_of}
use Rattle.mw_term.specs.Programs.{Definition, value as defines, kernel, definition_of, PureProgram, program_of}
use Rattle.mw_term.specs.declared.term.Term.{Term}
use Rattle.mw_term.specs.declared.term.KType.{KType}
use Rattle.mw_term.specs.declared.program.ItemKind.TheVariants.{Value, Kernel as KernelItem}
use Rattle.mw_term.specs.declared.program.Program.{Program}
use Rattle.mw_term.specs.declared.program.Item.{Item}
use Rattle.mw_cache.specs.Gots.{CacheState}
use Rattle.mw_tasks.specs.declared.outcome.ItemOutcome.{ItemOutcome}
use Rattle.mw_tasks.specs.Phases.{IfBuilt, IsPlaced}
use Rattle.mw_drive.specs.declared.ending.End.{End}
use Rattle.mw_drive.specs.declared.items.Built.{Built}
use Rattle.mw_drive.specs.declared.items.ItemEnd.{ItemEnd}
use Rattle.mw_drive.specs.declared.items.ItemEnd.TheVariants as item
use Rattle.mw_reading.specs.NamedPrograms.{NamedItem, NamedProgram, item_of, named_program_of}
use Rattle.mw_drive.specs.ProgramMeaning.{ItemsRun, all_gave, one_ended}
use Rattle.mw_drive.specs.ProgramRuns.{ending_of, kernel_of, kernels_of, IsBuilt}
use Rattle.mw_drive.specs.ItemOutcomes.{item_run, outcomes_run, came_before, end_before, HasOneForEach, ArePlaced}
use Rattle.mw_drive.specs.ItemOutcomes.{IfKernel}
use Rattle.mw_drive.proofs.ItemsRun.{definitions, with_kernels, one_more, all_before, all_kernels}
use Rattle.mw_reading.proofs.SourceReadings.{unnamed_program}
use Rattle.mw_drive.proofs.ListFronts.{drop_next, all_with}

-- After so many items and so many outcomes, these kernels.
pub record Reaches (p : NamedProgram) (outcomes : List ItemOutcome) (at next : ℕ) (built : List Built) : Type 0 where
  pub run : outcomes_run p.items outcomes ≡ with_kernels (kernels_of built)
      (outcomes_run (drop at p.items) (drop next outcomes))
  pub each : HasOneForEach (definitions (drop at p.items)) (drop next outcomes)
  pub placed : (mode : Mode) (cache : CacheState) → ArePlaced mode cache (definitions p.items) outcomes
      → AllByRecursion (IsBuilt mode cache) built × ArePlaced mode cache (definitions (drop at p.items))
      (drop next outcomes)
  pub count : length built ≤ at
  pub behind : next ≤ at

pub reaches_first : (p : NamedProgram) (outcomes : List ItemOutcome) (built : List Built) → built ≡ []
    → HasOneForEach (definitions p.items) outcomes
    → Reaches p outcomes 0 0 built
reaches_first p outcomes built none each =
    rw none record {
      run = refl;
      each = each;
      placed = λ mode cache h. (tt, h);
      count = omega arith;
      behind = omega
          arith;
    }

drop_none : {A : Type 0} (xs : List A) (n : ℕ) → length xs ≤ n → drop n xs ≡ []
drop_none [] zero le = refl
drop_none [] (suc n) le = refl
drop_none (x ∷ xs) zero le = absurd (omega arith)
drop_none (x ∷ xs) (suc n) le = drop_none xs n (omega arith)

-- after all items
pub reaches_all : {p : NamedProgram} {outcomes : List ItemOutcome} {at next : ℕ} {built : List Built}
    → length p.items ≤ at → Reaches p outcomes at next built
    → outcomes_run p.items outcomes ≡ all_gave (kernels_of built)
reaches_all {p} {outcomes} {at} {next} {built} all h =
    h.run ∙ (ap (λ rest. with_kernels (kernels_of built) (outcomes_run rest (drop next outcomes)))
    (drop_none p.items at all) ∙ all_kernels (kernels_of built))

module _ {p : NamedProgram} {outcomes : List ItemOutcome} {at next : ℕ} {built : List Built} {i : NamedItem}
    (here : slice_get p.items at ≡ Some i)
    (h : Reaches p outcomes at next built) where
  -- what is left of a program with this item in its place
  rest_at : (P : List Definition → List ItemOutcome → Type 0) (d : Definition) (rest : List ItemOutcome) → i.is ≡ d
      → drop next outcomes ≡ rest → P (definitions (drop at p.items)) (drop next outcomes)
      → P (d ∷ definitions (drop (at + 1) p.items)) rest
  rest_at P d rest is rest_is h = rw (drop_next p.items at i here, is, rest_is) at h

  run_at : (d : Definition) (rest : List ItemOutcome) → i.is ≡ d → drop next outcomes ≡ rest
      → outcomes_run p.items outcomes ≡ with_kernels (kernels_of built)
      (item_run i.name d (outcomes_run (drop (at + 1) p.items)) rest)
  run_at d rest is rest_is = rw (drop_next p.items at i here, is, rest_is) at h.run

  pub reaches_let : {e : Expression} → i.is ≡ defines e → Reaches p outcomes (at + 1) next built
  reaches_let {e} is = record {
    run = run_at (defines e) (drop next outcomes) is refl;
    each = rest_at HasOneForEach (defines e) (drop next outcomes) is refl h.each;
    placed =
        λ mode cache all. let x = h.placed mode cache all in
        (x.0, rest_at (ArePlaced mode cache) (defines e) (drop next outcomes) is refl x.1);
    count = (let n = h.count in omega arith);
    behind = (let n = h.behind in omega arith);
  }

  module _ {k : KernelType} {e : Expression} (is : i.is ≡ kernel k e) where
    -- an outcome is there
    pub has_outcome : next < length outcomes
    has_outcome = some_left outcomes next (rest_at HasOneForEach (kernel k e) (drop next outcomes) is refl h.each)
      where
        some_left : (xs : List ItemOutcome) (n : ℕ)
            → HasOneForEach (kernel k e ∷ definitions (drop (at + 1) p.items)) (drop n xs) → n < length xs
        some_left [] zero x = absurd x
        some_left [] (suc n) x = absurd x
        some_left (o ∷ xs) zero x = omega arith
        some_left (o ∷ xs) (suc n) x = let lt = some_left xs n x in omega (arith, lt)

    module _ {o : ItemOutcome} (there : slice_get outcomes next ≡ Some o) (end : ItemEnd)
        (run : (others : ItemsRun) → came_before i.name k o others ≡ end_before end others) where
      run_here : outcomes_run p.items outcomes ≡ with_kernels (kernels_of built)
          (end_before end (outcomes_run (drop (at + 1) p.items) (drop (next + 1) outcomes)))
      run_here =
          run_at (kernel k e) (o ∷ drop (next + 1) outcomes) is (drop_next outcomes next o there)
          ∙ ap (with_kernels (kernels_of built))
          (run (outcomes_run (drop (at + 1) p.items) (drop (next + 1) outcomes)))

      pub reaches_end : (n : End) → end ≡ item.Ended n
          → outcomes_run p.items outcomes ≡ one_ended (kernels_of built) (ending_of n)
      reaches_end n ended =
          run_here
          ∙ (ap (λ end. with_kernels (kernels_of built)
          (end_before end (outcomes_run (drop (at + 1) p.items) (drop (next + 1) outcomes)))) ended
          ∙ all_before (kernels_of built) (ending_of n))

      pub reaches_code : (b : Built) (more : List Built) → end ≡ item.Code b → more ≡ built ++ b ∷ []
          → ((mode : Mode) (cache : CacheState) → IfBuilt o (IsPlaced mode cache k) → IfKernel
          (IsBuilt mode cache) end)
          → Reaches p outcomes (at + 1) (next + 1) more
      reaches_code b more code push placed =
          let rest = drop_next outcomes next o there in
          let others = outcomes_run (drop (at + 1) p.items) (drop (next + 1) outcomes) in
          rw push record {
            run =
                run_here
                ∙ (ap (λ end. with_kernels (kernels_of built) (end_before end others)) code
                ∙ (sym (one_more (kernels_of built) (kernel_of b) others)
                ∙ ap (λ ks. with_kernels ks others) (sym (map-append kernel_of built (b ∷ [])))));
            each = (rest_at HasOneForEach (kernel k e) (o ∷ drop (next + 1) outcomes) is rest h.each).1;
            placed = λ mode cache all.
                let x = h.placed mode cache all in
                let y = rest_at (ArePlaced mode cache) (kernel k e) (o ∷ drop (next + 1) outcomes) is rest x.1 in
                let z : IfKernel (IsBuilt mode cache) (item.Code b) =
                subst (IfKernel (IsBuilt mode cache)) code (placed mode cache y.0) in
                (all_with (IsBuilt mode cache) built b x.0 z, y.1);
            count = (let n = h.count in let l = length-append built (b ∷ []) in omega (arith, n, l));
            behind = (let n = h.behind in omega arith);
          }

-- an item of the program with its name
pub named_there : (p : Program) (i : Item) (at : ℕ) → slice_get p.items at ≡ Some i
    → slice_get (named_program_of p).items at ≡ Some (item_of i)
named_there p i at there = slice_get-map item_of p.items at ∙ rw there refl

-- with what it defines
pub let_at : (i : Item) (t : Term) → i.kind ≡ Value t → (item_of i).is ≡ defines (expression_of t)
let_at i t is = ap definition_of is

pub kernel_at : (i : Item) (k : KType) (t : Term) → i.kind ≡ KernelItem k t
    → (item_of i).is ≡ kernel (kernel_type_of k) (expression_of t)
kernel_at i k t is = ap definition_of is

-- what holds of the items of a program holds of them with their names
pub named : (P : List Definition → Type 0) (p : Program) → P (program_of p).items
    → P (definitions (named_program_of p).items)
named P p h = subst (λ (q : PureProgram). P q.items) (sym (unnamed_program p)) h
