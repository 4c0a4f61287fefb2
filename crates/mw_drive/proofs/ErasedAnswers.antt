-- Where a source's program and its erased program both answer, the answers are equal.
use Rattle.std.proofs.Common.{◌≡◌, ℕ, List, [], ◌∷◌, map, Option, None, Some, refl, sym, ap, ◌∙◌, subst, arith}
use Rattle.mw_term.specs.Terms.{Expression, Value, KernelType, PureGroundValue}
use Rattle.mw_term.specs.Programs.{Definition, value as defines, kernel}
use Rattle.mw_meaning.specs.declared.mode.Mode.{Mode}
use Rattle.mw_meaning.specs.Outcomes.{Outcome, came_to, trapped as traps, bounded as bounds, stuck as no_outcome}
use Rattle.mw_meaning.specs.Outcomes.{item_outcome, main_outcome, names_of_items, names_of_main}
use Rattle.mw_meaning.specs.ErasedPrograms.{ItemsCameTo, Answers, erased_outcome}
use Rattle.mw_meaning.proofs.Agreement.{answers_agree}
use Rattle.mw_console.specs.Texts.{Ending, answered}
use Rattle.mw_reading.specs.NamedPrograms.{NamedItem, NamedProgram, unnamed}
use Rattle.mw_reading.specs.SourceReading.{IsRead}
use Rattle.mw_drive.specs.declared.shown.Shown.{Shown}
use Rattle.mw_link.specs.Linked.{Kernel}
use Rattle.mw_drive.specs.ProgramMeaning.{ItemsRun, all_gave, one_ended, one_stuck, with_kernel, before_others}
use Rattle.mw_drive.specs.ProgramMeaning.{run_item, run_items, items_run}
use Rattle.mw_drive.specs.ProgramMeaning.{main_ending, main_after, ended, codes_of, ended_after, with_main, program_run}
use Rattle.mw_drive.specs.ProgramMeaning.{erased_ending}
use Rattle.mw_drive.specs.Works.{running, erasing, mode_of, Meaning, ran, erased, IsAccepted, IsMeaning, of_refusal}
use Rattle.mw_drive.specs.Works.{of_types, of_program, of_erased_refusal, of_erased}
use Rattle.mw_drive.specs.WorkLaws.{AnswersAreErased}
use Rattle.mw_drive.proofs.OneMeaning.{one_program}
use Rattle.mw_drive.proofs.ErasedEnds.{source_program}

-- main that answered came to the value
main_came : (o : Outcome PureGroundValue) (v : PureGroundValue) → main_ending o ≡ Some (answered v) → o ≡ came_to v
main_came o v q = grind arith

-- items that all gave code, and those that one ended with an answer, which never comes
with_kernel_gave : (x : List ℕ) (k : KernelType) (c : Expression) (r : ItemsRun) (ks : List Kernel)
    → with_kernel x k c r ≡ all_gave ks
    → (js : List Kernel) × (r ≡ all_gave js) × (codes_of ks ≡ c ∷ codes_of js)
with_kernel_gave x k c (all_gave js) ks q =
    let kernels : record { name = x; kind = k; code = c } ∷ js ≡ ks = cc in (js, refl, ap codes_of (sym kernels))
with_kernel_gave x k c (one_ended js e) ks q = absurd (cc)
with_kernel_gave x k c one_stuck ks q = absurd (cc)

-- an item, where the items gave these kernels, came to code
item_gave : (x : List ℕ) (k : KernelType) (o : Outcome Expression) (others : ItemsRun) (ks : List Kernel)
    → before_others x k o others ≡ all_gave ks
    → (c : Expression) × (o ≡ came_to c) × (js : List Kernel) × (others ≡ all_gave js)
    × (codes_of ks ≡ c ∷ codes_of js)
item_gave x k (came_to c) others ks q = let w = with_kernel_gave x k c others ks q in (c, refl, w.0, w.1, w.2)
item_gave x k (traps t) others ks q = absurd (cc)
item_gave x k (bounds l) others ks q = absurd (cc)
item_gave x k no_outcome others ks q = absurd (cc)

module _ (mode : Mode) (fuel : ℕ) (names : List Value) where
  abbrev definitions : List NamedItem → List Definition
  definitions items = map (λ (i : NamedItem). i.is) items

  -- an item before others that came to their codes
  item_came : (x : List ℕ) (d : Definition) (items : List NamedItem) (ks : List Kernel)
      → ((js : List Kernel) → run_items mode fuel names items ≡ all_gave js → ItemsCameTo mode fuel names
      (definitions items) (codes_of js))
      → run_item mode fuel names x d (run_items mode fuel names items) ≡ all_gave ks → ItemsCameTo mode fuel names
      (d ∷ definitions items) (codes_of ks)
  item_came x (defines e) items ks rest q = rest ks q
  item_came x (kernel k e) items ks rest q =
      let c = item_gave x k (item_outcome mode names fuel e) (run_items mode fuel names items) ks q in
      subst (ItemsCameTo mode fuel names (kernel k e ∷ definitions items)) (sym c.4) (c.1, rest c.2 c.3)

  items_came : (items : List NamedItem) (ks : List Kernel) → run_items mode fuel names items ≡ all_gave ks
      → ItemsCameTo mode fuel names (definitions items) (codes_of ks)
  items_came [] ks q = let none : ks ≡ [] = cc in rw none tt
  items_came (i ∷ items) ks q = item_came i.name i.is items ks (λ js q. items_came items js q) q

  -- no item ends a program with an answer
  kernel_no_answer : (x : List ℕ) (k : KernelType) (c : Expression) (r : ItemsRun) (ks : List Kernel)
      (v : PureGroundValue)
      → ((js : List Kernel) → r ≡ one_ended js (answered v) → ⊥) → with_kernel x k c r ≡ one_ended ks (answered v) → ⊥
  kernel_no_answer x k c (all_gave js) ks v never q = absurd (cc)
  kernel_no_answer x k c (one_ended js e) ks v never q = let is : e ≡ answered v = cc in never js
      (ap (one_ended js) is)
  kernel_no_answer x k c one_stuck ks v never q = absurd (cc)

  outcome_no_answer : (x : List ℕ) (k : KernelType) (o : Outcome Expression) (r : ItemsRun) (ks : List Kernel)
      (v : PureGroundValue)
      → ((js : List Kernel) → r ≡ one_ended js (answered v) → ⊥) → before_others x k o r ≡ one_ended ks (answered v)
      → ⊥
  outcome_no_answer x k (came_to c) r ks v never q = kernel_no_answer x k c r ks v never q
  outcome_no_answer x k (traps t) r ks v never q = absurd (cc)
  outcome_no_answer x k (bounds l) r ks v never q = absurd (cc)
  outcome_no_answer x k no_outcome r ks v never q = absurd (cc)

  item_no_answer : (x : List ℕ) (d : Definition) (r : ItemsRun) (ks : List Kernel) (v : PureGroundValue)
      → ((js : List Kernel) → r ≡ one_ended js (answered v) → ⊥) → run_item mode fuel names x d r ≡ one_ended ks
      (answered v) → ⊥
  item_no_answer x (defines e) r ks v never q = never ks q
  item_no_answer x (kernel k e) r ks v never q = outcome_no_answer x k (item_outcome mode names fuel e) r ks v never q

  no_answer : (items : List NamedItem) (ks : List Kernel) (v : PureGroundValue)
      → run_items mode fuel names items ≡ one_ended ks (answered v) → ⊥
  no_answer [] ks v q = absurd (cc)
  no_answer (i ∷ items) ks v q =
      item_no_answer i.name i.is (run_items mode fuel names items) ks v (λ js q. no_answer items js v q) q

-- main answered after all items gave code
main_answered : (main : List Expression → Option Ending) (r : ItemsRun) (ks : List Kernel) (v : PureGroundValue)
    → ((js : List Kernel) → r ≡ one_ended js (answered v) → ⊥)
    → with_main main r ≡ ended ks (answered v) → (js : List Kernel) × (r ≡ all_gave js)
    × (main (codes_of js) ≡ Some (answered v))
main_answered main (all_gave js) ks v never q = (js, refl, ending_is (main (codes_of js)) q)
  where
    ending_is : (o : Option Ending) → ended_after js o ≡ ended ks (answered v) → o ≡ Some (answered v)
    ending_is (Some e) q = let is : e ≡ answered v = cc in ap Some is
    ending_is None q = absurd (cc)
main_answered main (one_ended js e) ks v never q = let is : e ≡ answered v = cc in absurd
    (never js (ap (one_ended js) is))
main_answered main one_stuck ks v never q = absurd (cc)

run_answers : (mode : Mode) (fuel : ℕ) (p : NamedProgram) (ks : List Kernel) (v : PureGroundValue)
    → program_run mode fuel p ≡ ended ks (answered v) → Answers mode fuel (unnamed p) v
run_answers mode fuel p ks v q =
    let names = names_of_items (unnamed p).items in
    let h = main_answered (λ codes. main_after mode fuel (unnamed p).items p.body codes) (items_run mode fuel p) ks v
    (λ js q. no_answer mode fuel names p.items js v q) q in
    record {
      codes = codes_of h.0;
      items = items_came mode fuel names p.items h.0 h.1;
      main = main_came (main_outcome mode (names_of_main (unnamed p).items (codes_of h.0)) fuel p.body) v h.2;
    }

-- what a run that answered was of, and an erased program
record OfProgram (bytes : List ℕ) (P : NamedProgram → Type 0) : Type 0 where
  pub program : NamedProgram
  pub read : IsRead bytes program
  pub accepted : IsAccepted (unnamed program)
  pub is : P program

run_of_answer : {bytes : List ℕ} {fuel : ℕ} {shown : Shown} {m : Meaning} (other : Shown) (ks : List Kernel)
    (v : PureGroundValue) → IsMeaning (running bytes fuel shown) m
    → m ≡ ran other ks (answered v) → OfProgram bytes
    (λ p. program_run (mode_of shown) fuel p ≡ ended ks (answered v))
run_of_answer other ks v (of_refusal r) q = absurd (cc)
run_of_answer other ks v (of_types p read f) q = absurd (cc)
run_of_answer other ks v (of_program {kernels = js} {e = e} p read accepted is) q =
    let a : js ≡ ks = cc in let b : e ≡ answered v = cc in
    record { program = p; read = read; accepted = accepted; is = is ∙ (ap (λ js. ended js e) a ∙ ap (ended ks) b) }

erased_of_answer : {bytes : List ℕ} {fuel : ℕ} {m : Meaning} (w : PureGroundValue) → IsMeaning (erasing bytes fuel) m
    → m ≡ erased (answered w)
    → OfProgram bytes (λ p. erased_ending fuel (unnamed p) ≡ Some (answered w))
erased_of_answer w (of_erased_refusal h) q = absurd (cc)
erased_of_answer w (of_erased {e = e} p read accepted is) q =
    let b : e ≡ answered w = cc in record { program = p; read = read; accepted = accepted; is = is ∙ ap Some b }

pub answers_are_erased : AnswersAreErased
answers_are_erased bytes fuel m shown ks v w h k =
    let a = run_of_answer shown ks v h refl in
    let b = erased_of_answer w k refl in
    let p = a.program in
    let same : erased_ending m (unnamed p) ≡ Some (answered w) =
    ap (λ (p : NamedProgram). erased_ending m (unnamed p)) (one_program bytes p b.program a.read b.read) ∙ b.is in
    answers_agree (mode_of shown) (unnamed p) fuel m v w (source_program bytes p a.read) a.accepted.typable
    (run_answers (mode_of shown) fuel p ks v a.is)
    (main_came (erased_outcome m (unnamed p)) w same)
