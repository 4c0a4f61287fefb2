-- The run of a typable program ends, and what holds of its kernels.
use Rattle.std.proofs.Common.{◌≡◌, ℕ, List, [], ◌∷◌, ◌++◌, map, length, true, Some, refl, sym, ap, ◌∙◌, subst}
use Rattle.std.specs.Prelude.{slice_get}
use Rattle.std.specs.List.{AllByRecursion}
use Rattle.std.proofs.lemmas.List.{append_assoc}
use Rattle.mw_term.specs.Terms.{Expression, KernelType, PureGroundValue}
use Rattle.mw_term.specs.Programs.{Definition, value as defines, kernel}
use Rattle.mw_term.specs.Typable.{Typable, HasKernelType}
use Rattle.mw_term.specs.Limits.{within_limits}
use Rattle.mw_meaning.specs.declared.mode.Mode.{Mode}
use Rattle.mw_meaning.specs.Outcomes.{Outcome, came_to, trapped, bounded, stuck as no_outcome, item_outcome}
use Rattle.mw_meaning.specs.Outcomes.{main_outcome, names_of_items, names_of_main}
use Rattle.mw_meaning.specs.OutcomeLaws.{ComesTo, AreCodesOf}
use Rattle.mw_meaning.specs.GroundValues.{HasGroundType}
use Rattle.mw_meaning.proofs.Outcomes.{items_come_to_their_code, main_comes_to_its_value_after_items}
use Rattle.mw_console.specs.Texts.{Ending}
use Rattle.mw_reading.specs.NamedPrograms.{NamedItem, NamedProgram, unnamed}
use Rattle.mw_link.specs.Linked.{Kernel}
use Rattle.mw_drive.specs.ProgramMeaning.{ItemsRun, all_gave, one_ended, with_kernel, before_others, run_item}
use Rattle.mw_drive.specs.ProgramMeaning.{run_items, items_run, main_ending, main_after, ProgramRun, ended, codes_of}
use Rattle.mw_drive.specs.ProgramMeaning.{ended_after, with_main, program_run}

-- the run ends, and each of its kernels has a property
pub record Ends (P : Kernel → Type 0) (r : ProgramRun) : Type 0 where
  pub kernels : List Kernel
  pub ending : Ending
  pub is : r ≡ ended kernels ending
  pub each : AllByRecursion P kernels

-- The items end, and each of their kernels has a property; where all gave code, these are codes of theirs.
pub data ItemsEnd (P : Kernel → Type 0) (items : List Definition) : ItemsRun → Type 0 where
  as_all : {kernels : List Kernel} → AllByRecursion P kernels → AreCodesOf items (codes_of kernels)
      → ItemsEnd P items (all_gave kernels)
  as_one : {kernels : List Kernel} {e : Ending} → AllByRecursion P kernels → ItemsEnd P items (one_ended kernels e)

abbrev kernel_at : List ℕ → KernelType → Expression → Kernel
kernel_at x k c = record { name = x; kind = k; code = c }

let_ends : (P : Kernel → Type 0) (e : Expression) (items : List Definition) {r : ItemsRun} → ItemsEnd P items r
    → ItemsEnd P (defines e ∷ items) r
let_ends P e items (as_all each codes) = as_all each codes
let_ends P e items (as_one each) = as_one each

kernel_ends : (P : Kernel → Type 0) (x : List ℕ) (k : KernelType) (e c : Expression) (items : List Definition)
    {r : ItemsRun} → P (kernel_at x k c) → HasKernelType c k
    → ItemsEnd P items r → ItemsEnd P (kernel k e ∷ items) (with_kernel x k c r)
kernel_ends P x k e c items here typed (as_all each codes) = as_all (here, each) (typed, codes)
kernel_ends P x k e c items here typed (as_one each) = as_one (here, each)

main_ends : (Q : PureGroundValue → Type 0) (o : Outcome PureGroundValue) → ComesTo Q o
    → (e : Ending) × (main_ending o ≡ Some e)
main_ends Q (came_to v) h = (_, refl)
main_ends Q (trapped t) h = (_, refl)
main_ends Q (bounded l) h = (_, refl)
main_ends Q no_outcome h = absurd (h)

item_ends : (P : Kernel → Type 0) (x : List ℕ) (k : KernelType) (e : Expression) (items : List Definition)
    (o : Outcome Expression) (others : ItemsRun)
    → ComesTo (λ c. HasKernelType c k × (within_limits c ≡ true)) o
    → ((c : Expression) → o ≡ came_to c → P (kernel_at x k c)) → ItemsEnd P items others
    → ItemsEnd P (kernel k e ∷ items) (before_others x k o others)
item_ends P x k e items (came_to c) others h here ends = kernel_ends P x k e c items (here c refl) h.0 ends
item_ends P x k e items (trapped t) others h here ends = as_one tt
item_ends P x k e items (bounded l) others h here ends = as_one tt
item_ends P x k e items no_outcome others h here ends = absurd (h)

item_there : {A : Type 0} (before after : List A) (x : A) → slice_get (before ++ x ∷ after) (length before) ≡ Some x
item_there [] after x = refl
item_there (y ∷ before) after x = item_there before after x

-- A property that each kernel has whose item came to its code.
module _ (P : Kernel → Type 0) (mode : Mode) (fuel : ℕ) (p : NamedProgram) (typable : Typable (unnamed p))
    (holds : (i : ℕ) (x : List ℕ) (k : KernelType) (e c : Expression) → slice_get (unnamed p).items i ≡ Some
    (kernel k e)
    → item_outcome mode (names_of_items (unnamed p).items) fuel e ≡ came_to c → P (kernel_at x k c)) where
  abbrev run_rest : List NamedItem → ItemsRun
  run_rest items = run_items mode fuel (names_of_items (unnamed p).items) items

  abbrev definitions : List NamedItem → List Definition
  definitions items = map (λ (i : NamedItem). i.is) items

  abbrev Continues : List NamedItem → Type 0
  Continues items =
      (before : List Definition) → (unnamed p).items ≡ before ++ definitions items → ItemsEnd P (definitions items)
      (run_rest items)

  -- an item with others behind it
  abbrev With : NamedItem → List NamedItem → Definition → Type 0
  With item items d =
      ItemsEnd P (d ∷ definitions items)
      (run_item mode fuel (names_of_items (unnamed p).items) item.name d (run_rest items))

  -- an item, after which the others end
  one_ends : (item : NamedItem) (items : List NamedItem) → Continues items → Continues (item ∷ items)
  one_ends item items rest before same = by_kind item.is refl
    where
      others : ItemsEnd P (definitions items) (run_rest items)
      others = rest (before ++ item.is ∷ []) (same ∙ sym (append_assoc before (item.is ∷ []) (definitions items)))

      there : (d : Definition) → item.is ≡ d → slice_get (unnamed p).items (length before) ≡ Some d
      there d is =
          ap (λ ds. slice_get ds (length before)) same ∙ (item_there before (definitions items) item.is ∙ ap Some is)

      by_kind : (d : Definition) → item.is ≡ d → With item items item.is
      by_kind (defines e) is = subst (With item items) (sym is) (let_ends P e (definitions items) others)
      by_kind (kernel k e) is =
          subst (With item items) (sym is)
          (item_ends P item.name k e (definitions items) (item_outcome mode (names_of_items (unnamed p).items) fuel e)
          (run_rest items)
          (items_come_to_their_code mode (unnamed p) (length before) k e fuel typable (there (kernel k e) is))
          (λ c came. holds (length before) item.name k e c (there (kernel k e) is) came) others)

  items_end : (items : List NamedItem) → Continues items
  items_end [] before same = as_all tt tt
  items_end (item ∷ items) before same = one_ends item items (items_end items) before same

  pub items_end_so : ItemsEnd P (unnamed p).items (items_run mode fuel p)
  items_end_so = items_end p.items [] refl

  -- and main after them
  main_after_ends : (r : ItemsRun) → ItemsEnd P (unnamed p).items r
      → Ends P (with_main (λ codes. main_after mode fuel (unnamed p).items p.body codes) r)
  main_after_ends _ (as_all {kernels = ks} each codes) =
      let e =
      main_ends (HasGroundType p.result)
      (main_outcome mode (names_of_main (unnamed p).items (codes_of ks)) fuel p.body)
      (main_comes_to_its_value_after_items mode (unnamed p) (codes_of ks) fuel typable codes) in
      record { kernels = ks; ending = e.0; is = ap (ended_after ks) e.1; each = each }
  main_after_ends _ (as_one {kernels = ks} {e = e} each) = record { kernels = ks; ending = e; is = refl; each = each }

  pub all_end : Ends P (program_run mode fuel p)
  all_end = main_after_ends (items_run mode fuel p) items_end_so

-- the run of a typable program ends
pub program_ends : (mode : Mode) (fuel : ℕ) (p : NamedProgram) → Typable (unnamed p)
    → Ends (λ _. Unit {0}) (program_run mode fuel p)
program_ends mode fuel p typable = all_end (λ _. Unit {0}) mode fuel p typable (λ i x k e c there came. tt)
