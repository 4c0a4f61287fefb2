-- From the outcomes of kernel items to the kernels that are put in one module.
use Rattle.std.proofs.Common.{◌≡◌, ◌≤◌, ◌+◌, ℕ, true, List, [], ◌∷◌, ◌++◌, map}
use Rattle.std.proofs.Common.{None, Some, refl, sym, ap, ◌∙◌, subst, arith}
use Rattle.std.specs.Prelude.{slice_get}
use Rattle.std.specs.List.{AllByRecursion}
use Rattle.std.proofs.lemmas.List.{append_assoc, map-append}
use Rattle.mw_term.specs.Terms.{KernelType, kernel_type_of, Expression, expression_of}
use Rattle.mw_term.specs.Limits.{within_limits}
use Rattle.mw_term.specs.Programs.{value as defines, kernel, definition_of}
use Rattle.mw_term.specs.declared.program.ItemKind.{ItemKind}
use Rattle.mw_term.specs.declared.program.Item.{Item}
use Rattle.mw_conv.specs.Convert.{funs}
use Rattle.mw_conv.proofs.Ranges.{size_small, funs_few}
use Rattle.mw_tasks.specs.declared.outcome.ItemOutcome.{ItemOutcome}
use Rattle.mw_tasks.specs.declared.outcome.ItemOutcome.TheVariants.{Code, Trap, Bound}
use Rattle.mw_cache.specs.declared.got.Got.{Got}
use Rattle.mw_link.specs.Linked.{Kernel}
use Rattle.mw_link.specs.Views.{kernel_of as linkable_kernel}
use Rattle.mw_link.specs.declared.parts.Linkable.{Linkable}
use Rattle.mw_console.specs.Texts.{Ending}
use Rattle.mw_drive.specs.declared.items.Built.{Built}
use Rattle.mw_reading.specs.NamedPrograms.{NamedItem, item_of}
use Rattle.mw_drive.specs.ProgramMeaning.{ItemsRun, all_gave, one_ended, one_stuck, with_kernel}
use Rattle.mw_drive.specs.ItemOutcomes.{outcomes_run, item_run, IsCodeTaken, IsNextKernel, not_a_kernel, with_code}
use Rattle.mw_drive.specs.ItemOutcomes.{without_code}
use Rattle.mw_drive.proofs.ItemsRun.{with_kernels, one_more, all_before, all_kernels}
use Rattle.mw_drive.proofs.ListFronts.{all_at}

-- an item of this name and this kind, with its name
abbrev pub item_with : List ℕ → ItemKind → NamedItem
item_with name kind = record { name = name; is = definition_of kind }

-- the functions of one more kernel are counted in 32 bits
pub few_more : (built : List Built) (i : ℕ) (b : Built)
    → AllByRecursion (λ (b : Built). within_limits (expression_of b.code.now) ≡ true) built
    → slice_get built i ≡ Some b → (sum n : ℕ) → sum ≤ 100_000 → n ≡ funs (expression_of b.code.now)
    → sum + n ≤ 120_000
few_more built i b limits there sum n few is =
    let limit = all_at (λ (b : Built). within_limits (expression_of b.code.now) ≡ true) built i b limits there in
    omega (arith, few, is, funs_few (expression_of b.code.now), size_small (expression_of b.code.now) limit)

-- Where all of the program's items give kernels, the kernels so far, before those of the others with the outcomes that
-- are left, are these.
abbrev pub Gathers : List ItemOutcome → List Item → List Kernel → List ItemOutcome → Type 0
Gathers outcomes front ls left =
    (others : List NamedItem) (kernels : List Kernel)
    → outcomes_run (map item_of front ++ others) outcomes ≡ all_gave kernels
    → with_kernels ls (outcomes_run others left) ≡ all_gave kernels

stuck_after : (ls : List Kernel) → with_kernels ls one_stuck ≡ one_stuck
stuck_after [] = refl
stuck_after (k ∷ ls) = ap (with_kernel k.name k.kind k.code) (stuck_after ls)

stuck_no_all : (r : ItemsRun) (ls kernels : List Kernel) → r ≡ one_stuck → with_kernels ls r ≡ all_gave kernels → ⊥
stuck_no_all r ls kernels is gave = no (sym (ap (with_kernels ls) is ∙ stuck_after ls) ∙ gave)
  where
    no : one_stuck ≡ all_gave kernels → ⊥
    no e = cc

ended_no_all : (r : ItemsRun) (e : Ending) (ls kernels : List Kernel) → r ≡ one_ended [] e
    → with_kernels ls r ≡ all_gave kernels → ⊥
ended_no_all r e ls kernels is gave = no (sym (ap (with_kernels ls) is ∙ all_before ls e) ∙ gave)
  where
    no : one_ended ls e ≡ all_gave kernels → ⊥
    no e = cc

module _ (outcomes : List ItemOutcome) (front : List Item) (i : Item) (ls : List Kernel) (left : List ItemOutcome)
    (h : Gathers outcomes front ls left) where
  abbrev more : List Item
  more = front ++ i ∷ []

  -- what is known with the item before the others
  with_item : (others : List NamedItem) (kernels : List Kernel)
      → outcomes_run (map item_of more ++ others) outcomes ≡ all_gave kernels
      → with_kernels ls (item_run (item_of i).name (item_of i).is (outcomes_run others) left) ≡ all_gave kernels
  with_item others kernels run =
      h (item_of i ∷ others) kernels (subst (λ items. outcomes_run items outcomes ≡ all_gave kernels) same run)
    where
      same : map item_of more ++ others ≡ map item_of front ++ item_of i ∷ others
      same =
          ap (λ items. items ++ others) (map-append item_of front (i ∷ []))
          ∙ append_assoc (map item_of front) (item_of i ∷ []) others

  gathers_let : (e : Expression) → (item_of i).is ≡ defines e → Gathers outcomes more ls left
  gathers_let e is = λ others kernels run.
      ap (λ d. with_kernels ls (item_run (item_of i).name d (outcomes_run others) left)) (sym is)
      ∙ with_item others kernels run

  with_outcomes : (k : KernelType) (e : Expression) → (item_of i).is ≡ kernel k e → (rest : List ItemOutcome)
      → left ≡ rest → (others : List NamedItem) (kernels : List Kernel)
      → outcomes_run (map item_of more ++ others) outcomes ≡ all_gave kernels
      → with_kernels ls (item_run (item_of i).name (kernel k e) (outcomes_run others) rest) ≡ all_gave kernels
  with_outcomes k e is rest same others kernels run = rw (is, same) at with_item others kernels run

  gathers_code : (l : Linkable) (e : Expression) (got : Got) (rest : List ItemOutcome)
      → item_of i ≡ record { name = l.name; is = kernel (kernel_type_of l.kind) e }
      → left ≡ Code l.code got ∷ rest → Gathers outcomes more (ls ++ linkable_kernel l ∷ []) rest
  gathers_code l e got rest is same = λ others kernels run.
      one_more ls (linkable_kernel l) (outcomes_run others rest)
      ∙ subst
      (λ name. with_kernels ls (item_run name (kernel (kernel_type_of l.kind) e) (outcomes_run others)
      (Code l.code got ∷ rest)) ≡ all_gave kernels) (ap (λ (i : NamedItem). i.name) is)
      (with_outcomes (kernel_type_of l.kind) e (ap (λ (i : NamedItem). i.is) is) (Code l.code got ∷ rest) same others
      kernels run)

  -- where the next outcome is no code, not all items gave code
  gathers_no_code : (k : KernelType) (e : Expression) → (item_of i).is ≡ kernel k e → (rest : List ItemOutcome)
      → IsCodeTaken left None rest → Gathers outcomes more ls rest
  gathers_no_code k e is rest none = λ others kernels run. absurd (by_outcome left refl others kernels run)
    where
      by_outcome : (l : List ItemOutcome) → left ≡ l → (others : List NamedItem) (kernels : List Kernel)
          → outcomes_run (map item_of more ++ others) outcomes ≡ all_gave kernels → ⊥
      by_outcome [] same others kernels run =
          stuck_no_all _ ls kernels refl (with_outcomes k e is [] same others kernels run)
      by_outcome (Code code got ∷ behind) same others kernels run = none code got behind same
      by_outcome (Trap t ∷ behind) same others kernels run =
          ended_no_all _ _ ls kernels refl (with_outcomes k e is (Trap t ∷ behind) same others kernels run)
      by_outcome (Bound l ∷ behind) same others kernels run =
          ended_no_all _ _ ls kernels refl (with_outcomes k e is (Bound l ∷ behind) same others kernels run)

  -- one item on
  pub gathers_kernel : (l : Linkable) (rest : List ItemOutcome) → IsNextKernel (item_of i) left (Some l) rest
      → Gathers outcomes more (ls ++ linkable_kernel l ∷ []) rest
  gathers_kernel l rest (with_code {e = e} {got = got} is same) = gathers_code l e got rest is same

  pub gathers_none : (rest : List ItemOutcome) → IsNextKernel (item_of i) left None rest → Gathers outcomes more ls rest
  gathers_none rest (not_a_kernel {e = e} is) = gathers_let e is
  gathers_none rest (without_code {k = k} {e = e} is none) = gathers_no_code k e is rest none

-- all are gathered
pub gathered_all : (outcomes : List ItemOutcome) (items : List Item) (ls : List Kernel) (left : List ItemOutcome)
    → Gathers outcomes items ls left → (kernels : List Kernel)
    → outcomes_run (map item_of items) outcomes ≡ all_gave kernels → ls ≡ kernels
gathered_all outcomes items ls left h kernels run =
    same (sym (all_kernels ls) ∙ h [] kernels (ap (λ items. outcomes_run items outcomes) (append_nil' items) ∙ run))
  where
    append_nil' : (items : List Item) → map item_of items ++ [] ≡ map item_of items
    append_nil' [] = refl
    append_nil' (i ∷ items) = ap (λ is. item_of i ∷ is) (append_nil' items)

    same : all_gave ls ≡ all_gave kernels → ls ≡ kernels
    same is = cc
