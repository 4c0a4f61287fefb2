-- Programs end alike where kernels are simplified.
use Rattle.std.proofs.Common.{◌≡◌, ℕ, ◌≤◌, zero, suc, List, [], ◌∷◌, Option, None, Some, refl, subst}
use Rattle.std.specs.Prelude.{map, slice_get}
use Rattle.mw_term.specs.Programs.{Definition, value as defines, kernel}
use Rattle.mw_term.specs.Terms.{Expression, Value, KernelType, PureGroundValue}
use Rattle.mw_meaning.specs.declared.mode.Mode.TheVariants.{Plain, Simple}
use Rattle.mw_meaning.specs.Outcomes.{Outcome, came_to, trapped as traps, bounded as bounds, stuck as no_outcome}
use Rattle.mw_meaning.specs.Outcomes.{item_outcome, main_outcome, names_of_items, names_of_main}
use Rattle.mw_term.specs.Typable.{Typable}
use Rattle.mw_console.specs.Texts.{Ending, answered, trapped, bounded}
use Rattle.mw_reading.specs.NamedPrograms.{NamedItem, NamedProgram, unnamed}
use Rattle.mw_link.specs.Linked.{Kernel}
use Rattle.mw_drive.specs.ProgramMeaning.{ItemsRun, all_gave, one_ended, one_stuck, with_kernel, before_others}
use Rattle.mw_drive.specs.ProgramMeaning.{run_item, run_items, items_run}
use Rattle.mw_drive.specs.ProgramMeaning.{main_ending, main_after, ProgramRun, ended, stuck, codes_of, ended_after}
use Rattle.mw_drive.specs.ProgramMeaning.{with_main, program_run}
use Rattle.mw_simplify.specs.SimplifiedOutcomes.{Stays}
use Rattle.mw_simplify.proofs.SimplifiedOutcomes.{items_stay, main_stays}
use Rattle.mw_drive.specs.SimplifiedPrograms.{IsUnbounded, ProgramsEndAlike}

-- the second is the first, unless that ends with a bound or is stuck: of items, of main, and of a program
abbrev ItemsAlike : ItemsRun → ItemsRun → Type 0
ItemsAlike (all_gave kernels) b = b ≡ all_gave kernels
ItemsAlike (one_ended kernels (answered v)) b = b ≡ one_ended kernels (answered v)
ItemsAlike (one_ended kernels (trapped t name)) b = b ≡ one_ended kernels (trapped t name)
ItemsAlike (one_ended kernels (bounded l name)) b = Unit {0}
ItemsAlike one_stuck b = Unit {0}

abbrev MainAlike : Option Ending → Option Ending → Type 0
MainAlike (Some (answered v)) b = b ≡ Some (answered v)
MainAlike (Some (trapped t name)) b = b ≡ Some (trapped t name)
MainAlike (Some (bounded l name)) b = Unit {0}
MainAlike None b = Unit {0}

abbrev EndsAlike : ProgramRun → ProgramRun → Type 0
EndsAlike (ended kernels (answered v)) b = b ≡ ended kernels (answered v)
EndsAlike (ended kernels (trapped t name)) b = b ≡ ended kernels (trapped t name)
EndsAlike (ended kernels (bounded l name)) b = Unit {0}
EndsAlike stuck b = Unit {0}

main_alike : (a b : Outcome PureGroundValue) → Stays a b → MainAlike (main_ending a) (main_ending b)
main_alike (came_to v) b h = rw h refl
main_alike (traps t) b h = rw h refl
main_alike (bounds l) b h = tt
main_alike no_outcome b h = tt

kernel_alike : (name : List ℕ) (k : KernelType) (c : Expression) (a b : ItemsRun) → ItemsAlike a b → ItemsAlike
    (with_kernel name k c a) (with_kernel name k c b)
kernel_alike name k c (all_gave ks) b h = rw h refl
kernel_alike name k c (one_ended ks (answered v)) b h = rw h refl
kernel_alike name k c (one_ended ks (trapped t at)) b h = rw h refl
kernel_alike name k c (one_ended ks (bounded l at)) b h = tt
kernel_alike name k c one_stuck b h = tt

item_alike : (name : List ℕ) (k : KernelType) (a b : Outcome Expression) (others others' : ItemsRun) → Stays a b
    → ItemsAlike others others'
    → ItemsAlike (before_others name k a others) (before_others name k b others')
item_alike name k (came_to c) b others others' h f = rw h (kernel_alike name k c others others' f)
item_alike name k (traps t) b others others' h f = rw h refl
item_alike name k (bounds l) b others others' h f = tt
item_alike name k no_outcome b others others' h f = tt

module _ (n m : ℕ) (names : List Value) where
  first_alike : (name : List ℕ) (d : Definition) (others others' : ItemsRun)
      → ((k : KernelType) (e : Expression) → d ≡ kernel k e → Stays (item_outcome Plain names n e)
      (item_outcome Simple names m e)) → ItemsAlike others others'
      → ItemsAlike (run_item Plain n names name d others) (run_item Simple m names name d others')
  first_alike name (defines e) others others' h f = f
  first_alike name (kernel k e) others others' h f =
      item_alike name k (item_outcome Plain names n e) (item_outcome Simple names m e) others others' (h k e refl) f

  items_alike : (items : List NamedItem)
      → ((i : ℕ) (k : KernelType) (e : Expression) → slice_get (map (λ i. i.is) items) i ≡ Some (kernel k e) → Stays
      (item_outcome Plain names n e) (item_outcome Simple names m e))
      → ItemsAlike (run_items Plain n names items) (run_items Simple m names items)
  items_alike [] h = refl
  items_alike (item ∷ items) h =
      first_alike item.name item.is _ _ (λ k e q. h zero k e (rw q refl))
      (items_alike items (λ i k e q. h (suc i) k e q))

ended_alike : (ks : List Kernel) (a b : Option Ending) → MainAlike a b → EndsAlike (ended_after ks a)
    (ended_after ks b)
ended_alike ks (Some (answered v)) b h = rw h refl
ended_alike ks (Some (trapped t name)) b h = rw h refl
ended_alike ks (Some (bounded l name)) b h = tt
ended_alike ks None b h = tt

with_main_alike : (main main' : List Expression → Option Ending) (a b : ItemsRun)
    → ((codes : List Expression) → MainAlike (main codes) (main' codes)) → ItemsAlike a b
    → EndsAlike (with_main main a) (with_main main' b)
with_main_alike main main' (all_gave ks) b alike h = rw h
    (ended_alike ks (main (codes_of ks)) (main' (codes_of ks)) (alike (codes_of ks)))
with_main_alike main main' (one_ended ks (answered v)) b alike h = rw h refl
with_main_alike main main' (one_ended ks (trapped t name)) b alike h = rw h refl
with_main_alike main main' (one_ended ks (bounded l name)) b alike h = tt
with_main_alike main main' one_stuck b alike h = tt

runs_end_alike : (p : NamedProgram) (n m : ℕ) → Typable (unnamed p) → n ≤ m → EndsAlike (program_run Plain n p)
    (program_run Simple m p)
runs_end_alike p n m typable le =
    with_main_alike (λ codes. main_after Plain n (unnamed p).items p.body codes)
    (λ codes. main_after Simple m (unnamed p).items p.body codes)
    (items_run Plain n p) (items_run Simple m p)
    (λ codes. main_alike (main_outcome Plain (names_of_main (unnamed p).items codes) n p.body)
    (main_outcome Simple (names_of_main (unnamed p).items codes) m p.body)
    (main_stays (names_of_main (unnamed p).items codes) p.body n m le))
    (items_alike n m (names_of_items (unnamed p).items) p.items
    (λ i k e q. items_stay (unnamed p) i k e n m typable q le))

-- no bound, so it ends the same
unbounded : (kernels : List Kernel) (e : Ending) (b : ProgramRun) → IsUnbounded e → EndsAlike (ended kernels e) b
    → b ≡ ended kernels e
unbounded kernels (answered v) b h alike = alike
unbounded kernels (trapped t name) b h alike = alike
unbounded kernels (bounded l name) b h alike = absurd (h)

pub programs_end_alike : ProgramsEndAlike
programs_end_alike p n m kernels e typable le is h =
    unbounded kernels e (program_run Simple m p) h
    (subst (λ (r : ProgramRun). EndsAlike r (program_run Simple m p)) is (runs_end_alike p n m typable le))
