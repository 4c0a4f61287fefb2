-- Linking the kernels of an accepted program.
use Rattle.std.proofs.Common.{◌≡◌, ◌≤◌, ℕ, suc, ◌+◌, Bool, true, false, List, [], ◌∷◌, ◌++◌, map, length, Option}
use Rattle.std.proofs.Common.{None}
use Rattle.std.proofs.Common.{Some, refl, sym, ap, ◌∙◌, subst, arith, length-append}
use Rattle.std.specs.Prelude.{nat_lt, if◌then◌else◌}
use Rattle.std.specs.List.{AllByRecursion}
use Rattle.std.proofs.lemmas.Bool.{ltb-false}
use Rattle.std.proofs.lemmas.List.{append_assoc, append-nil}
use Rattle.std.proofs.lemmas.List.Sums.{sum_by-cons}
use Rattle.mw_term.specs.Terms.{Expression, KernelType, Value}
use Rattle.mw_term.specs.Programs.{Definition, value as defines, kernel}
use Rattle.mw_term.specs.Typable.{Typable, HasKernelType}
use Rattle.mw_meaning.specs.declared.mode.Mode.{Mode}
use Rattle.mw_meaning.specs.declared.mode.Mode.TheVariants.{Plain}
use Rattle.mw_meaning.specs.Outcomes.{Outcome, came_to, trapped, bounded, stuck, names_of_items}
use Rattle.mw_conv.specs.Convert.{funs, functions}
use Rattle.mw_conv.proofs.Scopes.{functions_length}
use Rattle.mw_compile.proofs.EmittedEntries.{within_size, within_depth}
use Rattle.mw_grammar.specs.SurfaceTrees.{PureItem}
use Rattle.mw_grammar.specs.Answers.{kernels as kernel_items}
use Rattle.mw_scope.specs.Scopes.{name_of}
use Rattle.mw_scope.specs.Nameless.{NamelessItems, no_item, an_item, a_let, a_kernel}
use Rattle.mw_link.specs.Linked.{Kernel, all_functions, count}
use Rattle.mw_link.specs.LinkLaw.{IsLinkable, KernelsDiffer, AreLinkable, LiteralsOfAllFit}
use Rattle.mw_reading.specs.NamedPrograms.{NamedItem, NamedProgram, unnamed}
use Rattle.mw_reading.specs.SourceReading.{IsRead}
use Rattle.mw_drive.specs.ProgramMeaning.{ItemsRun, all_gave, one_ended, one_stuck, before_others}
use Rattle.mw_drive.specs.ProgramMeaning.{run_item}
use Rattle.mw_drive.specs.ProgramMeaning.{run_items, items_run}
use Rattle.mw_drive.specs.LinkedPrograms.{functions_of, first_past, LinkRun, in_one, cut_short, unlinkable}
use Rattle.mw_drive.specs.LinkedPrograms.{in_one_unless, link_run}
use Rattle.mw_drive.specs.ProgramRuns.{link_meaning}
use Rattle.mw_drive.specs.Works.{linking, Meaning, joined, unjoined, IsAccepted, IsMeaning, of_joined, of_unjoined}
use Rattle.mw_drive.proofs.ItemNames.{IsName, HasName, items_named, name_printable, IsOther, Differ, names_differ}
use Rattle.mw_drive.proofs.ProgramEnds.{ItemsEnd, as_all, as_one, items_end_so}
use Rattle.mw_drive.proofs.SoundKernels.{IsSound, items_sound}

-- Linking comes to something.

link_goes : (P : Kernel → Type 0) (items : List Definition) (r : ItemsRun) → ItemsEnd P items r
    → (m : Meaning) × (link_meaning (link_run r) ≡ Some m)
link_goes P items _ (as_all {kernels = ks} each codes) = by_name (first_past [] ks)
  where
    by_name : (o : Option (List ℕ)) → (m : Meaning) × (link_meaning (in_one_unless ks o) ≡ Some m)
    by_name None = (_, refl)
    by_name (Some x) = (_, refl)
link_goes P items _ (as_one each) = (_, refl)

pub some_link : (fuel : ℕ) (p : NamedProgram) → Typable (unnamed p)
    → (m : Meaning) × (link_meaning (link_run (items_run Plain fuel p)) ≡ Some m)
some_link fuel p typable =
    link_goes (λ _. Unit {0}) (unnamed p).items (items_run Plain fuel p)
    (items_end_so (λ _. Unit {0}) Plain fuel p typable (λ i x k e c there came. tt))

-- and that is what linking the source means
pub link_means : {bytes : List ℕ} {fuel : ℕ} (p : NamedProgram) → IsRead bytes p → IsAccepted (unnamed p)
    → (m : Meaning) → link_meaning (link_run (items_run Plain fuel p)) ≡ Some m → IsMeaning (linking bytes fuel) m
link_means {bytes} {fuel} p read accepted m = by_run (link_run (items_run Plain fuel p)) refl
  where
    by_run : (r : LinkRun) → link_run (items_run Plain fuel p) ≡ r → link_meaning r ≡ Some m
        → IsMeaning (linking bytes fuel) m
    by_run (in_one kernels) goes is =
        let same : joined kernels ≡ m = cc in
        subst (IsMeaning (linking bytes fuel)) same (of_joined p read accepted goes)
    by_run (cut_short e) goes is =
        let same : unjoined e ≡ m = cc in
        subst (IsMeaning (linking bytes fuel)) same (of_unjoined p read accepted goes)
    by_run unlinkable goes is = absurd (cc)

-- Kernels that are put in one module were given by all items, and have few functions.

not_past : (front : List Kernel) (k : Kernel) (ks : List Kernel) → first_past front (k ∷ ks) ≡ None
    → (functions_of (front ++ k ∷ []) ≤ 100_000) × (first_past (front ++ k ∷ []) ks ≡ None)
not_past front k ks = by_test (nat_lt 100_000 (functions_of (front ++ k ∷ []))) refl
  where
    by_test : (t : Bool) → nat_lt 100_000 (functions_of (front ++ k ∷ [])) ≡ t
        → (if t then Some k.name else first_past (front ++ k ∷ []) ks) ≡ None
        → (functions_of (front ++ k ∷ []) ≤ 100_000) × (first_past (front ++ k ∷ []) ks ≡ None)
    by_test true e is = absurd (cc)
    by_test false e is = (ltb-false 100_000 (functions_of (front ++ k ∷ [])) e, is)

few_functions : (front ks : List Kernel) → functions_of front ≤ 100_000 → first_past front ks ≡ None
    → functions_of (front ++ ks) ≤ 100_000
few_functions front [] small none = rw append-nil small
few_functions front (k ∷ ks) small none =
    let more = not_past front k ks none in
    subst (λ ks. functions_of ks ≤ 100_000) (append_assoc front (k ∷ []) ks)
    (few_functions (front ++ k ∷ []) ks more.0 more.1)

counted_all : (n : ℕ) (ks : List Kernel) → length (all_functions n ks) ≡ functions_of ks
counted_all n [] = refl
counted_all n (k ∷ ks) =
    omega (
      arith,
      counted_all (n + funs k.code) ks,
      length-append (functions k.code n 0) (all_functions (n + funs k.code) ks),
      functions_length k.code n 0,
      sum_by-cons (λ (k : Kernel). funs k.code) k ks,
    )

pub together : (ks : List Kernel) → first_past [] ks ≡ None → count ks ≤ 100_000
together ks none = rw counted_all (few_functions [] ks (omega arith) none)

pub all_in_one : (r : ItemsRun) (kernels : List Kernel) → link_run r ≡ in_one kernels
    → (r ≡ all_gave kernels) × (first_past [] kernels ≡ None)
all_in_one (all_gave ks) kernels is = by_name (first_past [] ks) refl is
  where
    by_name : (o : Option (List ℕ)) → first_past [] ks ≡ o → in_one_unless ks o ≡ in_one kernels
        → (all_gave ks ≡ all_gave kernels) × (first_past [] kernels ≡ None)
    by_name None none is = let same : ks ≡ kernels = cc in rw (← same) (refl, none)
    by_name (Some x) past is = absurd (cc)
all_in_one (one_ended ks e) kernels is = absurd (cc)
all_in_one one_stuck kernels is = absurd (cc)

-- They are the kernels of the kernel items, in order, under the items' names.

item_gave : (x : List ℕ) (k : KernelType) (o : Outcome Expression) (others : ItemsRun) (kernels : List Kernel)
    → before_others x k o others ≡ all_gave kernels
    → (c : Expression) × (more : List Kernel) × (others ≡ all_gave more)
    × (kernels ≡ record { name = x; code = c; kind = k } ∷ more)
item_gave x k (came_to c) (all_gave more) kernels is = (c, more, refl, cc)
item_gave x k (came_to c) (one_ended more e) kernels is = absurd (cc)
item_gave x k (came_to c) one_stuck kernels is = absurd (cc)
item_gave x k (trapped t) others kernels is = absurd (cc)
item_gave x k (bounded l) others kernels is = absurd (cc)
item_gave x k stuck others kernels is = absurd (cc)

abbrev names_in : List NamedItem → List (List ℕ)
names_in items = map (λ (i : NamedItem). i.name) items

abbrev definitions : List NamedItem → List Definition
definitions items = map (λ (i : NamedItem). i.is) items

abbrev kernels_among : List Definition → ℕ
kernels_among [] = 0
kernels_among (defines e ∷ ds) = kernels_among ds
kernels_among (kernel k e ∷ ds) = suc (kernels_among ds)

module _ (mode : Mode) (fuel : ℕ) (values : List Value) where
  abbrev Give : List NamedItem → List Kernel → Type 0
  Give items kernels = run_items mode fuel values items ≡ all_gave kernels

  abbrev With : NamedItem → Definition → List NamedItem → List Kernel → Type 0
  With i d items kernels = run_item mode fuel values i.name d (run_items mode fuel values items) ≡ all_gave kernels

  named : (P : List ℕ → Type 0) (items : List NamedItem) (kernels : List Kernel) → Give items kernels
      → AllByRecursion P (names_in items) → AllByRecursion (λ (k : Kernel). P k.name) kernels
  named P [] [] is a = tt
  named P [] (k ∷ kernels) is a = absurd (cc)
  named P (i ∷ items) kernels is a = by_kind (λ ks give. named P items ks give a.1) i.is is
    where
      by_kind : ((ks : List Kernel) → Give items ks → AllByRecursion (λ (k : Kernel). P k.name) ks) → (d : Definition)
          → With i d items kernels → AllByRecursion (λ (k : Kernel). P k.name) kernels
      by_kind rest (defines e) is = rest kernels is
      by_kind rest (kernel k e) is =
          let g = item_gave i.name k _ (run_items mode fuel values items) kernels is in
          subst (AllByRecursion (λ (k : Kernel). P k.name)) (sym g.3) (a.0, rest g.1 g.2)

  differ : (items : List NamedItem) (kernels : List Kernel) → Give items kernels → Differ (names_in items)
      → KernelsDiffer kernels
  differ [] [] is d = tt
  differ [] (k ∷ kernels) is d = absurd (cc)
  differ (i ∷ items) kernels is d = by_kind (λ ks give. differ items ks give d.1) i.is is
    where
      by_kind : ((ks : List Kernel) → Give items ks → KernelsDiffer ks) → (d : Definition)
          → With i d items kernels → KernelsDiffer kernels
      by_kind rest (defines e) is = rest kernels is
      by_kind rest (kernel k e) is =
          let g = item_gave i.name k _ (run_items mode fuel values items) kernels is in
          subst KernelsDiffer (sym g.3) (named (IsOther i.name) items g.1 g.2 d.0, rest g.1 g.2)

  counted : (items : List NamedItem) (kernels : List Kernel) → Give items kernels
      → length kernels ≡ kernels_among (definitions items)
  counted [] [] is = refl
  counted [] (k ∷ kernels) is = absurd (cc)
  counted (i ∷ items) kernels is = by_kind (λ ks give. counted items ks give) i.is is
    where
      by_kind : ((ks : List Kernel) → Give items ks → length ks ≡ kernels_among (definitions items)) → (d : Definition)
          → With i d items kernels → length kernels ≡ kernels_among (d ∷ definitions items)
      by_kind rest (defines e) is = rest kernels is
      by_kind rest (kernel k e) is =
          let g = item_gave i.name k _ (run_items mode fuel values items) kernels is in
          ap length g.3 ∙ ap suc (rest g.1 g.2)

nameless_kernels : {before items : List PureItem} {ds : List Definition} → NamelessItems before items ds
    → kernels_among ds ≡ kernel_items items
nameless_kernels no_item = refl
nameless_kernels (an_item fresh (a_let value is) rest) = nameless_kernels rest
nameless_kernels (an_item fresh (a_kernel is) rest) = ap suc (nameless_kernels rest)

all_names : (items : List PureItem) → AllByRecursion HasName items → AllByRecursion IsName (map name_of items)
all_names [] a = tt
all_names (i ∷ items) a = (a.0, all_names items a.1)

-- So they may be linked.

linkable : (k : Kernel) → IsSound k → IsName k.name → IsLinkable k
linkable k sound name = record {
  closed = sound.typed.closed;
  few = within_size k.code sound.limits;
  flat = within_depth k.code sound.limits;
  nodes = sound.nodes;
  short = name.short;
  printable = name_printable k.name name;
}

-- kernels that may be linked, of their types
pub record AreSoundTogether (ks : List Kernel) : Type 0 where
  pub linkable : AreLinkable ks
  pub literals : LiteralsOfAllFit ks
  pub typed : AllByRecursion (λ (k : Kernel). HasKernelType k.code k.kind) ks

all_linkable : (ks : List Kernel) → AllByRecursion IsSound ks → AllByRecursion (λ (k : Kernel). IsName k.name) ks
    → AllByRecursion IsLinkable ks
all_linkable [] sound names = tt
all_linkable (k ∷ ks) sound names = (linkable k sound.0 names.0, all_linkable ks sound.1 names.1)

all_literals : (ks : List Kernel) → AllByRecursion IsSound ks → LiteralsOfAllFit ks
all_literals [] sound = tt
all_literals (k ∷ ks) sound = (sound.0.literals, all_literals ks sound.1)

all_typed : (ks : List Kernel) → AllByRecursion IsSound ks
    → AllByRecursion (λ (k : Kernel). HasKernelType k.code k.kind) ks
all_typed [] sound = tt
all_typed (k ∷ ks) sound = (sound.0.typed, all_typed ks sound.1)

gave_each : (P : Kernel → Type 0) {items : List Definition} {r : ItemsRun} (kernels : List Kernel)
    → ItemsEnd P items r → r ≡ all_gave kernels → AllByRecursion P kernels
gave_each P kernels (as_all {kernels = ks} each codes) is =
    let same : ks ≡ kernels = cc in subst (AllByRecursion P) same each
gave_each P kernels (as_one each) is = absurd (cc)

pub linked_kernels : (fuel : ℕ) (bytes : List ℕ) (p : NamedProgram) (ks : List Kernel) → IsRead bytes p
    → IsAccepted (unnamed p) → link_run (items_run Plain fuel p) ≡ in_one ks → AreSoundTogether ks
linked_kernels fuel bytes p ks read accepted is =
    let all = all_in_one (items_run Plain fuel p) ks is in
    let sound = gave_each IsSound ks (items_sound Plain fuel bytes p read accepted) all.0 in
    let in_source = all_names read.surface.items (items_named read.are_tokens read.is_surface.is.derives) in
    let names = subst (AllByRecursion IsName) (sym read.names) in_source in
    let distinct = subst Differ (sym read.names) (names_differ read.is_nameless.items) in
    let few = counted Plain fuel (names_of_items (unnamed p).items) p.items ks all.0 in
    record {
      linkable = record {
        all =
            all_linkable ks sound
            (named Plain fuel (names_of_items (unnamed p).items) IsName p.items ks all.0 names);
        differ = differ Plain fuel (names_of_items (unnamed p).items) p.items ks all.0 distinct;
        few = omega (arith, few, nameless_kernels read.is_nameless.items, read.is_surface.few.kernel_items);
        together = together ks all.1;
      };
      literals = all_literals ks sound;
      typed = all_typed ks sound;
    }
