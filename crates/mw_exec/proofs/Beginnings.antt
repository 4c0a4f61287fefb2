-- Which modules begin as an instance.
use Rattle.std.proofs.Common.{◌≡◌, ℕ, ◌+◌, ◌*◌, Bool, true, false, List, [], ◌∷◌, map, length, refl, sym, ◌∙◌, ap}
use Rattle.std.proofs.Common.{subst, Option, Some, None}
use Rattle.std.specs.Prelude.{cond, not, position, Err}
use Rattle.std.specs.List.{position_from, AllByRecursion}
use Rattle.std.proofs.lemmas.Iterator.Adapters.{position_from-zero}
use Rattle.mw_wasm.specs.declared.modules.Element.{Element}
use Rattle.mw_wasm.specs.declared.modules.Segment.{Segment}
use Rattle.mw_wasm.specs.declared.modules.Module.{Module}
use Rattle.mw_wasm.specs.Instances.{element, segment, first_table, first_memory, element_fits, segment_fits}
use Rattle.mw_wasm.specs.Instances.{instantiated}
use Rattle.mw_wasm.specs.Validity.{IsValid, IsValidElement, IsValidData}
use Rattle.mw_wasm.specs.Views.{module_of, element_of, segment_of}
use Rattle.mw_validate.proofs.MappedElements.{unmapped, all_so}
use Rattle.mw_exec.specs.Fitting.{ends_in, element_test, segment_test, AllFit, HasElementOffset, HasSegmentOffset}
use Rattle.mw_exec.specs.Instancing.{first_store, BeginsAs}
use Rattle.mw_exec.proofs.Positions.{none_before_first, first_is_here, none_at_all}

-- a test of mapped items
from_map : {X Y : Type 0} (test : Y → Bool) (f : X → Y) (i : ℕ) (xs : List X) → position_from test i (map f xs)
    ≡ position_from (λ x. test (f x)) i xs
from_map test f i [] = refl
from_map test f i (x ∷ xs) = ap (λ r. cond (test (f x)) (Some i) r) (from_map test f (i + 1) xs)

position_map : {X Y : Type 0} (test : Y → Bool) (f : X → Y) (xs : List X) → position test (map f xs)
    ≡ position (λ x. test (f x)) xs
position_map test f xs = position_from-zero test (map f xs)
    ∙ (from_map test f 0 xs ∙ sym (position_from-zero (λ x. test (f x)) xs))

first_element : (wasm : Module) (size : ℕ) → size ≡ length (first_table wasm.table)
    → position (λ e. not (element_fits (first_table wasm.table) e)) (map element_of wasm.elements)
    ≡ position (element_test size) wasm.elements
first_element wasm size e = position_map (λ e. not (element_fits (first_table wasm.table) e)) element_of wasm.elements
    ∙ ap (λ n. position (element_test n) wasm.elements) (sym e)

first_segment : (wasm : Module) (size : ℕ) → size ≡ (first_memory wasm.memory).pages * 65536
    → position (λ s. not (segment_fits (first_memory wasm.memory) s)) (map segment_of wasm.segments)
    ≡ position (segment_test size) wasm.segments
first_segment wasm size e = position_map (λ s. not (segment_fits (first_memory wasm.memory) s)) segment_of wasm.segments
    ∙ ap (λ n. position (segment_test n) wasm.segments) (sym e)

pub unfit_element : (wasm : Module) (size k : ℕ) → size ≡ length (first_table wasm.table)
    → position (element_test size) wasm.elements ≡ Some k → instantiated (module_of wasm) ≡ Err (element k)
unfit_element wasm size k e f = rw (first_element wasm size e ∙ f) refl

pub unfit_segment : (wasm : Module) (size bytes k : ℕ) → size ≡ length (first_table wasm.table)
    → bytes ≡ (first_memory wasm.memory).pages * 65536
    → position (element_test size) wasm.elements ≡ None → position (segment_test bytes) wasm.segments ≡ Some k
    → instantiated (module_of wasm) ≡ Err (segment k)
unfit_segment wasm size bytes k e f none g = rw (first_element wasm size e ∙ none, first_segment wasm bytes f ∙ g) refl

pub begins : (wasm : Module) → AllFit wasm → BeginsAs wasm (first_store (module_of wasm))
begins wasm fit = rw (first_element wasm _ refl ∙ fit.elements, first_segment wasm _ refl ∙ fit.segments) refl

-- a valid module's segments have constant offsets
pub elements_have_offsets : (wasm : Module) → IsValid (module_of wasm) → AllByRecursion HasElementOffset wasm.elements
elements_have_offsets wasm valid =
    all_so (λ (e : Element). IsValidElement (module_of wasm) (element_of e)) HasElementOffset wasm.elements
    (λ e h. h.1) (unmapped (IsValidElement (module_of wasm)) element_of wasm.elements valid.elements)

pub segments_have_offsets : (wasm : Module) → IsValid (module_of wasm) → AllByRecursion HasSegmentOffset wasm.segments
segments_have_offsets wasm valid =
    all_so (λ (s : Segment). IsValidData (module_of wasm) (segment_of s)) HasSegmentOffset wasm.segments
    (λ s h. h.1) (unmapped (IsValidData (module_of wasm)) segment_of wasm.segments valid.segments)

-- a segment that ends past the size
pub ends_past : (a l size b k : ℕ) → false ≡ ends_in a l size → a ≡ b → l ≡ k → not (ends_in b k size) ≡ true
ends_past a l size b k e f g = subst (λ b. not (ends_in b k size) ≡ true) f
    (subst (λ k. not (ends_in a k size) ≡ true) g (ap not (sym e)))

-- an option that is none
pub is_none : (r : Option ℕ) → ((x : ℕ) → r ≡ Some x → ⊥) → r ≡ None
is_none None h = refl
is_none (Some x) h = absurd (h x refl)

-- which modules have an instance
pub ruleset fault_laws = (elements_have_offsets, segments_have_offsets, unfit_element, unfit_segment, is_none)

-- which segment is the first that doesn't fit
pub ruleset unfit_laws = (none_before_first, first_is_here, none_at_all, ends_past)
