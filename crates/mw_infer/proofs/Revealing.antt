-- The kernel items that main sees, shown one after another.
use Rattle.std.proofs.Common.{◌≡◌, ℕ, ◌+◌, ◌<◌, List, map, length, get_or, Some, refl, ap, sym, subst, ◌∙◌, Bor}
use Rattle.std.specs.Prelude.{slice_get, slice_set}
use Rattle.mw_term.specs.Terms.{expression_of, kernel_type_of}
use Rattle.mw_term.specs.Programs.{Definition, kernel, definition_of}
use Rattle.mw_term.specs.declared.program.Item.{Item}
use Rattle.mw_term.specs.declared.program.ItemKind.{ItemKind}
use Rattle.mw_term.specs.declared.program.ItemKind.TheVariants.{Value as ValueItem, Kernel as KernelItem}
use Rattle.mw_term.specs.declared.term.KType.{KType}
use Rattle.mw_term.specs.declared.term.Term.{Term}
use Rattle.mw_types.proofs.Lists.{set_length}
use Rattle.mw_infer.specs.Schemes.{TopScheme}
use Rattle.mw_infer.specs.Progress.{revealed_to}
use Rattle.mw_infer.specs.Views.{top_of, tops_of}
use Rattle.mw_infer.specs.declared.names.TopScheme.{TopScheme as RustTopScheme}
use Rattle.mw_infer.specs.declared.names.TopScheme.TheVariants.{Kernel}
use Rattle.mw_infer.proofs.Stepping.{get-map, reveal-value, reveal-kernel}

abbrev pub defined : List Item → List Definition
defined items = map (λ item. definition_of item.kind) items

-- the names so far, of which the first n kernel items are shown
abbrev pub Shown : List Item → List TopScheme → List RustTopScheme → ℕ → Type 0
Shown items xs ys n = (length ys ≡ length items) × (tops_of ys ≡ revealed_to n (defined items) xs)

pub show-kernel : (items : List Item) (xs : List TopScheme) (ys zs : List RustTopScheme) (n : ℕ) (x : Item) (t : Term)
    (b : Bor KType) → n < length items → x ≡ get_or items n x → (get_or items n x).kind ≡ KernelItem b.now t
    → zs ≡ slice_set ys n (Kernel b) → Shown items xs ys n → Shown items xs zs (n + 1)
show-kernel items xs ys zs n x t b lt e k z h =
    let g : slice_get (defined items) n ≡ Some (kernel (kernel_type_of b.now) (expression_of t)) =
    get-map (λ item. definition_of item.kind) items n x lt e ∙ ap (λ i. Some (definition_of i.kind)) e
    ∙ ap (λ i. Some (definition_of i)) k in (
      ap length z ∙ set_length ys n (Kernel b) ∙ h.0,
      ap (λ v. tops_of v) z ∙ reveal-kernel top_of xs ys n (defined items) (kernel_type_of b.now) (expression_of t)
          (Kernel b) g refl h.1,
    )

show-kind : (items : List Item) (xs : List TopScheme) (ys : List RustTopScheme) (n : ℕ) (i : ItemKind)
    → slice_get (defined items) n ≡ Some (definition_of i) → ((k : KType) (t : Term) → i ≡ KernelItem k t → ⊥)
    → Shown items xs ys n → Shown items xs ys (n + 1)
show-kind items xs ys n (ValueItem t) g f h =
    (h.0, reveal-value xs (tops_of ys) n (defined items) (expression_of t) g h.1)
show-kind items xs ys n (KernelItem k t) g f h = absurd (f k t refl)

pub show-value : (items : List Item) (xs : List TopScheme) (ys zs : List RustTopScheme) (n : ℕ) (x : Item)
    → n < length items → x ≡ get_or items n x → ((k : KType) (t : Term) → (get_or items n x).kind ≡ KernelItem k t → ⊥)
    → zs ≡ ys → Shown items xs ys n → Shown items xs zs (n + 1)
show-value items xs ys zs n x lt e k z h = subst (λ v. Shown items xs v (n + 1)) (sym z)
    (show-kind items xs ys n (get_or items n x).kind (get-map (λ item. definition_of item.kind) items n x lt e
    ∙ ap (λ i. Some (definition_of i.kind)) e) k h)
