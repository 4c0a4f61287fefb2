-- A later item, and main, see at least the names that an item sees.
use Rattle.std.proofs.Common.{◌≡◌, ℕ, zero, suc, ◌<◌, List, [], ◌∷◌, Some, ap, arith}
use Rattle.std.specs.Prelude.{slice_get}
use Rattle.mw_term.specs.Terms.{Expression, KernelType}
use Rattle.mw_term.specs.Programs.{Definition, value, kernel}
use Rattle.mw_term.specs.Typing.{TopLevel, let_item, kernel_item, out_of_scope}
use Rattle.mw_term.specs.Typable.{seen_by_item, seen_by_main}
use Rattle.mw_infer.proofs.Extended.{Extends}

extends-none : (names : List TopLevel) → Extends [] names
extends-none names = record { lets = λ i e h. absurd (cc); kernels = λ i k h. absurd (cc) }

extends-next : (x y : TopLevel) (tops names : List TopLevel) → ((e : Expression) → x ≡ let_item e → y ≡ let_item e)
    → ((k : KernelType) → x ≡ kernel_item k → y ≡ kernel_item k) → Extends tops names
    → Extends (x ∷ tops) (y ∷ names)
extends-next x y tops names f g h = record { lets = lets; kernels = kernels }
  where
    lets : (i : ℕ) (e : Expression) → slice_get (x ∷ tops) i ≡ Some (let_item e)
        → slice_get (y ∷ names) i ≡ Some (let_item e)
    lets zero e p = let q : x ≡ let_item e = cc in ap (λ z. Some z) (f e q)
    lets (suc i) e p = h.lets i e p

    kernels : (i : ℕ) (k : KernelType) → slice_get (x ∷ tops) i ≡ Some (kernel_item k)
        → slice_get (y ∷ names) i ≡ Some (kernel_item k)
    kernels zero k p = let q : x ≡ kernel_item k = cc in ap (λ z. Some z) (g k q)
    kernels (suc i) k p = h.kernels i k p

pub item_sees : (items : List Definition) (j i : ℕ) → j < i → Extends (seen_by_item items j) (seen_by_item items i)
item_sees [] j i lt = extends-none []
item_sees (d ∷ items) zero i lt = extends-none _
item_sees (d ∷ items) (suc j) zero lt = absurd (omega arith)
item_sees (value e ∷ items) (suc j) (suc i) lt =
    extends-next (let_item e) (let_item e) _ _ (λ f p. p) (λ k p. p) (item_sees items j i (omega arith))
item_sees (kernel l e ∷ items) (suc j) (suc i) lt =
    extends-next out_of_scope out_of_scope _ _ (λ f p. p) (λ k p. p) (item_sees items j i (omega arith))

pub main_sees : (items : List Definition) (j : ℕ) → Extends (seen_by_item items j) (seen_by_main items)
main_sees [] j = extends-none []
main_sees (d ∷ items) zero = extends-none _
main_sees (value e ∷ items) (suc j) =
    extends-next (let_item e) (let_item e) _ _ (λ f p. p) (λ k p. p) (main_sees items j)
main_sees (kernel l e ∷ items) (suc j) =
    extends-next out_of_scope (kernel_item l) _ _ (λ f p. absurd (cc)) (λ k p. absurd (cc)) (main_sees items j)
