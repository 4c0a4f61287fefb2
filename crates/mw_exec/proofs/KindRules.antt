-- Lists of value types, compared place by place.
use Rattle.std.proofs.Common.{◌≡◌, ℕ, suc, Bool, true, false, List, [], ◌∷◌, length, drop, refl, sym, ap, ◌∙◌}
use Rattle.std.specs.Prelude.{◌&&◌}
use Rattle.mw_wasm.specs.declared.values.ValType.{ValType}
use Rattle.mw_wasm.specs.Act.{same_value_type, same_value_types}

-- the places before i have the same types
pub record Comparing (i : ℕ) (a b : List ValType) : Type 0 where
  pub rest : same_value_types a b ≡ same_value_types (drop i a) (drop i b)

no_and : (b : Bool) → b && false ≡ false
no_and true = refl
no_and false = refl

pub lengths_differ : (a b : List ValType) → (length a ≡ length b → ⊥) → false ≡ same_value_types a b
lengths_differ [] [] h = absurd (h refl)
lengths_differ [] (y ∷ ys) h = refl
lengths_differ (x ∷ xs) [] h = refl
lengths_differ (x ∷ xs) (y ∷ ys) h =
    sym (ap (λ r. same_value_type x y && r) (sym (lengths_differ xs ys (λ e. h (ap suc e))))
    ∙ no_and (same_value_type x y))
