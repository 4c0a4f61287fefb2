-- Operands and their types.
use Rattle.std.proofs.Common.{◌≡◌, ℕ, zero, suc, ◌+◌, ◌≤◌, List, [], ◌∷◌, ◌++◌, length, take, drop, refl, sym, ap, ◌∙◌}
use Rattle.std.proofs.Common.{subst, Some, arith}
use Rattle.std.specs.Prelude.{map, reverse, slice_get, slice_set}
use Rattle.std.proofs.lemmas.List.{reverse-append, map-append, append-nil, length-reverse, take-map, length-map}
use Rattle.std.proofs.Math.Seq.{take-append_seam, drop-append_seam}
use Rattle.mw_wasm.specs.declared.values.ValType.{ValType}
use Rattle.mw_wasm.specs.declared.values.Value.{Value}
use Rattle.mw_wasm.specs.NumericTypes.{type_of_value}
use Rattle.mw_wasm.specs.StateTypes.{OperandsAreTyped}

pub types_above : (vs : List Value) (below taken : List ValType) → OperandsAreTyped vs (below ++ taken)
    → map type_of_value vs ≡ reverse taken ++ reverse below
types_above vs below taken o = o.types ∙ reverse-append below taken

pub operands_below : (vs : List Value) (below : List ValType) → map type_of_value vs ≡ reverse below
    → OperandsAreTyped vs (below ++ [])
operands_below vs below e = record { types = e ∙ ap reverse (sym (append-nil below)) }

pub operand_pushed : (v : Value) (vs : List Value) (below : List ValType) (t : ValType) → type_of_value v ≡ t
    → map type_of_value vs ≡ reverse below → OperandsAreTyped (v ∷ vs) (below ++ t ∷ [])
operand_pushed v vs below t e f = record { types = rw (reverse-append below (t ∷ []), e, f) refl }

pub operands_pushed : (us vs : List Value) (gives below : List ValType) → OperandsAreTyped us gives
    → OperandsAreTyped vs below → OperandsAreTyped (us ++ vs) (below ++ gives)
operands_pushed us vs gives below o p =
    record {
      types = map-append type_of_value us vs
          ∙ (ap (λ ts. ts ++ map type_of_value vs) o.types
          ∙ (ap (λ ts. reverse gives ++ ts) p.types ∙ sym (reverse-append below gives)));
    }

pub no_operands : OperandsAreTyped [] []
no_operands = record { types = refl }

-- the last operands, as many as there are types
pub last_operands : (n : ℕ) (vs : List Value) (below takes : List ValType) → n ≡ length takes
    → OperandsAreTyped vs (below ++ takes) → OperandsAreTyped (take n vs) takes
last_operands n vs below takes e o = record {
  types = sym (take-map type_of_value n vs)
      ∙ (ap (λ ts. take n ts) (types_above vs below takes o)
      ∙ (ap (λ k. take k (reverse takes ++ reverse below)) (e ∙ sym (length-reverse takes))
      ∙ take-append_seam (reverse takes) (reverse below)));
}

pub drop-map : (f : Value → ValType) (n : ℕ) (vs : List Value) → drop n (map f vs) ≡ map f (drop n vs)
drop-map f zero vs = refl
drop-map f (suc n) [] = refl
drop-map f (suc n) (v ∷ vs) = drop-map f n vs

pub types_taken : (k : ℕ) (vs : List Value) (params : List ValType) (ts : List ValType) → k ≡ length params
    → map type_of_value vs ≡ reverse params ++ ts → map type_of_value (take k vs) ≡ reverse params
types_taken k vs params ts e o = sym (take-map type_of_value k vs)
    ∙ (ap (λ us. take k us) o ∙ (ap (λ k. take k (reverse params ++ ts)) (e ∙ sym (length-reverse params))
    ∙ take-append_seam (reverse params) ts))

pub types_dropped : (k : ℕ) (vs : List Value) (params : List ValType) (ts : List ValType) → k ≡ length params
    → map type_of_value vs ≡ reverse params ++ ts → map type_of_value (drop k vs) ≡ ts
types_dropped k vs params ts e o = sym (drop-map type_of_value k vs)
    ∙ (ap (λ us. drop k us) o ∙ (ap (λ k. drop k (reverse params ++ ts)) (e ∙ sym (length-reverse params))
    ∙ drop-append_seam (reverse params) ts))

map-reverse : {A B : Type 0} (f : A → B) (xs : List A) → map f (reverse xs) ≡ reverse (map f xs)
map-reverse f [] = refl
map-reverse f (x ∷ xs) = ap (map f) (reverse-append (x ∷ []) xs)
    ∙ (map-append f (reverse xs) (x ∷ [])
    ∙ (ap (λ ys. ys ++ f x ∷ []) (map-reverse f xs) ∙ sym (reverse-append (f x ∷ []) (map f xs))))

reverse-reverse : {A : Type 0} (xs : List A) → reverse (reverse xs) ≡ xs
reverse-reverse [] = refl
reverse-reverse (x ∷ xs) = ap reverse (reverse-append (x ∷ []) xs)
    ∙ (reverse-append (reverse xs) (x ∷ []) ∙ ap (λ ys. x ∷ ys) (reverse-reverse xs))

pub arguments_typed : (vs : List Value) (params : List ValType) → map type_of_value vs ≡ reverse params
    → map type_of_value (reverse vs) ≡ params
arguments_typed vs params e = map-reverse type_of_value vs ∙ (ap reverse e ∙ reverse-reverse params)

lengths : (xs ys : List ValType) → length (xs ++ ys) ≡ length xs + length ys
lengths [] ys = omega arith
lengths (x ∷ xs) ys = omega (arith, lengths xs ys)

pub enough : (vs : List Value) (params ts : List ValType) → map type_of_value vs ≡ reverse params ++ ts → length params
    ≤ length vs
enough vs params ts e =
    let long : length params + length ts ≡ length vs = sym (ap (λ k. k + length ts) (length-reverse params))
    ∙ (sym (lengths (reverse params) ts) ∙ (sym (ap length e) ∙ length-map vs type_of_value)) in
    omega arith

-- a place of a list of values, where that of its types has one
pub record There (vs : List Value) (x : ℕ) (t : ValType) : Type 0 where
  pub value : Value
  pub is : slice_get vs x ≡ Some value
  pub typed : type_of_value value ≡ t

pub there : (vs : List Value) (ts : List ValType) (x : ℕ) (t : ValType) → map type_of_value vs ≡ ts → slice_get ts x
    ≡ Some t → There vs x t
there vs ts x t e f = at_place vs x (subst (λ ts. slice_get ts x ≡ Some t) (sym e) f)
  where
    at_place : (vs : List Value) (x : ℕ) → slice_get (map type_of_value vs) x ≡ Some t → There vs x t
    at_place [] x e = absurd (cc)
    at_place (v ∷ vs) zero e = record { value = v; is = refl; typed = same e }
      where
        same : {s : ValType} → Some s ≡ Some t → s ≡ t
        same e = cc
    at_place (v ∷ vs) (suc x) e = let h = at_place vs x e in record { value = h.value; is = h.is; typed = h.typed }

-- a value of the same type in its place
pub set_typed : (vs : List Value) (ts : List ValType) (x : ℕ) (v : Value) (t : ValType) → map type_of_value vs ≡ ts
    → slice_get ts x ≡ Some t → type_of_value v ≡ t → map type_of_value (slice_set vs x v) ≡ ts
set_typed vs ts x v t e f g = placed vs x (subst (λ ts. slice_get ts x ≡ Some t) (sym e) f) ∙ e
  where
    same : {s : ValType} → Some s ≡ Some t → t ≡ s
    same e = cc

    placed : (vs : List Value) (x : ℕ) → slice_get (map type_of_value vs) x ≡ Some t
        → map type_of_value (slice_set vs x v) ≡ map type_of_value vs
    placed [] x e = refl
    placed (u ∷ vs) zero e = ap (λ s. s ∷ map type_of_value vs) (g ∙ same e)
    placed (u ∷ vs) (suc x) e = ap (λ ts. type_of_value u ∷ ts) (placed vs x e)
