-- A fact of every act that an instruction can come to holds of the act that it comes to.
use Rattle.std.proofs.Common.{ℕ, Bool, true, false, List, [], ◌∷◌, Option, Some, None, Result, Ok, Err}
use Rattle.mw_wasm.specs.declared.values.Value.{Value}
use Rattle.mw_wasm.specs.declared.values.Value.TheVariants.{I32, I64}
use Rattle.mw_wasm.specs.declared.values.ValType.{ValType}
use Rattle.mw_wasm.specs.declared.values.ValType.TheVariants as type
use Rattle.mw_wasm.specs.declared.values.Trap.{Trap}
use Rattle.mw_wasm.specs.Act.{Act, traps, stuck, on_value, on_i32, on_type, on_some, where_true, on_result, on_operands}

module _ (P : Act → Type 0) where
  pub for_some : {A : Type 0} (o : Option A) (other : Act) (go : A → Act) → P other → ((x : A) → P (go x))
      → P (on_some o other go)
  for_some None other go p h = p
  for_some (Some x) other go p h = h x

  pub for_true : (b : Bool) (go other : Act) → P go → P other → P (where_true b go other)
  for_true true go other p q = p
  for_true false go other p q = q

  pub for_result : (r : Result Value Trap) (go : Value → Act) → ((t : Trap) → P (traps t)) → ((v : Value) → P (go v))
      → P (on_result r go)
  for_result (Ok v) go p h = h v
  for_result (Err t) go p h = p t

  module _ (s : P stuck) where
    pub for_value : (vs : List Value) (go : Value → List Value → Act) → ((v : Value) (us : List Value) → P (go v us))
        → P (on_value vs go)
    for_value [] go h = s
    for_value (v ∷ vs) go h = h v vs

    pub for_i32 : (vs : List Value) (go : ℕ → List Value → Act) → ((n : ℕ) (us : List Value) → P (go n us))
        → P (on_i32 vs go)
    for_i32 [] go h = s
    for_i32 (I32 n ∷ vs) go h = h n vs
    for_i32 (I64 n ∷ vs) go h = s

    pub for_type : (t : ValType) (vs : List Value) (go : Value → List Value → Act)
        → ((v : Value) (us : List Value) → P (go v us)) → P (on_type t vs go)
    for_type type.I32 [] go h = s
    for_type type.I64 [] go h = s
    for_type type.I32 (I32 n ∷ vs) go h = h (I32 n) vs
    for_type type.I32 (I64 n ∷ vs) go h = s
    for_type type.I64 (I32 n ∷ vs) go h = s
    for_type type.I64 (I64 n ∷ vs) go h = h (I64 n) vs

    pub for_operands : (ts : List ValType) (vs : List Value) (go : Value → Value → List Value → Act)
        → ((x y : Value) (us : List Value) → P (go x y us)) → P (on_operands ts vs go)
    for_operands [] vs go h = s
    for_operands (t ∷ []) vs go h = for_type t vs _ λ x us. h x x us
    for_operands (t ∷ u ∷ []) vs go h = for_type u vs _ λ y us. for_type t us _ λ x us. h x y us
    for_operands (t ∷ u ∷ x ∷ ts) vs go h = s
