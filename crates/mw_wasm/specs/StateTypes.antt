-- Typing of stores, frames and configurations (standard: Appendix, Soundness). A configuration is a state taken apart:
-- the code in hand, and the labels and frames round it.
use Rattle.std.specs.Prelude.{◌≡◌, ℕ, ◌<◌, List, [], ◌∷◌, ◌++◌, Option, Some, None, length, map, reverse}
use Rattle.std.specs.List.{AllByRecursion}
use Rattle.mw_wasm.specs.declared.values.ValType.{ValType}
use Rattle.mw_wasm.specs.declared.values.Value.{Value}
use Rattle.mw_wasm.specs.NumericTypes.{type_of_value}
use Rattle.mw_wasm.specs.Syntax.{Code, end, next, loop, Global, PureModule}
use Rattle.mw_wasm.specs.Store.{Store}
use Rattle.mw_wasm.specs.Redex.{Around, in_label, in_frame, Config}
use Rattle.mw_wasm.specs.Validity.{Context, context_of, HasType, CodeHasType}

-- an element of the table is no function, or one that is there
abbrev pub IsElementOf : PureModule → Option ℕ → Type 0
IsElementOf m None = Unit {0}
IsElementOf m (Some f) = f < length m.funcs

-- store typing: the globals have their types, and the table names functions that are there
pub record StoreIsTyped (m : PureModule) (st : Store) : Type 0 where
  pub globals : map type_of_value st.globals ≡ map (λ (g : Global). g.kind) m.globals
  pub table : AllByRecursion (IsElementOf m) st.table

-- operands, the last first, have these types, the last one's last
pub record OperandsAreTyped (vs : List Value) (ts : List ValType) : Type 0 where
  pub types : map type_of_value vs ≡ reverse ts

-- the context in a function with locals of these types, inside these labels, with these results
abbrev pub context_inside : PureModule → List (List ValType) → List ValType → List ValType → Context
context_inside m labels ls rs = record (context_of m) { locals = ls; labels = labels; results = rs }

-- where a branch that takes values of the first types goes on, in code that gives the second: after the label, or at
-- its loop
pub data Continues (c : Context) : List ValType → List ValType → Code → Type 0 where
  behind : {ts : List ValType} → Continues c ts ts end
  again : {t : _} {body : Code} {gives : List ValType} → HasType c (loop t body) [] gives
      → Continues c [] gives (next (loop t body) end)

-- label typing: a label that takes and gives values of these types, after the operands vs and before the rest, which
-- gives outs
pub record LabelIsTyped (c : Context) (n : ℕ) (k : Code) (vs : List Value) (rest : Code)
    (takes gives outs : List ValType) : Type 0 where
  pub arity : n ≡ length takes
  pub continues : Continues c takes gives k
  pub below : List ValType
  pub operands : OperandsAreTyped vs below
  pub rest_typed : CodeHasType c rest (below ++ gives) outs

-- frame typing: a frame that gives values of these types, after the operands us of a function with the locals ks
pub record FrameIsTyped (c : Context) (n : ℕ) (ks us : List Value) (rest : Code) (gives outs : List ValType) : Type 0
  where
    pub arity : n ≡ length gives
    pub locals : map type_of_value ks ≡ c.locals
    pub below : List ValType
    pub operands : OperandsAreTyped us below
    pub rest_typed : CodeHasType c rest (below ++ gives) outs

-- the outermost frame, which is that of the invocation
pub record OutermostFrameIsTyped (n : ℕ) (ks us : List Value) (rest : Code) (gives final : List ValType) : Type 0 where
  pub arity : n ≡ length gives
  pub no_locals : ks ≡ []
  pub no_operands : us ≡ []
  pub no_rest : rest ≡ end
  pub is_final : final ≡ gives

-- The labels and frames round code with these labels, locals' types and results, where the code gives values of the
-- types gives and the whole ends with values of the types final.
abbrev pub SurroundingsAreTyped : PureModule → List Around → List (List ValType) → List ValType → List ValType
    → List ValType → List ValType → Type 0
SurroundingsAreTyped m [] labels ls rs gives final = ⊥
SurroundingsAreTyped m (in_label n k vs rest ∷ around) labels ls rs gives final =
    (takes : List ValType) × (others : List (List ValType)) × (outs : List ValType)
    × (labels ≡ takes ∷ others)
    × LabelIsTyped (context_inside m others ls rs) n k vs rest takes gives outs
    × SurroundingsAreTyped m around others ls rs outs final
SurroundingsAreTyped m (in_frame n ks us rest ∷ []) labels ls rs gives final = (labels ≡ []) × (gives ≡ rs)
    × OutermostFrameIsTyped n ks us rest gives final
SurroundingsAreTyped m (in_frame n ks us rest ∷ a ∷ around) labels ls rs gives final =
    (others : List (List ValType)) × (ks' : List ValType) × (rs' : List ValType) × (outs : List ValType)
    × (labels ≡ []) × (gives ≡ rs)
    × FrameIsTyped (context_inside m others ks' rs') n ks us rest gives outs
    × SurroundingsAreTyped m (a ∷ around) others ks' rs' outs final

-- thread typing: code in hand, in a function
pub record ThreadIsTyped (m : PureModule) (final : List ValType) (c : Config) : Type 0 where
  pub labels : List (List ValType)
  pub ls : List ValType
  pub rs : List ValType
  pub ins : List ValType
  pub outs : List ValType
  pub store : StoreIsTyped m c.store
  pub locals : map type_of_value c.locals ≡ ls
  pub operands : OperandsAreTyped c.vs ins
  pub code : CodeHasType (context_inside m labels ls rs) c.code ins outs
  pub around : SurroundingsAreTyped m c.around labels ls rs outs final

-- all is done, and the values are those that the invocation gave
pub record FinishedIsTyped (m : PureModule) (final : List ValType) (c : Config) : Type 0 where
  pub store : StoreIsTyped m c.store
  pub no_code : c.code ≡ end
  pub no_around : c.around ≡ []
  pub operands : OperandsAreTyped c.vs final

-- configuration typing: a state of the module that ends, where it does, with values of these types
pub data ConfigIsTyped (m : PureModule) (final : List ValType) (c : Config) : Type 0 where
  thread : ThreadIsTyped m final c → ConfigIsTyped m final c
  finished : FinishedIsTyped m final c → ConfigIsTyped m final c
