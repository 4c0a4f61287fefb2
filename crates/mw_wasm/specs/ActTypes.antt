-- Typing of what an instruction comes to, before the rest of the code, in a typed state.
use Rattle.std.specs.Prelude.{◌≡◌, ℕ, List, [], ◌∷◌, ◌++◌, Option, Some, length, map, slice_get}
use Rattle.mw_wasm.specs.declared.values.ValType.{ValType}
use Rattle.mw_wasm.specs.declared.values.Value.{Value}
use Rattle.mw_wasm.specs.NumericTypes.{type_of_value}
use Rattle.mw_wasm.specs.Syntax.{Instruction, Code, PureModule}
use Rattle.mw_wasm.specs.Store.{Store}
use Rattle.mw_wasm.specs.Act as acts
use Rattle.mw_wasm.specs.Act.{Act}
use Rattle.mw_wasm.specs.Redex.{maybe_next}
use Rattle.mw_wasm.specs.Validity.{CodeHasType}
use Rattle.mw_wasm.specs.StateTypes.{StoreIsTyped, OperandsAreTyped, Continues, context_inside}

module _ (m : PureModule) (labels : List (List ValType)) (ls rs : List ValType) (rest : Code) (outs : List ValType)
  where
    -- the operands that it gives have types from which the rest goes on, after one more instruction where there is one
    pub record GivesTyped (st : Store) (locals vs : List Value) (after : Option Instruction) : Type 0 where
      pub ins : List ValType
      pub store : StoreIsTyped m st
      pub locals_typed : map type_of_value locals ≡ ls
      pub operands : OperandsAreTyped vs ins
      pub code : CodeHasType (context_inside m labels ls rs) (maybe_next after rest) ins outs

    -- the body is typed under its label, and the rest after it
    pub record EntersTyped (n : ℕ) (k body : Code) (vs : List Value) : Type 0 where
      pub takes : List ValType
      pub gives : List ValType
      pub below : List ValType
      pub arity : n ≡ length takes
      pub continues : Continues (context_inside m labels ls rs) takes gives k
      pub operands : OperandsAreTyped vs below
      pub rest_typed : CodeHasType (context_inside m labels ls rs) rest (below ++ gives) outs
      pub body_typed : CodeHasType (context_inside m (takes ∷ labels) ls rs) body [] gives

    -- the body is typed in a frame of its own, and the rest after it
    pub record CallsTyped (n : ℕ) (locals : List Value) (body : Code) (vs : List Value) : Type 0 where
      pub gives : List ValType
      pub below : List ValType
      pub types : List ValType
      pub arity : n ≡ length gives
      pub operands : OperandsAreTyped vs below
      pub rest_typed : CodeHasType (context_inside m labels ls rs) rest (below ++ gives) outs
      pub locals_typed : map type_of_value locals ≡ types
      pub body_typed : CodeHasType (context_inside m (gives ∷ []) types gives) body [] gives

    -- the label is there, and the last operands are those that it takes
    pub record BreaksTyped (l : ℕ) (vs : List Value) : Type 0 where
      pub takes : List ValType
      pub below : List ValType
      pub label : slice_get labels l ≡ Some takes
      pub operands : OperandsAreTyped vs (below ++ takes)

    -- the last operands are the function's results
    pub record ReturnsTyped (vs : List Value) : Type 0 where
      pub below : List ValType
      pub operands : OperandsAreTyped vs (below ++ rs)

    -- an act is typed; it is never stuck
    abbrev pub ActIsTyped : Act → Type 0
    ActIsTyped (acts.gives st locals vs after) = GivesTyped st locals vs after
    ActIsTyped (acts.enters n k body vs) = EntersTyped n k body vs
    ActIsTyped (acts.calls n locals body vs) = CallsTyped n locals body vs
    ActIsTyped (acts.breaks l vs) = BreaksTyped l vs
    ActIsTyped (acts.returns vs) = ReturnsTyped vs
    ActIsTyped (acts.traps t) = Unit {0}
    ActIsTyped acts.stuck = ⊥
