-- Types of arguments, compared.
use Rattle.std.proofs.Common.{◌≡◌, Bool, true, false, ◌&&◌, List, [], ◌∷◌, refl, sym, ap, subst, lit<, lit≤}
use Rattle.std.specs.Prelude.{map}
use Rattle.mw_list.proofs.Conjunctions.{both_true}
use Rattle.mw_wasm.specs.declared.values.ValType.{ValType}
use Rattle.mw_wasm.specs.declared.values.ValType.TheVariants.{I32, I64}
use Rattle.mw_wasm.specs.declared.values.Value.{Value}
use Rattle.mw_wasm.specs.NumericTypes.{type_of_value}
use Rattle.mw_wasm.specs.Act.{same_value_type, same_value_types}
use Rattle.mw_wasm.specs.Execution.{execution}
use Rattle.mw_wasm.specs.Instances.{invocation, are_arguments, where_they_fit}
use Rattle.mw_wasm.specs.Validity.{of_end, of_next, of_const_i64}
use Rattle.mw_wasm.specs.Invocations.{ArgumentsAreTaken, OtherArgumentsAreLost, TwoParametersWantTwo}

same_one : (a b : ValType) → same_value_type a b ≡ true → a ≡ b
same_one I32 I32 e = refl
same_one I64 I64 e = refl
same_one I32 I64 e = absurd (cc)
same_one I64 I32 e = absurd (cc)

-- types that compare as the same are the same
pub same_all : (a b : List ValType) → same_value_types a b ≡ true → a ≡ b
same_all [] [] e = refl
same_all [] (u ∷ us) e = absurd (cc)
same_all (t ∷ ts) [] e = absurd (cc)
same_all (t ∷ ts) (u ∷ us) e = let h = both_true (same_value_type t u) (same_value_types ts us) e in
    rw (same_one t u h.0, same_all ts us h.1) refl

all_same : (ts : List ValType) → same_value_types ts ts ≡ true
all_same [] = refl
all_same (I32 ∷ ts) = all_same ts
all_same (I64 ∷ ts) = all_same ts

pub arguments_fit : (params : List ValType) (args : List Value) → map type_of_value args ≡ params
    → are_arguments params args ≡ true
arguments_fit params args e = subst (λ ts. same_value_types params ts ≡ true) (sym e) (all_same params)

-- where the comparison says yes, the arguments have the parameters' types; where they haven't, it says no
others_fail : (params : List ValType) (args : List Value) → ¬ (map type_of_value args ≡ params)
    → are_arguments params args ≡ false
others_fail params args h = decide (are_arguments params args) refl
  where
    decide : (b : Bool) → are_arguments params args ≡ b → are_arguments params args ≡ false
    decide true e = absurd (h (sym (same_all params (map type_of_value args) e)))
    decide false e = e

pub arguments_are_taken : ArgumentsAreTaken
arguments_are_taken m st f args n g t at e =
    rw (at.is_function, at.is_type)
    (ap (λ b. where_they_fit b (execution m n st (invocation t g args))) (arguments_fit t.params args e))

pub other_arguments_are_lost : OtherArgumentsAreLost
other_arguments_are_lost m st f args n g t at h =
    rw (at.is_function, at.is_type)
    (ap (λ b. where_they_fit b (execution m n st (invocation t g args))) (others_fail t.params args h))

pub two_parameters_want_two : TwoParametersWantTwo
unfolding execution
two_parameters_want_two = record {
  valid = record {
    types = (lit≤ tt, tt);
    funcs = (
      (
        record { params = I64 ∷ I32 ∷ []; results = I64 ∷ [] },
        refl,
        of_next [] [] (I64 ∷ []) of_const_i64 refl
            of_end,
      ),
      tt,
    );
    table = tt;
    memory = tt;
    globals = tt;
    exports = (lit< tt, tt);
    names = (tt, tt);
    elements = tt;
    segments = tt;
  };
  is_init = refl;
  with_both = λ st n. refl;
  with_none = λ st n. refl;
  with_one = λ st n. refl;
  other_way_round = λ st n. refl;
  with_three = λ st n. refl;
}
