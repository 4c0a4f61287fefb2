use Rattle.std.proofs.Common.{List, [], ◌∷◌, refl}
use Rattle.mw_term.specs.Terms.{Expression, var, glob, fun, app, pair, prim}
use Rattle.mw_term.specs.declared.term.Primitive.TheVariants.{Add}
use Rattle.mw_term.specs.Programs.{Definition, value, kernel}
use Rattle.mw_term.specs.Types.{TermType, int_type, pair_type, function_type, live}
use Rattle.mw_term.specs.Typing.{TopLevel, let_item, out_of_scope, Typed, t_num, t_var, t_let, t_kernel, t_fun, t_app}
use Rattle.mw_term.specs.Typing.{t_pair, t_snd}
use Rattle.mw_meaning.specs.Examples.{n, int_to_int}
use Rattle.mw_meaning.specs.TypingExamples.{power_definition}
use Rattle.mw_meaning.proofs.TypedItems.{items_typed}
use Rattle.mw_meaning.proofs.laws.typing_examples.items_see_lets_before.Goals as goal

-- fun x -> x, and (1, fun x -> f x)
abbrev f_definition : Expression
f_definition = fun (var 0)

abbrev p_definition : Expression
p_definition = pair (n 1) (fun (app (glob 0) (var 0)))

abbrev items : List Definition
items = value f_definition ∷ value p_definition ∷ []

f_typed : (tops : List TopLevel) → Typed tops [] live f_definition (function_type int_type int_type)
f_typed tops = t_fun tt (t_var refl)

p_typed : (rest : List TopLevel) → Typed (let_item f_definition ∷ rest) [] live p_definition
    (pair_type int_type (function_type int_type int_type))
p_typed rest = t_pair t_num (t_fun tt (t_app {s = int_type} (t_let refl (f_typed _)) (t_var refl)))

later : (t : TermType) → Typed [] [] live (fun (glob 1)) t → ⊥
later _ (t_fun p (t_let e h)) = cc
later _ (t_fun p (t_kernel e)) = cc

kernel_name : (t : TermType) → Typed (let_item power_definition ∷ out_of_scope ∷ []) [] live (glob 1) t → ⊥
kernel_name t (t_let e h) = cc
kernel_name _ (t_kernel e) = cc

pub returns : goal.returns
returns c = record {
  earlier_let = record {
    items = items_typed items ((tt, _, f_typed []), (((tt, tt), _, p_typed []), tt));
    body =
        t_app {s = int_type} (t_snd {s = int_type} (t_let refl (p_typed _))) t_num;
  };
  later_let = λ b body h. let d = h.items 0 (value (fun (glob 1))) refl in later d.1 d.2;
  kernel = λ b body h. kernel_name _ (h.items 2 (kernel int_to_int (glob 1)) refl);
  syntactic_value = λ b body h. (h.items 0 (value (prim Add (n 1) (n 2))) refl).0;
}
