use Rattle.std.proofs.Common.{List, [], ◌∷◌, refl}
use Rattle.mw_term.specs.Types.{TermType, int_type, function_type, code_type, closed_type, live}
use Rattle.mw_term.specs.Typing.{TopLevel, let_item, Typed, t_num, t_var, t_let, t_kernel, t_fun, t_fix, t_app, t_bind}
use Rattle.mw_term.specs.Typing.{t_cond, t_prim, t_bracket, t_escape, t_run, t_close}
use Rattle.mw_meaning.specs.Examples.{cube}
use Rattle.mw_meaning.specs.TypingExamples.{power_definition, cube_program}
use Rattle.mw_meaning.proofs.TypedItems.{items_typed}
use Rattle.mw_meaning.proofs.laws.typing_examples.cube_is_typable.Goals as goal

-- int -> <int>'0 -> <int>'0
abbrev power_type : TermType
power_type = function_type int_type (function_type (code_type 0 int_type) (code_type 0 int_type))

power_typed : (tops : List TopLevel) → Typed tops [] live power_definition power_type
power_typed tops =
    t_fix (tt, (tt, tt))
    (t_fun tt (t_cond (t_prim refl (t_var refl) t_num) (t_bracket tt t_num)
    (t_bracket tt
    (t_prim refl (t_escape tt (t_var refl))
    (t_escape tt
    (t_app {s = code_type 0 int_type} (t_app {s = int_type} (t_var refl) (t_prim refl (t_var refl) t_num))
    (t_var refl)))))))

cube_typed : Typed (let_item power_definition ∷ []) [] live cube (closed_type (function_type int_type int_type))
cube_typed = t_close {a = 0} (tt, tt) tt
    (t_bracket (tt, tt)
    (t_fun tt (t_escape tt (t_app {s = code_type 0 int_type} (t_app {s = int_type} (t_let refl (power_typed _)) t_num)
    (t_bracket tt (t_var refl))))))

pub returns : goal.returns
returns c = record {
  definition = refl;
  typable = record {
    items = items_typed cube_program.items ((tt, power_type, power_typed []), (cube_typed, tt));
    body = t_bind (t_run refl (t_kernel refl))
        (t_prim refl (t_app {s = int_type} (t_var refl) t_num) (t_app {s = int_type} (t_var refl) t_num));
  };
}
