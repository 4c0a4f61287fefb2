use Rattle.std.proofs.Common.{refl, arith}
use Rattle.mw_term.specs.Types.{int_type, function_type}
use Rattle.mw_term.specs.Typing.{t_num, t_truth, t_var, t_fun, t_fix, t_app, t_bind, t_cond, t_pair, t_fst, t_prim}
use Rattle.mw_term.specs.Typing.{t_bracket, t_escape, t_run, t_close, t_open, t_lift, t_lift_b}
use Rattle.mw_meaning.proofs.laws.typing_examples.rules_accept.Goals as goal

pub returns : goal.returns
returns c = record {
  number = t_num;
  variable = t_bracket (tt, tt) (t_fun tt (t_var refl));
  function = t_fun tt (t_prim refl (t_var refl) t_num);
  recursion = t_bind {s = function_type int_type int_type}
      (t_fix (tt, tt)
      (t_cond (t_prim refl (t_var refl) t_num) t_num
      (t_app {s = int_type} (t_var refl) (t_prim refl (t_var refl) t_num)))) (t_var refl);
  application = t_app {s = int_type} (t_fun tt (t_var refl)) t_num;
  inner_let = t_bind {s = function_type int_type int_type} (t_fun tt (t_var refl))
      (t_app {s = int_type} (t_var refl) t_num);
  condition = t_cond (t_prim refl t_num t_num) t_num t_num;
  pair = t_fst (t_pair t_num t_truth);
  primitive = t_prim refl (t_prim refl t_num t_num) t_num;
  bracket = t_bracket tt (t_prim refl t_num t_num);
  escape = t_bracket tt (t_prim refl t_num (t_escape tt (t_lift t_num)));
  run = t_run refl (t_close {a = 0} tt tt (t_bracket tt t_num));
  closed = t_close {a = 0} (tt, tt) tt (t_bracket (tt, tt) (t_fun tt (t_var refl)));
  opened = t_bracket (tt, tt)
      (t_fun tt (t_prim refl (t_var refl)
      (t_escape tt (t_open tt (t_close {a = 1} tt ((omega arith, tt), tt) (t_bracket tt t_num))))));
  lift = (t_lift (t_prim refl t_num t_num), t_lift_b t_truth);
}
