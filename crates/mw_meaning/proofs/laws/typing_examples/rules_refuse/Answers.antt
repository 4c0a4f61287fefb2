use Rattle.std.proofs.Common.{[], true, false}
use Rattle.mw_term.specs.Terms.{base, to, truth, var, glob, fun, fix, app, bind, cond, prim, bracket, escape, run}
use Rattle.mw_term.specs.Terms.{close, opened, lift, lift_b}
use Rattle.mw_term.specs.declared.term.Base.TheVariants.{Int, Bool}
use Rattle.mw_term.specs.declared.term.Primitive.TheVariants.{Add, Lt}
use Rattle.mw_term.specs.Types.{TermType, live}
use Rattle.mw_term.specs.Typing.{Typed, t_num, t_truth, t_var, t_let, t_kernel, t_fun, t_fix, t_app, t_bind, t_cond}
use Rattle.mw_term.specs.Typing.{t_fst, t_prim, t_bracket, t_escape, t_run, t_open, t_lift, t_lift_b}
use Rattle.mw_term.specs.Typable.{seen_by_main}
use Rattle.mw_meaning.specs.Examples.{n}
use Rattle.mw_meaning.specs.TypingExamples.{HasNoType, cube_program}
use Rattle.mw_meaning.proofs.laws.typing_examples.rules_refuse.Goals as goal

kernel_name : (t : TermType) → Typed (seen_by_main cube_program.items) [] live
    (run (to (base Int) (base Bool)) (glob 1)) t → ⊥
kernel_name t (t_run e (t_let q h)) = cc
kernel_name t (t_run e (t_kernel q)) = cc

function : HasNoType (fun (cond (var 0) (prim Add (var 0) (n 1)) (n 2)))
function tops _ (t_fun p (t_cond (t_var x) (t_prim e (t_var y) h) z)) = cc

recursion : HasNoType (fix (cond (app (var 1) (var 0)) (n 1) (n 2)))
recursion tops _ (t_fix p (t_cond (t_app (t_var x) y) t_num z)) = cc

inner_let : HasNoType (bind (fun (var 0)) (cond (app (var 0) (truth true)) (app (var 0) (n 1)) (n 2)))
inner_let tops t (t_bind d (t_cond (t_app (t_var x) t_truth) (t_app (t_var y) t_num) z)) = cc

condition : HasNoType (cond (prim Lt (n 1) (n 2)) (n 3) (truth false))
condition tops t (t_cond x t_num z) = elim z [ ]

escaped : HasNoType (bracket (escape (close 0 (bracket (n 1)))))
escaped tops t (t_bracket p (t_escape q x)) = elim x [ ]

opened_open : HasNoType (opened (bracket (n 1)))
opened_open tops t (t_open p x) = elim x [ ]

lifted : HasNoType (lift (truth true))
lifted tops t (t_lift x) = elim x [ ]

lifted_b : HasNoType (lift_b (n 1))
lifted_b tops t (t_lift_b x) = elim x [ ]

pub returns : goal.returns
returns c = record {
  number = λ tops t h. elim h [ t_cond x y z ↦ elim x [ ] ];
  kernel_name = kernel_name;
  function = function;
  recursion = recursion;
  application = λ tops t h. elim h [ t_app x y ↦ elim x [ ] ];
  inner_let = inner_let;
  condition = condition;
  pair = λ tops t h. elim h [ t_fst x ↦ elim x [ ] ];
  primitive = (λ tops t h. elim h [ t_prim e x y ↦ elim y [ ] ], λ tops t h. elim h [ t_prim e x y ↦ elim x [ ] ]);
  escape = escaped;
  run = λ tops t h. elim h [ t_run e x ↦ elim x [ ] ];
  opened = opened_open;
  lift = (lifted, lifted_b);
}
