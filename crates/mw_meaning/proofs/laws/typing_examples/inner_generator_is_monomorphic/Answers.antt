use Rattle.std.proofs.Common.{List, []}
use Rattle.mw_term.specs.Terms.{var, bind}
use Rattle.mw_term.specs.Types.{TermType, live}
use Rattle.mw_term.specs.Typing.{TopLevel, Typed, t_num, t_truth, t_var, t_fun, t_app, t_bind, t_pair, t_bracket}
use Rattle.mw_term.specs.Typing.{t_escape, t_close, t_open}
use Rattle.mw_meaning.specs.TypingExamples.{twice, at_two_types, under_two_classifiers}
use Rattle.mw_meaning.proofs.laws.typing_examples.inner_generator_is_monomorphic.Goals as goal

-- its argument would be both <int> and <bool>
one_type : (tops : List TopLevel) (t : TermType) → Typed tops [] live (bind twice (at_two_types (var 0))) t → ⊥
one_type tops t
    (t_bind d (t_bracket p
    (t_pair (t_escape q (t_app (t_var e) (t_bracket r t_num))) (t_escape s (t_app (t_var f) (t_bracket u t_truth)))))) =
    cc

-- its argument's classifier would be that of x, and stand in no entry
one_classifier : (tops : List TopLevel) (t : TermType) → Typed tops [] live (bind twice (under_two_classifiers (var 1)))
    t → ⊥
one_classifier tops t
    (t_bind d (t_bracket p
    (t_fun f (t_pair (t_escape q (t_app (t_var e) (t_bracket r (t_var x))))
    (t_escape s (t_open o (t_close c absent (t_app (t_var y) (t_bracket u t_num))))))))) = absent.0.0 (cc)

pub returns : goal.returns
returns c = record { one_type = one_type; one_classifier = one_classifier }
