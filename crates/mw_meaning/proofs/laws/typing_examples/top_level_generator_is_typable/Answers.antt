use Rattle.std.proofs.Common.{ℕ, List, [], ◌∷◌, refl, arith}
use Rattle.mw_term.specs.Terms.{glob}
use Rattle.mw_term.specs.Types.{TermType, int_type, bool_type, pair_type, function_type, code_type, live, value, quoted}
use Rattle.mw_term.specs.Types.{IsPlain, IsAbsent}
use Rattle.mw_term.specs.Typing.{TopLevel, let_item, Typed, t_num, t_truth, t_var, t_let, t_fun, t_app, t_bind, t_pair}
use Rattle.mw_term.specs.Typing.{t_bracket, t_escape, t_close, t_open}
use Rattle.mw_meaning.specs.TypingExamples.{twice, at_two_types, under_two_classifiers, top_level_program}
use Rattle.mw_meaning.proofs.TypedItems.{items_typed}
use Rattle.mw_meaning.proofs.laws.typing_examples.top_level_generator_is_typable.Goals as goal

-- <t>'a -> <t * t>'a, for each a and each t that holds no code type
twice_typed : (tops : List TopLevel) (a : ℕ) (t : TermType) → IsPlain t
    → Typed tops [] live twice (function_type (code_type a t) (code_type a (pair_type t t)))
twice_typed tops a t p = t_fun p (t_bracket (p, p) (t_pair (t_escape p (t_var refl)) (t_escape p (t_var refl))))

abbrev tops : List TopLevel
tops = let_item twice ∷ []

abbrev two_types_type : TermType
two_types_type = code_type 0 (pair_type (pair_type int_type int_type) (pair_type bool_type bool_type))

two_types : Typed tops [] live (at_two_types (glob 0)) two_types_type
two_types =
    t_bracket ((tt, tt), (tt, tt))
    (t_pair (t_escape (tt, tt) (t_app {s = code_type 0 int_type} (t_let refl (twice_typed tops 0 int_type tt))
    (t_bracket tt t_num)))
    (t_escape (tt, tt) (t_app {s = code_type 0 bool_type} (t_let refl (twice_typed tops 0 bool_type tt))
    (t_bracket tt t_truth))))

-- x has the classifier 0, and what is closed has 1
two_classifiers : Typed tops (value two_types_type ∷ []) live (under_two_classifiers (glob 0))
    (code_type 0 (function_type int_type (pair_type (pair_type int_type int_type) (pair_type int_type int_type))))
two_classifiers =
    t_bracket (tt, ((tt, tt), (tt, tt)))
    (t_fun tt (t_pair
    (t_escape (tt, tt) (t_app {s = code_type 0 int_type} (t_let refl (twice_typed tops 0 int_type tt))
    (t_bracket tt (t_var refl))))
    (t_escape (tt, tt)
    (t_open (tt, tt)
    (t_close {a = 1} (tt, tt) absent (t_app {s = code_type 1 int_type} (t_let refl (twice_typed tops 1 int_type tt))
    (t_bracket tt t_num)))))))
  where
    absent : IsAbsent 1 (quoted 0 int_type ∷ value two_types_type ∷ [])
    absent = ((omega arith, tt), ((omega arith, ((tt, tt), (tt, tt))), tt))

pub returns : goal.returns
returns c = record {
  items = items_typed top_level_program.items ((tt, _, twice_typed [] 0 int_type tt), tt);
  body =
      t_bind two_types (t_bind two_classifiers t_num);
}
