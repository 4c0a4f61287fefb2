use Rattle.std.proofs.Common.{ℕ, List, [], refl}
use Rattle.mw_term.specs.Programs.{kernel}
use Rattle.mw_term.specs.Types.{TermType, live}
use Rattle.mw_term.specs.Typing.{TopLevel, Typed, t_var, t_fun, t_bracket, t_escape, t_close, t_open}
use Rattle.mw_meaning.specs.Examples.{int_to_int}
use Rattle.mw_meaning.specs.TypingExamples.{leak}
use Rattle.mw_meaning.proofs.laws.typing_examples.leak_has_no_type.Goals as goal

refuted : (at inner : ℕ) (tops : List TopLevel) (t : TermType) → Typed tops [] live (leak at inner) t → ⊥
refuted at inner tops t
    (t_close p q (t_bracket r (t_fun f (t_escape x (t_open y (t_close z absent (t_bracket w (t_var e)))))))) =
    absent.0.0 (cc)

pub returns : goal.returns
returns c = record {
  term = refuted;
  item = λ at inner b body h. refuted at inner [] _ (h.items 0 (kernel int_to_int (leak at inner)) refl);
}
