use Rattle.std.proofs.Common.{List, []}
use Rattle.mw_term.specs.Terms.{bracket}
use Rattle.mw_term.specs.Types.{TermType, live}
use Rattle.mw_term.specs.Typing.{TopLevel, Typed, t_bracket}
use Rattle.mw_term.proofs.TypesFormed.{Typed-formed}
use Rattle.mw_meaning.specs.Examples.{n}
use Rattle.mw_meaning.proofs.laws.typing_examples.code_holds_no_code.Goals as goal

refuted : (tops : List TopLevel) (t : TermType) → Typed tops [] live (bracket (bracket (n 1))) t → ⊥
refuted tops t (t_bracket p h) = elim h [ ]

pub returns : goal.returns
returns c = record { bracket_in_bracket = refuted; code_of_code = λ e a b t tops h. Typed-formed tt h }
