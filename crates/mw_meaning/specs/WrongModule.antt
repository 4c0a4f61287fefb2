-- A module whose `init` has parameters stands for no code.
use Rattle.std.specs.Prelude.{pos}
use Rattle.mw_term.specs.Terms.{num, base, of_ground}
use Rattle.mw_term.specs.declared.term.Base.TheVariants.{Int}
use Rattle.mw_wasm.specs.Invocations.{seven_of_two}
use Rattle.mw_meaning.specs.StandingFor.{StandsFor}

-- although its init answers 7 where it has two arguments
abbrev pub TwoParametersStandForNothing : Type 0
TwoParametersStandForNothing = ¬ StandsFor seven_of_two (num (pos 7)) (of_ground (base Int))
