-- What a node adds of its own to the equations and closes that are there, before its parts do.
use Rattle.std.specs.Prelude.{ℕ, List, [], ◌∷◌, slice_get}
use Rattle.mw_term.specs.declared.term.Base.TheVariants.{Int, Bool}
use Rattle.mw_term.specs.Terms.{Expression, num, truth, var, glob, fun, fix, app, bind, cond, pair, fst, snd, prim}
use Rattle.mw_term.specs.Terms.{bracket, escape, run, close, opened, lift, lift_b, done}
use Rattle.mw_term.specs.Types.{Level, live, under}
use Rattle.mw_types.specs.Types.{int_ty, bool_ty, unknown}
use Rattle.mw_types.specs.Equations.{TypeEquation}
use Rattle.mw_infer.specs.declared.output.Output.{Output}
use Rattle.mw_infer.specs.Schemes.{TopScheme}
use Rattle.mw_infer.specs.ItemEquations.{Slot, Close, equation, wrong, unknowns_of_name, classifiers_of_name}
use Rattle.mw_infer.specs.ItemEquations.{name_equations, variable_equations}
use Rattle.mw_infer.specs.ItemEquations.{function_equations, recursion_equations, application_equations, let_equations}
use Rattle.mw_infer.specs.ItemEquations.{condition_equations, pair_equations, first_equations, second_equations}
use Rattle.mw_infer.specs.ItemEquations.{primitive_equations}
use Rattle.mw_infer.specs.ItemEquations.{bracket_equations, escape_equations, run_equations, close_equations}
use Rattle.mw_infer.specs.ItemEquations.{open_equations, lift_equations}
use Rattle.mw_infer.specs.Emitting.{Adds}

-- so many unknowns and classifier unknowns, these equations and these closes
abbrev pub own_unknowns : List TopScheme → Expression → ℕ
own_unknowns tops (glob i) = unknowns_of_name (slice_get tops i)
own_unknowns tops (fun e) = 2
own_unknowns tops (fix e) = 3
own_unknowns tops (app f a) = 2
own_unknowns tops (bind d e) = 3
own_unknowns tops (cond c a b) = 3
own_unknowns tops (pair a b) = 2
own_unknowns tops (fst e) = 2
own_unknowns tops (snd e) = 2
own_unknowns tops (prim p a b) = 2
own_unknowns tops (bracket e) = 1
own_unknowns tops (escape e) = 1
own_unknowns tops (run k e) = 1
own_unknowns tops (close at e) = 2
own_unknowns tops (opened e) = 2
own_unknowns tops (lift e) = 1
own_unknowns tops (lift_b e) = 1
own_unknowns tops _ = 0

abbrev pub own_classifiers : List TopScheme → Expression → ℕ
own_classifiers tops (glob i) = classifiers_of_name (slice_get tops i)
own_classifiers tops (bracket e) = 1
own_classifiers tops (close at e) = 1
own_classifiers tops (opened e) = 1
own_classifiers tops (lift e) = 1
own_classifiers tops (lift_b e) = 1
own_classifiers tops _ = 0

abbrev pub own_equations : List TopScheme → ℕ → ℕ → ℕ → List Slot → Level → Expression → List TypeEquation
own_equations tops u o c g m (num n) = equation (unknown u) int_ty ∷ []
own_equations tops u o c g m (truth b) = equation (unknown u) bool_ty ∷ []
own_equations tops u o c g m (var i) = variable_equations u m (slice_get g i)
own_equations tops u o c g m (glob i) = name_equations u o c m (slice_get tops i)
own_equations tops u o c g m (fun e) = function_equations u o
own_equations tops u o c g m (fix e) = recursion_equations u o
own_equations tops u o c g m (app f a) = application_equations u o
own_equations tops u o c g m (bind d e) = let_equations u o
own_equations tops u o c g m (cond p a b) = condition_equations u o
own_equations tops u o c g m (pair a b) = pair_equations u o
own_equations tops u o c g m (fst e) = first_equations u o
own_equations tops u o c g m (snd e) = second_equations u o
own_equations tops u o c g m (prim p a b) = primitive_equations u o p
own_equations tops u o c g m (bracket e) = bracket_equations u o c
own_equations tops u o c g live (escape e) = wrong
own_equations tops u o c g (under a) (escape e) = escape_equations u o a
own_equations tops u o c g m (run k e) = run_equations u o k
own_equations tops u o c g m (close at e) = close_equations u o c
own_equations tops u o c g m (opened e) = open_equations u o c
own_equations tops u o c g m (lift e) = lift_equations u o c Int
own_equations tops u o c g m (lift_b e) = lift_equations u o c Bool
own_equations tops u o c g m (done v) = wrong

abbrev pub own_closes : ℕ → List Slot → Expression → List Close
own_closes c g (close at e) = record { at = at; classifier = c; scope = g } ∷ []
own_closes c g _ = []

abbrev pub AddsOwn : Output → Output → List TopScheme → ℕ → List Slot → Level → Expression → Type 0
AddsOwn old new tops u g m e = Adds old new (own_unknowns tops e) (own_classifiers tops e)
    (own_equations tops u old.unknowns old.classifiers g m e) (own_closes old.classifiers g e)
