-- What the emission of a term's equations adds to those that are there.
use Rattle.std.specs.Prelude.{ℕ, ◌≡◌, ◌+◌, ◌^◌, ◌≤◌, List, [], ◌∷◌, ◌++◌, map, Option}
use Rattle.mw_term.specs.Terms.{Expression}
use Rattle.mw_term.specs.Types.{Level, live}
use Rattle.mw_term.specs.Scoped.{IsScoped}
use Rattle.mw_types.specs.Types.{Within}
use Rattle.mw_types.specs.Equations.{TypeEquation}
use Rattle.mw_infer.specs.declared.output.Spot.{Spot}
use Rattle.mw_infer.specs.declared.output.Output.{Output}
use Rattle.mw_infer.specs.Schemes.{TopScheme, let_scheme, kernel_scheme, scheme_out_of_scope, AreOwn}
use Rattle.mw_infer.specs.ItemEquations.{Slot, Close, unknowns_of_name, classifiers_of_name, name_equations}
use Rattle.mw_infer.specs.ItemEquations.{unknowns_of, classifiers_of, equations, closes}
use Rattle.mw_infer.specs.Scoped.{is_quoted, is_quoted_slot, has_scheme}
use Rattle.mw_infer.specs.Sharing.{meaning}
use Rattle.mw_infer.specs.Views.{slot_of, tops_of}

-- the views of one close and of several
abbrev pub close_of : Spot → Close
close_of s = record { at = s.at; classifier = s.classifier; scope = map slot_of s.scope.items }

abbrev pub closes_of : List Spot → List Close
closes_of xs = map close_of xs

-- the equations that were emitted
abbrev pub meant : Output → List TypeEquation
meant out = map (meaning (tops_of out.names.now)) out.equations.items

-- so many new unknowns and classifier unknowns, and these equations and closes after those that were there
pub record Adds (old new : Output) (n m : ℕ) (es : List TypeEquation) (xs : List Close) : Type 0 where
  pub unknowns : new.unknowns ≡ old.unknowns + n
  pub classifiers : new.classifiers ≡ old.classifiers + m
  pub equations : meant new ≡ meant old ++ es
  pub closes : closes_of new.closes.items ≡ closes_of old.closes.items ++ xs
  pub names : new.names ≡ old.names

-- those of a term
abbrev pub AddsTerm : Output → Output → List TopScheme → ℕ → List Slot → Level → Expression → Type 0
AddsTerm old new tops u g m e = Adds old new (unknowns_of tops e) (classifiers_of tops e)
    (equations tops u old.unknowns old.classifiers g m e) (closes tops old.unknowns old.classifiers g m e)

-- those of a top-level name of level 0, whose type is u
abbrev pub AddsName : Output → Output → ℕ → Option TopScheme → Type 0
AddsName old new u s = Adds old new (unknowns_of_name s) (classifiers_of_name s)
    (name_equations u old.unknowns old.classifiers live s) []

-- there are numbers for so many more
pub record HasRoom (old : Output) (n m : ℕ) : Type 0 where
  pub unknowns : old.unknowns + n ≤ 2 ^ 63
  pub classifiers : old.classifiers + m ≤ 2 ^ 63

-- and for those of a top-level name
abbrev pub HasRoomForName : Output → Option TopScheme → Type 0
HasRoomForName old s = HasRoom old (unknowns_of_name s) (classifiers_of_name s)

-- each let's type names numbers below 2 ^ 63
abbrev pub AreLow : List TopScheme → Type 0
AreLow [] = Unit {0}
AreLow (let_scheme s ∷ tops) = Within (2 ^ 63) (2 ^ 63) s.type × AreLow tops
AreLow (kernel_scheme k ∷ tops) = AreLow tops
AreLow (scheme_out_of_scope ∷ tops) = AreLow tops

-- the equations of a term can be emitted
pub record CanEmit (old : Output) (tops : List TopScheme) (g : List Slot) (m : Level) (e : Expression) : Type 0 where
  pub room : HasRoom old (unknowns_of tops e) (classifiers_of tops e)
  pub scoped : IsScoped (map has_scheme tops) (map is_quoted_slot g) (is_quoted m) e
  pub low : AreLow tops
  pub own : AreOwn tops
  pub names : tops_of old.names.now ≡ tops
