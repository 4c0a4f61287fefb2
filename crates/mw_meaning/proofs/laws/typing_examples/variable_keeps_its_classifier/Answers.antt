use Rattle.std.proofs.Common.{◌≢◌, ℕ, List, [], ◌∷◌}
use Rattle.mw_term.specs.Terms.{var, fun, prim, bracket, escape, close, opened}
use Rattle.mw_term.specs.declared.term.Primitive.TheVariants.{Add}
use Rattle.mw_term.specs.Types.{TermType, live, under, Entry, quoted}
use Rattle.mw_term.specs.Typing.{TopLevel, Typed, t_var, t_fun, t_prim, t_bracket, t_escape, t_close, t_open}
use Rattle.mw_meaning.proofs.laws.typing_examples.variable_keeps_its_classifier.Goals as goal

other : (tops : List TopLevel) (g : List Entry) (a b : ℕ) (s t : TermType) → a ≢ b
    → Typed tops (quoted a s ∷ g) (under b) (var 0) t → ⊥
other tops g a b s t ne (t_var e) = ne (cc)

refuted : (tops : List TopLevel) (t : TermType)
    → Typed tops [] live (bracket (fun (escape (opened (close 0 (bracket (fun (prim Add (var 1) (var 0))))))))) t → ⊥
refuted tops t
    (t_bracket p (t_fun f (t_escape x (t_open y (t_close z absent (t_bracket w (t_fun q (t_prim r (t_var e) v)))))))) =
    absent.0.0 (cc)

pub returns : goal.returns
returns c = record { variable = other; in_a_term = refuted }
