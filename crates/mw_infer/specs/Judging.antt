-- What is judged of an item's equations and closes.
use Rattle.std.specs.Prelude.{ℕ, ◌≡◌, ◌≤◌, ◌^◌, false, List, [], map, None, IfSome, IsSome}
use Rattle.mw_term.specs.Terms.{Expression, ground_of, kernel_type_of}
use Rattle.mw_term.specs.Scoped.{IsScoped}
use Rattle.mw_types.specs.Types.{Assignment, Substitution, TypeExpression, after}
use Rattle.mw_types.specs.Equations.{AreFirstTooBig, AreFirstUnsolvable, FirstUnsolvable, FirstTooBig, GivePrincipalType}
use Rattle.mw_types.specs.declared.types.Equations.{Equations}
use Rattle.mw_types.specs.Solutions.{Solution, substitution_of}
use Rattle.mw_infer.specs.declared.judge.Verdict.{Verdict}
use Rattle.mw_infer.specs.declared.judge.Verdict.TheVariants.{Fine, IllTyped, TooBig, NotClosed}
use Rattle.mw_infer.specs.declared.own.Asked.{Asked}
use Rattle.mw_infer.specs.declared.own.Asked.TheVariants.{Anything, Kernel, Main}
use Rattle.mw_infer.specs.Schemes.{TopScheme, AreOwn}
use Rattle.mw_infer.specs.ItemEquations.{Close}
use Rattle.mw_infer.specs.Inferring.{item_unknowns, item_classifiers, item_closes, item_equations, AreFresh, least}
use Rattle.mw_term.specs.Parts.{Place, let_place, kernel_place, main_place}
use Rattle.mw_infer.specs.Checking.{IsFirstOpen, IsItemSolution}
use Rattle.mw_infer.specs.Nodes.{node_numbers, facts_at}
use Rattle.mw_infer.specs.Typings.{facts_of_part}
use Rattle.mw_infer.specs.Numbering.{IsRenumbering}
use Rattle.mw_infer.specs.Scoped.{has_scheme}
use Rattle.mw_infer.specs.declared.output.Output.{Output}
use Rattle.mw_infer.specs.Emitting.{AreLow, closes_of}
use Rattle.mw_infer.specs.Sharing.{meaning}
use Rattle.mw_infer.specs.Views.{scheme_of}

abbrev pub place_of : Asked → Place
place_of Anything = let_place
place_of (Kernel k) = kernel_place (kernel_type_of k.now)
place_of (Main g) = main_place (ground_of g.now)

-- a closed term can be judged with these schemes
pub record CanJudge (schemes : List TopScheme) (e : Expression) : Type 0 where
  pub scoped : IsScoped (map has_scheme schemes) [] false e
  pub own : AreOwn schemes
  pub low : AreLow schemes
  pub unknowns : item_unknowns schemes e ≤ 2 ^ 63
  pub classifiers : item_classifiers schemes e ≤ 2 ^ 63

-- the solution with the least types for what it leaves open
abbrev pub least_of : Solution → Assignment
least_of s = after least (substitution_of s)

-- the offset of the first close that is not fresh
abbrev pub IsFirstOpenAt : Substitution → List Close → ℕ → Type 0
IsFirstOpenAt s xs at = (y : Close) × IsFirstOpen s xs y × (at ≡ y.at)

abbrev pub Judges : List TopScheme → Place → Expression → Verdict → Type 0
Judges schemes place e (Fine j) = (s : Substitution) × IsItemSolution schemes place e s
    × AreFresh (after least s) (item_closes schemes e) × IsRenumbering (s.ty 0) (scheme_of j.known)
    × IfSome j.nodes (λ nodes. facts_of_part nodes ≡ map (facts_at s) (node_numbers schemes 0 1 0 e))
Judges schemes place e IllTyped = (k : ℕ) × FirstUnsolvable (item_unknowns schemes e) (item_classifiers schemes e)
    (item_equations schemes place e) k
Judges schemes place e TooBig = (k : ℕ) × FirstTooBig (item_unknowns schemes e) (item_classifiers schemes e)
    (item_equations schemes place e) k
Judges schemes place e (NotClosed at) = (s : Substitution) × IsItemSolution schemes place e s
    × IsFirstOpenAt s (item_closes schemes e) at

-- what is judged of an item without closes by its equations alone, without its nodes
abbrev pub JudgesType : Equations → Verdict → Type 0
JudgesType es (Fine j) = (t : TypeExpression) × GivePrincipalType es 0 t × IsRenumbering t (scheme_of j.known)
    × (j.nodes ≡ None)
JudgesType es IllTyped = (k : ℕ) × AreFirstUnsolvable es k
JudgesType es TooBig = (k : ℕ) × AreFirstTooBig es k
JudgesType es (NotClosed at) = ⊥

-- an item without a fault comes with what is known of its nodes
abbrev pub TellsNodes : Verdict → Type 0
TellsNodes (Fine j) = IsSome j.nodes
TellsNodes IllTyped = Unit {0}
TellsNodes TooBig = Unit {0}
TellsNodes (NotClosed at) = Unit {0}

-- what is emitted for an item
pub record IsEmitted (schemes : List TopScheme) (place : Place) (e : Expression) (out : Output) : Type 0 where
  pub unknowns : out.unknowns ≡ item_unknowns schemes e
  pub classifiers : out.classifiers ≡ item_classifiers schemes e
  pub equations : map (meaning schemes) out.equations.items ≡ item_equations schemes place e
  pub closes : closes_of out.closes.items ≡ item_closes schemes e
