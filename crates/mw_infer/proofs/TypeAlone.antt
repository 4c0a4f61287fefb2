-- What is judged of an item without closes by its equations alone.
use Rattle.std.proofs.Common.{◌≡◌, ℕ, List, [], Result, Ok, Err, subst}
use Rattle.std.specs.Prelude.{IfOk}
use Rattle.mw_term.specs.Parts.{Place}
use Rattle.mw_term.specs.Terms.{Expression}
use Rattle.mw_types.specs.Types.{Substitution}
use Rattle.mw_types.specs.Equations.{TypeEquation, equations_of, MostGeneral, IsSmall, StaysWithin}
use Rattle.mw_types.specs.declared.types.Equations.{Equations}
use Rattle.mw_infer.specs.Checking.{IsItemSolution}
use Rattle.mw_infer.specs.Inferring.{item_unknowns, item_classifiers, item_closes, item_equations}
use Rattle.mw_infer.specs.Judging.{Judges, JudgesType}
use Rattle.mw_infer.specs.Numbering.{IsRenumbering}
use Rattle.mw_infer.specs.Schemes.{TopScheme}
use Rattle.mw_infer.specs.Sharing.{Alike}
use Rattle.mw_infer.specs.Views.{scheme_of}
use Rattle.mw_infer.specs.declared.judge.Verdict.{Verdict}
use Rattle.mw_infer.specs.declared.judge.Verdict.TheVariants.{Fine, IllTyped, TooBig, NotClosed}
use Rattle.mw_infer.proofs.Shortened.{big-alike, general-alike, unsolvable-alike}

-- a most general solution of equations that say the same
pub item-solved : {schemes : List TopScheme} {place : Place} {e : Expression} {n m : ℕ} {long short : List TypeEquation}
    {s : Substitution} → n ≡ item_unknowns schemes e → m ≡ item_classifiers schemes e
    → long ≡ item_equations schemes place e → Alike long short → MostGeneral n m short s → IsSmall n s
    → StaysWithin n m s → IsItemSolution schemes place e s
item-solved f g h alike general small within = record {
  general = rw (f, g, h) at (general-alike alike general);
  small = rw f at small;
  within = rw (f, g) at within;
}

module _ (schemes : List TopScheme) (place : Place) (e : Expression) (x : Equations) (long : List TypeEquation)
    (unknowns : x.unknowns ≡ item_unknowns schemes e) (classifiers : x.classifiers ≡ item_classifiers schemes e)
    (equations : long ≡ item_equations schemes place e) (alike : Alike long (equations_of x.pairs))
    (closes : item_closes schemes e ≡ []) where
  judged : (v : Verdict) → JudgesType x v → Judges schemes place e v
  judged (Fine j) t = (
    t.1.solution,
    item-solved unknowns classifiers equations alike t.1.general t.1.small t.1.within,
    rw closes tt,
    subst (λ y. IsRenumbering y (scheme_of j.known)) t.1.type t.2,
    rw t.3 tt,
  )
  judged IllTyped t = (t.0, rw (unknowns, classifiers, equations) at (unsolvable-alike alike t.1))
  judged TooBig t = (t.0, rw (unknowns, classifiers, equations) at (big-alike alike t.1))
  judged (NotClosed at) t = absurd t

  -- the same of an answer
  pub type-judged : {E : Type 0} (r : Result Verdict E) → IfOk r (JudgesType x) → IfOk r (Judges schemes place e)
  type-judged (Ok v) t = judged v t
  type-judged (Err f) t = tt
