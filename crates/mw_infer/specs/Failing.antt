-- A part of a program whose equations fail, and where.
use Rattle.std.specs.Prelude.{ℕ, ◌≡◌, ◌-◌, ◌<◌, ◌≤◌, ◌⊎◌, Bool, List, [], ◌∷◌, take, length, Option, Some, None}
use Rattle.std.specs.Prelude.{IfSome, slice_get, cond, leb, ltb, ◌&&◌, false}
use Rattle.mw_term.specs.Terms.{Expression}
use Rattle.mw_term.specs.Parts.{Place}
use Rattle.mw_types.specs.Types.{TypeExpression, Substitution, apply}
use Rattle.mw_types.specs.Equations.{TypeEquation, equations_of, AllWithin, Fine, FirstUnsolvable, FirstTooBig}
use Rattle.mw_types.specs.Equations.{MostGeneral}
use Rattle.mw_infer.specs.Schemes.{TopScheme}
use Rattle.mw_infer.specs.Inferring.{item_unknowns, item_classifiers, item_equations}
use Rattle.mw_infer.specs.Owners.{item_owners}
use Rattle.mw_infer.specs.declared.failing.FailingPart.{FailingPart}

-- the front of the first k equations has no solution or is too big, and each shorter one is fine
abbrev pub FirstFails : ℕ → ℕ → List TypeEquation → ℕ → Type 0
FirstFails n m es k = FirstUnsolvable n m es k ⊎ FirstTooBig n m es k

-- With the schemes of its names, the equations are those of a term at its place, each with its node, and of them these
-- fail first.
pub record FailsAt (schemes : List TopScheme) (place : Place) (e : Expression) (x : FailingPart) : Type 0 where
  pub unknowns : x.equations.unknowns ≡ item_unknowns schemes e
  pub classifiers : x.equations.classifiers ≡ item_classifiers schemes e
  pub equations : equations_of x.equations.pairs ≡ item_equations schemes place e
  pub owners : x.owners.items ≡ item_owners place e
  pub fails : FirstFails x.equations.unknowns x.equations.classifiers (equations_of x.equations.pairs) x.front

-- what the calls on it need: as many nodes as equations, which name their own numbers alone, and a last one that fails
pub record IsWhole (x : FailingPart) : Type 0 where
  pub owners : length x.owners.items ≡ length (equations_of x.equations.pairs)
  pub within : AllWithin x.equations.unknowns x.equations.classifiers (equations_of x.equations.pairs)
  pub front : 0 < x.front
  pub low : x.front ≤ length (equations_of x.equations.pairs)
  pub shorter : Fine x.equations.unknowns x.equations.classifiers (take (x.front - 1) (equations_of x.equations.pairs))

-- the types of both sides of the equation that fails, on a most general solution of those before it
abbrev pub AreSides : FailingPart → TypeExpression → TypeExpression → Type 0
AreSides x left right = (s : Substitution)
    × MostGeneral x.equations.unknowns x.equations.classifiers (take (x.front - 1) (equations_of x.equations.pairs)) s
    × IfSome (slice_get (equations_of x.equations.pairs) (x.front - 1))
    (λ e. (left ≡ apply s e.left) × (right ≡ apply s e.right))

-- an equation is of one of the nodes from the first to the one before the end
abbrev pub is_among : ℕ → ℕ → Option ℕ → Bool
is_among first end None = false
is_among first end (Some n) = leb first n && ltb n end

-- the equations that are of none of these nodes
abbrev pub without : ℕ → ℕ → List (Option ℕ) → List TypeEquation → List TypeEquation
without first end (n ∷ ns) (e ∷ es) = cond (is_among first end n) (without first end ns es)
    (e ∷ without first end ns es)
without first end [] es = es
without first end (n ∷ ns) [] = []
