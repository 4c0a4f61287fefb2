-- How the code of a close is looked for, and the binders that are named in it.
use Rattle.std.specs.Prelude.{ℕ, ◌≡◌, ◌+◌, ◌*◌, ◌^◌, ◌≤◌, ◌<◌, suc, Bool, ◌||◌, List, [], ◌∷◌, Some, length, slice_get}
use Rattle.mw_term.specs.Terms.{Expression, expression_of, size}
use Rattle.mw_types.specs.Types.{Substitution}
use Rattle.mw_infer.specs.ItemEquations.{Slot}
use Rattle.mw_infer.specs.Faults.{BindsClassifier}
use Rattle.mw_infer.specs.declared.occurring.Sought.{Sought}
use Rattle.mw_infer.specs.declared.occurring.Sought.TheVariants.{Found, Beyond}

-- the term at a place of a list is found, or the place is so far beyond the list's end
abbrev pub Seeks : List Expression → ℕ → Sought → Type 0
Seeks xs k (Found t) = slice_get xs k ≡ Some (expression_of t.now)
Seeks xs k (Beyond n) = k ≡ length xs + n

-- The marks of numbers from n on, each of which is set too where the test holds.
abbrev pub marked : (ℕ → Bool) → ℕ → List Bool → List Bool
marked p n [] = []
marked p n (m ∷ ms) = (m || p n) ∷ marked p (suc n) ms

-- the binders of a term in so many binders can be counted
abbrev pub CanCount : ℕ → Expression → Type 0
CanCount depth e = depth + 2 * size e ≤ 2 ^ 64

-- the binder holds the classifier, and no nearer one does
pub record IsNearest (s : Substitution) (classifier : ℕ) (scope : List Slot) (binder : ℕ) : Type 0 where
  pub holds : BindsClassifier s classifier scope binder
  pub nearer : (other : ℕ) → other < binder → BindsClassifier s classifier scope other → ⊥
