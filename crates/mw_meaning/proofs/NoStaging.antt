-- Terms without staging as terms, and so the erased program, have no staging.
use Rattle.std.proofs.Common.{ℕ, zero, ℤ, List, [], ◌∷◌}
use Rattle.mw_term.specs.EachNode.{NodeRule, EachNode}
use Rattle.mw_term.specs.Programs.{Definition, value as defines, kernel}
use Rattle.mw_meaning.specs.PlainTerms.{PlainTerm}
use Rattle.mw_meaning.specs.Erasure.{plain, term_of}
use Rattle.mw_meaning.specs.ErasedPrograms.{Naming, renamed, name_in, lets_of, inside_lets, plain_rule, HasNoStaging}
use Rattle.mw_meaning.specs.ErasureLaws.{AreWithoutStaging, ErasedProgramHasNoStaging}
use Rattle.mw_meaning.proofs.PlainInduction.{by_parts}

pub each-plain : (r : NodeRule) → ((n : ℤ) → r.integer n) → ((i : ℕ) → r.name i) → (x : PlainTerm)
    → EachNode r (term_of x)
each-plain r f g x =
    by_parts (Unit {0}) (λ c. c) (λ c x. EachNode r (term_of x)) (search f) (λ c i. tt) (λ c i. g i) tt x

no_staging : (x : PlainTerm) → HasNoStaging (term_of x)
no_staging x = each-plain plain_rule (λ n. tt) (λ i. tt) x

lets_without : (r : Naming) (items : List Definition) → AreWithoutStaging (lets_of r items)
lets_without r [] = tt
lets_without r (defines e ∷ items) = (no_staging (renamed r zero (plain e)), lets_without r items)
lets_without r (kernel k e ∷ items) = lets_without r items

pub erased_program_has_no_staging : ErasedProgramHasNoStaging
erased_program_has_no_staging p = (
  lets_without (name_in p.items zero) p.items,
  no_staging (inside_lets (name_in p.items zero) p.items (renamed (name_in p.items zero) zero (plain p.body))),
)
