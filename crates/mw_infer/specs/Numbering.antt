-- How a type's numbers are put in their order: of each number that was seen, its new number.
use Rattle.std.specs.Prelude.{ℕ, ◌≡◌, ◌≢◌, ◌+◌, ◌<◌, ◌≤◌, ◌⊎◌, List, length, slice_index_or}
use Rattle.mw_types.specs.Types.{TypeExpression, int_ty, bool_ty, unknown, pair_ty, function_ty, code_ty, closed_ty}
use Rattle.mw_types.specs.Types.{Within, Assignment, value, nodes}
use Rattle.mw_infer.specs.Schemes.{Scheme, IsInOrder}
use Rattle.mw_types.specs.Numbered.{IsNumbered}
use Rattle.mw_infer.specs.declared.renumber.Numbering.{Numbering}

-- stands for a number that was not seen
abbrev pub none : ℕ
none = 18446744073709551615

-- the new number
abbrev pub number_in : List ℕ → ℕ → ℕ
number_in places u = slice_index_or places u none

-- new numbers are below the count, and no two numbers have one
pub record IsOrder (x : Numbering) : Type 0 where
  pub low : (u : ℕ) → number_in x.places.items u ≢ none → number_in x.places.items u < x.count
  pub one : (u v : ℕ) → number_in x.places.items u ≢ none → number_in x.places.items u ≡ number_in x.places.items v
      → u ≡ v

-- what was seen has the number that it had
pub record Keeps (old new : Numbering) : Type 0 where
  pub kept : (u : ℕ) → number_in old.places.items u ≢ none → number_in new.places.items u ≡ number_in old.places.items u
  pub places : length new.places.items ≡ length old.places.items

-- u has the number n: it had it before, or it is the next one
pub record Places (old new : Numbering) (u n : ℕ) : Type 0 where
  pub order : IsOrder new
  pub keeps : Keeps old new
  pub is : number_in new.places.items u ≡ n
  pub seen : n ≢ none
  pub next : ((n < old.count) × (new.count ≡ old.count)) ⊎ ((n ≡ old.count) × (new.count ≡ old.count + 1))

-- the type with new numbers
abbrev pub renumbered : List ℕ → List ℕ → TypeExpression → TypeExpression
renumbered p q int_ty = int_ty
renumbered p q bool_ty = bool_ty
renumbered p q (unknown u) = unknown (number_in p u)
renumbered p q (pair_ty s t) = pair_ty (renumbered p q s) (renumbered p q t)
renumbered p q (function_ty s t) = function_ty (renumbered p q s) (renumbered p q t)
renumbered p q (code_ty c t) = code_ty (number_in q c) (renumbered p q t)
renumbered p q (closed_ty t) = closed_ty (renumbered p q t)

-- all numbers of the type were seen
abbrev pub AreSeen : List ℕ → List ℕ → TypeExpression → Type 0
AreSeen p q int_ty = Unit {0}
AreSeen p q bool_ty = Unit {0}
AreSeen p q (unknown u) = number_in p u ≢ none
AreSeen p q (pair_ty s t) = AreSeen p q s × AreSeen p q t
AreSeen p q (function_ty s t) = AreSeen p q s × AreSeen p q t
AreSeen p q (code_ty c t) = (number_in q c ≢ none) × AreSeen p q t
AreSeen p q (closed_ty t) = AreSeen p q t

-- r is the type t with new numbers, after which more were seen
pub record Renumbers (p q k l : Numbering) (t r : TypeExpression) : Type 0 where
  pub unknown_order : IsOrder k
  pub classifier_order : IsOrder l
  pub unknowns : Keeps p k
  pub classifiers : Keeps q l
  pub is : r ≡ renumbered k.places.items l.places.items t
  pub seen : AreSeen k.places.items l.places.items t
  pub numbered : IsNumbered p.count q.count r k.count l.count
  pub unknown_count : k.count ≤ p.count + nodes t
  pub classifier_count : l.count ≤ q.count + nodes t

-- there is room for a type's numbers
pub record CanRenumber (p q : Numbering) (t : TypeExpression) : Type 0 where
  pub unknown_order : IsOrder p
  pub classifier_order : IsOrder q
  pub within : Within (length p.places.items) (length q.places.items) t
  pub unknown_count : p.count + nodes t ≤ 10000
  pub classifier_count : q.count + nodes t ≤ 10000

-- the scheme has the instances of the type, and its numbers in order, of which there are at most 10,000
pub record IsRenumbering (t : TypeExpression) (s : Scheme) : Type 0 where
  pub in_order : IsInOrder s
  pub instances : (b : Assignment) → (d : Assignment) × (value d s.type ≡ value b t)
  pub back : (d : Assignment) → (b : Assignment) × (value b t ≡ value d s.type)
  pub unknowns : s.unknowns ≤ 10000
  pub classifiers : s.classifiers ≤ 10000
