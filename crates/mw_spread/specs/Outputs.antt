-- What work on many items gives.
use Rattle.std.specs.Prelude.{◌≡◌, ℕ, List, slice_get}
use Rattle.std.specs.declared.option.Option.TheVariants.{Some}
use Rattle.mw_spread.specs.declared.job.JobFault.{JobFault}
use Rattle.mw_spread.specs.declared.job.JobFault.TheVariants.{Memory, Bad}

-- what holds of the digest of bad bytes
abbrev pub IfBad : JobFault → (List ℕ → Type 0) → Type 0
IfBad (Memory e) P = Unit {0}
IfBad (Bad digest) P = P digest

module _ {I : Type 0} where
  -- it is the digest of some item's bad bytes
  abbrev pub OfSome : (I → List ℕ → Type 0) → List I → List ℕ → Type 0
  OfSome bad items digest = (at : ℕ) × (item : I) × (slice_get items at ≡ Some item) × bad item digest
