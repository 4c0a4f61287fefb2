-- Options that are not what is said of them.
use Rattle.std.proofs.Common.{Option, None, IsSome, true≢false, sym}

module _ (X : Type 0) where
  abbrev nothing : Option X
  nothing = None

  pub none_is_some : IsSome nothing → ⊥
  none_is_some e = true≢false (sym e)
