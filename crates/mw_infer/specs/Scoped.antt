-- Which levels and slots are level 1, and which top-level names are in scope.
use Rattle.std.specs.Prelude.{Bool, true, false}
use Rattle.mw_term.specs.Types.{Level, live, under}
use Rattle.mw_infer.specs.Schemes.{TopScheme, let_scheme, kernel_scheme, scheme_out_of_scope}
use Rattle.mw_infer.specs.ItemEquations.{Slot, plain_slot, quoted_slot}

-- level 1
abbrev pub is_quoted : Level → Bool
is_quoted live = false
is_quoted (under a) = true

abbrev pub is_quoted_slot : Slot → Bool
is_quoted_slot (plain_slot u) = false
is_quoted_slot (quoted_slot c u) = true

-- in scope
abbrev pub has_scheme : TopScheme → Bool
has_scheme (let_scheme s) = true
has_scheme (kernel_scheme k) = true
has_scheme scheme_out_of_scope = false
