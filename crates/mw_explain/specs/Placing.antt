-- Places within a source.
use Rattle.std.specs.Prelude.{ℕ, ◌≤◌, All, IfSome}
use Rattle.mw_explain.specs.declared.forms.Span.{Span}
use Rattle.mw_explain.specs.declared.telling.Told.{Told}
use Rattle.mw_explain.specs.declared.telling.Told.TheVariants.{Close, Types}

-- a place is in order, and lies within so many bytes
abbrev pub IsWithin : ℕ → Span → Type 0
IsWithin n s = (s.first ≤ s.end) × (s.end ≤ n)

-- each place that is told does
abbrev pub ArePlaced : ℕ → Told → Type 0
ArePlaced n (Types x) = IfSome x.span (IsWithin n) × All (IsWithin n) x.repairs.items
ArePlaced n (Close x) = IfSome x.span (IsWithin n) × IfSome x.name (IsWithin n)
