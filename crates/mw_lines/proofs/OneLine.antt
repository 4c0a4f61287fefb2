-- In a table two lines never name one type, so types are compared by the places of their lines.
use Rattle.std.proofs.Common.{◌≡◌, ℕ, List, get_or, Some, refl, arith}
use Rattle.std.specs.Prelude.{slice_get}
use Rattle.std.proofs.lemmas.Option.{slice_get_within, slice_get-get_or}
use Rattle.mw_types.specs.Types.{TypeExpression, int_ty, bool_ty, unknown, pair_ty, function_ty, code_ty, closed_ty}
use Rattle.mw_lines.specs.TypeLines.{TypeLine, int_line, bool_line, unknown_line, pair_line, arrow_line, code_line}
use Rattle.mw_lines.specs.TypeLines.{closed_line}
use Rattle.mw_lines.specs.TypeLines.{AreTypeLines, NamesType, names_int, names_bool, names_unknown, names_pair}
use Rattle.mw_lines.specs.TypeLines.{names_arrow, names_code, names_closed}

-- which line names a type of each form
pub inv-int : {ts : List TypeExpression} {i : ℕ} {l : TypeLine} → NamesType ts i l int_ty → l ≡ int_line
inv-int names_int = refl

pub inv-bool : {ts : List TypeExpression} {i : ℕ} {l : TypeLine} → NamesType ts i l bool_ty → l ≡ bool_line
inv-bool names_bool = refl

pub inv-unknown : {ts : List TypeExpression} {i u : ℕ} {l : TypeLine} → NamesType ts i l (unknown u)
    → l ≡ unknown_line u
inv-unknown names_unknown = refl

pub inv-pair : {ts : List TypeExpression} {i : ℕ} {l : TypeLine} {s t : TypeExpression}
    → NamesType ts i l (pair_ty s t) → (j k : ℕ)
    × (l ≡ pair_line j k) × (slice_get ts j ≡ Some s) × (slice_get ts k ≡ Some t)
inv-pair (names_pair {j = j} {k = k} a b) = (j, k, refl, a.named, b.named)

pub inv-arrow : {ts : List TypeExpression} {i : ℕ} {l : TypeLine} {s t : TypeExpression}
    → NamesType ts i l (function_ty s t) → (j k : ℕ)
    × (l ≡ arrow_line j k) × (slice_get ts j ≡ Some s) × (slice_get ts k ≡ Some t)
inv-arrow (names_arrow {j = j} {k = k} a b) = (j, k, refl, a.named, b.named)

pub inv-code : {ts : List TypeExpression} {i c : ℕ} {l : TypeLine} {t : TypeExpression}
    → NamesType ts i l (code_ty c t) → (j : ℕ) × (l ≡ code_line c j) × (slice_get ts j ≡ Some t)
inv-code (names_code {j = j} a p) = (j, refl, a.named)

pub inv-closed : {ts : List TypeExpression} {i : ℕ} {l : TypeLine} {t : TypeExpression}
    → NamesType ts i l (closed_ty t) → (j : ℕ) × (l ≡ closed_line j) × (slice_get ts j ≡ Some t)
inv-closed (names_closed {j = j} a p) = (j, refl, a.named)

module _ (lines : List TypeLine) (ts : List TypeExpression) (table : AreTypeLines lines ts) where
  -- the line of a named type, which names it
  pub line_at : (i : ℕ) (t : TypeExpression) → slice_get ts i ≡ Some t
      → (l : TypeLine) × (slice_get lines i ≡ Some l) × NamesType ts i l t
  line_at i t h =
      let within = slice_get_within ts i t h in
      let s = slice_get-get_or lines i int_line (omega (arith, within, table.count)) in
      (get_or lines i int_line, s, table.each i (get_or lines i int_line) t s h)

  -- lines of one type are one, and stand at one place
  abbrev pub HasOneLine : TypeExpression → Type 0
  HasOneLine t = (i j : ℕ) (l k : TypeLine) → NamesType ts i l t → NamesType ts j k t → l ≡ k

  one_place : (t : TypeExpression) → HasOneLine t → (i j : ℕ) → slice_get ts i ≡ Some t → slice_get ts j ≡ Some t
      → i ≡ j
  one_place t f i j h g =
      let a = line_at i t h in
      let b = line_at j t g in
      table.once i j a.0 a.1 (rw (f j i b.0 a.0 b.2 a.2) at b.1)

  pub has_one_line : (t : TypeExpression) → HasOneLine t
  has_one_line int_ty i j l k names_int names_int = refl
  has_one_line bool_ty i j l k names_bool names_bool = refl
  has_one_line (unknown u) i j l k names_unknown names_unknown = refl
  has_one_line (pair_ty s t) i j l k (names_pair a b) (names_pair c d) =
      let p = one_place s (has_one_line s) _ _ a.named c.named in
      let q = one_place t (has_one_line t) _ _ b.named d.named in
      rw (p, q) refl
  has_one_line (function_ty s t) i j l k (names_arrow a b) (names_arrow c d) =
      let p = one_place s (has_one_line s) _ _ a.named c.named in
      let q = one_place t (has_one_line t) _ _ b.named d.named in
      rw (p, q) refl
  has_one_line (code_ty c t) i j l k (names_code a p) (names_code b q) =
      rw (one_place t (has_one_line t) _ _ a.named b.named) refl
  has_one_line (closed_ty t) i j l k (names_closed a p) (names_closed b q) =
      rw (one_place t (has_one_line t) _ _ a.named b.named) refl

  pub one_line : (t : TypeExpression) (i j : ℕ) → slice_get ts i ≡ Some t → slice_get ts j ≡ Some t → i ≡ j
  one_line t i j h g = one_place t (has_one_line t) i j h g
