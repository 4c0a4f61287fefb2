-- The order of numbers and of types, by what is read.
use Rattle.std.specs.Prelude.{ℕ, suc, ◌≡◌, ◌<◌, Bool, if◌then◌else◌, List, [], ◌∷◌, ◌++◌}
use Rattle.std.specs.List.{list_any}
use Rattle.mw_types.specs.Types.{TypeExpression, int_ty, bool_ty, unknown, pair_ty, function_ty, code_ty, closed_ty}
use Rattle.mw_types.specs.Numbered.{IsNumbered}
use Rattle.mw_lines.specs.TypeLines.{TypeLine}
use Rattle.mw_lines.specs.Deciding.{same_type, is_among}
use Rattle.mw_written.specs.Readings.{Reading, a_type, a_classifier}

-- Unknowns below n and classifiers below m were read before. Others come in the order of their numbers.
pub data AreNumbered : (n m : ℕ) → List Reading → Type 0 where
  all_read : {n m : ℕ} → AreNumbered n m []
  type_read : {n m k l : ℕ} {t : TypeExpression} {rs : List Reading} → IsNumbered n m t k l → AreNumbered k l rs
      → AreNumbered n m (a_type t ∷ rs)
  classifier_seen : {n m c : ℕ} {rs : List Reading} → c < m → AreNumbered n m rs → AreNumbered n m (a_classifier c ∷ rs)
  classifier_next : {n m c : ℕ} {rs : List Reading} → c ≡ m → AreNumbered n (suc m) rs
      → AreNumbered n m (a_classifier c ∷ rs)

-- whether the type is one of these
abbrev pub is_type_among : TypeExpression → List TypeExpression → Bool
is_type_among t ts = list_any (λ u. same_type u t) ts

-- these types, and the type after them if it isn't among them
abbrev pub with_new : List TypeExpression → TypeExpression → List TypeExpression
with_new ts t = if is_type_among t ts then ts else ts ++ t ∷ []

-- These types, and those that come once the type is read after them: its parts from left to right, and then itself.
abbrev pub with_type : List TypeExpression → TypeExpression → List TypeExpression
with_type ts int_ty = with_new ts int_ty
with_type ts bool_ty = with_new ts bool_ty
with_type ts (unknown u) = with_new ts (unknown u)
with_type ts (pair_ty s t) = with_new (with_type (with_type ts s) t) (pair_ty s t)
with_type ts (function_ty s t) = with_new (with_type (with_type ts s) t) (function_ty s t)
with_type ts (code_ty c t) = with_new (with_type ts t) (code_ty c t)
with_type ts (closed_ty t) = with_new (with_type ts t) (closed_ty t)

-- the same of the types of readings, one after the other
abbrev pub with_readings : List TypeExpression → List Reading → List TypeExpression
with_readings ts [] = ts
with_readings ts (a_type t ∷ rs) = with_readings (with_type ts t) rs
with_readings ts (a_classifier c ∷ rs) = with_readings ts rs

-- the types are those that are read, and their parts, each once, in the order in which reading completes them
abbrev pub AreCompleted : List Reading → List TypeExpression → Type 0
AreCompleted rs ts = ts ≡ with_readings [] rs

-- these lines, and the line after them if it isn't among them
abbrev pub with_line : List TypeLine → TypeLine → List TypeLine
with_line lines l = if is_among l lines then lines else lines ++ l ∷ []
