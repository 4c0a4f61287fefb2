-- Types whose unknowns and classifier unknowns are numbered in the order in which they are read.
use Rattle.std.specs.Prelude.{ℕ, suc, ◌≡◌, ◌<◌}
use Rattle.mw_types.specs.Types.{TypeExpression, int_ty, bool_ty, unknown, pair_ty, function_ty, code_ty, closed_ty}

-- Read from left to right, a type names unknowns and classifier unknowns that were seen before, whose numbers are below
-- n and m, and others in the order of their numbers. After it those below k and l were seen.
pub data IsNumbered : (n m : ℕ) → TypeExpression → (k l : ℕ) → Type 0 where
  an_int : {n m : ℕ} → IsNumbered n m int_ty n m
  a_bool : {n m : ℕ} → IsNumbered n m bool_ty n m
  seen : {n m u : ℕ} → u < n → IsNumbered n m (unknown u) n m
  next : {n m u : ℕ} → u ≡ n → IsNumbered n m (unknown u) (suc n) m
  a_pair : {n m i j k l : ℕ} {s t : TypeExpression} → IsNumbered n m s i j → IsNumbered i j t k l
      → IsNumbered n m (pair_ty s t) k l
  a_function : {n m i j k l : ℕ} {s t : TypeExpression} → IsNumbered n m s i j → IsNumbered i j t k l
      → IsNumbered n m (function_ty s t) k l
  code_seen : {n m c k l : ℕ} {t : TypeExpression} → c < m → IsNumbered n m t k l → IsNumbered n m (code_ty c t) k l
  code_next : {n m c k l : ℕ} {t : TypeExpression} → c ≡ m → IsNumbered n (suc m) t k l
      → IsNumbered n m (code_ty c t) k l
  a_closed : {n m k l : ℕ} {t : TypeExpression} → IsNumbered n m t k l → IsNumbered n m (closed_ty t) k l
