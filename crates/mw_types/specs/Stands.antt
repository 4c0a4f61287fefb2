-- The type that a node stands for, where the classes have no cycle.
use Rattle.std.specs.Prelude.{ℕ, ◌≡◌, ◌≢◌, ◌<◌, List, length, slice_index_or}
use Rattle.mw_types.specs.Types.{TypeExpression, int_ty, bool_ty, unknown, pair_ty, function_ty, code_ty, closed_ty}
use Rattle.mw_types.specs.Types.{Substitution}
use Rattle.mw_types.specs.Forest.{Same}
use Rattle.mw_types.specs.declared.state.Shape.{Shape}
use Rattle.mw_types.specs.declared.state.Shape.TheVariants.{Free, Int, Bool, Pair, Arrow, Code, Closed}

-- node i stands for a type. Free classes are named by their representatives
pub data Stands (ps : List ℕ) (hs : List Shape) (classifier : ℕ → ℕ) : ℕ → TypeExpression → Type 0 where
  s_up : {i p : ℕ} {t : TypeExpression} → i < length ps → p ≡ slice_index_or ps i 0 → p ≢ i
      → Stands ps hs classifier p t → Stands ps hs classifier i t
  s_free : {i : ℕ} → slice_index_or ps i 0 ≡ i → slice_index_or hs i Free ≡ Free → Stands ps hs classifier i (unknown i)
  s_int : {i : ℕ} → slice_index_or ps i 0 ≡ i → slice_index_or hs i Free ≡ Int → Stands ps hs classifier i int_ty
  s_bool : {i : ℕ} → slice_index_or ps i 0 ≡ i → slice_index_or hs i Free ≡ Bool → Stands ps hs classifier i bool_ty
  s_pair : {i l r : ℕ} {s t : TypeExpression} → slice_index_or ps i 0 ≡ i → slice_index_or hs i Free ≡ Pair l r
      → Stands ps hs classifier l s → Stands ps hs classifier r t → Stands ps hs classifier i (pair_ty s t)
  s_arrow : {i l r : ℕ} {s t : TypeExpression} → slice_index_or ps i 0 ≡ i → slice_index_or hs i Free ≡ Arrow l r
      → Stands ps hs classifier l s → Stands ps hs classifier r t → Stands ps hs classifier i (function_ty s t)
  s_code : {i c d r : ℕ} {t : TypeExpression} → slice_index_or ps i 0 ≡ i → slice_index_or hs i Free ≡ Code c r
      → d ≡ classifier c → Stands ps hs classifier r t → Stands ps hs classifier i (code_ty d t)
  s_closed : {i r : ℕ} {t : TypeExpression} → slice_index_or ps i 0 ≡ i → slice_index_or hs i Free ≡ Closed r
      → Stands ps hs classifier r t → Stands ps hs classifier i (closed_ty t)

-- the representatives of the classifier unknowns
pub record Names (cs : List ℕ) (classifier : ℕ → ℕ) : Type 0 where
  pub one : Same cs classifier
  pub own : (a : ℕ → ℕ) → Same cs a → (c : ℕ) → c < length cs → a (classifier c) ≡ a c

-- each node stands for its type in a solution
pub record Settled (ps : List ℕ) (hs : List Shape) (cs : List ℕ) (s : Substitution) : Type 0 where
  pub each : (i : ℕ) → i < length ps → Stands ps hs s.classifier i (s.ty i)
  pub names : Names cs s.classifier
