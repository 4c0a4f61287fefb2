-- The work that is left shrinks.
use Rattle.std.proofs.Common.{◌≡◌, ◌≢◌, ℕ, zero, suc, ◌+◌, ◌*◌, ◌≤◌, ◌<◌, List, [], ◌∷◌, length}
use Rattle.std.proofs.Common.{arith}
use Rattle.std.specs.Prelude.{slice_index_or, slice_set}
use Rattle.mw_types.specs.Satisfying.{weight, filled, more, kept, joined, Step, Never}
use Rattle.mw_types.specs.declared.state.Shape.{Shape}
use Rattle.mw_types.specs.declared.state.Shape.TheVariants.{Free}
use Rattle.mw_types.specs.declared.state.State.{State}
use Rattle.mw_types.specs.declared.state.Met.{Met}
use Rattle.mw_types.proofs.Lists.{get_other, set_length}
use Rattle.mw_types.proofs.Steps.{then_step, map_step}

pub filled_set : (hs : List Shape) (i : ℕ) (x : Shape) → i < length hs → filled (slice_set hs i x)
    + weight (slice_index_or hs i Free) ≡ filled hs + weight x
filled_set [] i x lt = absurd (omega arith)
filled_set (h ∷ hs) zero x lt = omega arith
filled_set (h ∷ hs) (suc i) x lt = omega (arith, filled_set hs i x (omega arith))

pub put_work : (hs gs : List Shape) (waiting now : ℕ) (low high : ℕ) (m : Met) → high ≢ low → low < length hs
    → high < length hs
    → 3 * weight (kept m) + more m ≤ 3 * (weight (slice_index_or hs low Free) + weight (slice_index_or hs high Free))
    → gs ≡ joined hs high low (kept m) → now ≡ waiting
    → 3 * filled gs + now + more m ≤ 3 * filled hs + waiting
put_work hs gs waiting now low high m n l h w e f =
    let one = filled_set hs high Free h in
    let two = filled_set (slice_set hs high Free) low (kept m) (let p = set_length hs high Free in omega arith) in
    let three : slice_index_or (slice_set hs high Free) low Free ≡ slice_index_or hs low Free =
    get_other hs high low Free Free n in
    let four : filled (slice_set (slice_set hs high Free) low (kept m)) + weight (slice_index_or hs low Free)
    ≡ filled (slice_set hs high Free) + weight (kept m) = rw three at two in
    rw (e, f) (omega arith)

pub same_step : {s t u : State} → Step s t (λ a. Unit {0}) → Step t u (λ a. Unit {0}) → Step s u (λ a. Unit {0})
same_step p q = map_step (λ a h x. tt) (λ a h x. (tt, tt)) (then_step p q)

pub never_later : {s t : State} → Step s t (λ a. Unit {0}) → Never t (λ a. Unit {0}) → Never s (λ a. Unit {0})
never_later p n a h x = n a (p.back a h tt) tt
