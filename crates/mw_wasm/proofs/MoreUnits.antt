-- More units change nothing of an execution that ends or traps but the units left.
use Rattle.std.proofs.Common.{◌≡◌, ℕ, zero, suc, ◌+◌, ◌<◌, [], refl, arith}
use Rattle.mw_wasm.specs.Syntax.{PureModule}
use Rattle.mw_wasm.specs.Store.{Store}
use Rattle.mw_wasm.specs.Reduction.{Sequence, Step, goes, spends, finished, leaves, gives_back, traps_by, stuck_here}
use Rattle.mw_wasm.specs.Reduction.{step}
use Rattle.mw_wasm.specs.Execution.{weight, End, ended, trapped, spent, lost, follow, execution}
use Rattle.mw_wasm.specs.ReductionLaws.{MoreUnitsWhereItEnds, MoreUnitsWhereItTraps}
use Rattle.mw_wasm.proofs.ExecutionLaw.{Less, step_less, execution_is}

-- an end, and an end with k more units
abbrev More : ℕ → End → End → Type 0
More k (ended st vs left) e = e ≡ ended st vs (left + k)
More k (trapped t st) e = e ≡ trapped t st
More k spent e = Unit {0}
More k lost e = Unit {0}

follow_more : (x : Step) (st : Store) (w n k : ℕ) (on on' : Store → Sequence → End) (again : ℕ → Store → Sequence → End)
    → Less w x → ((st : Store) (s : Sequence) → weight s < w → More k (on st s) (on' st s))
    → ((l : ℕ) (st : Store) (s : Sequence) → l < n → More k (again l st s) (again (l + k) st s))
    → More k (follow x st n on again) (follow x st (n + k) on' again)
follow_more (goes st' ls s) st w n k on on' again h p q = p st' s h
follow_more (spends st' ls s) st w zero k on on' again h p q = tt
follow_more (spends st' ls s) st w (suc n) k on on' again h p q = let e : suc n + k ≡ suc (n + k) = omega arith in
    rw e (q n st' s (omega arith))
follow_more (finished vs) st w n k on on' again h p q = refl
follow_more (leaves l vs) st w n k on on' again h p q = tt
follow_more (gives_back vs) st w n k on on' again h p q = tt
follow_more (traps_by t) st w n k on on' again h p q = refl
follow_more stuck_here st w n k on on' again h p q = tt

module _ (m : PureModule) where
  within_more : (n k : ℕ)
      → ((l : ℕ) (st : Store) (s : Sequence) → l < n → More k (execution m l st s) (execution m (l + k) st s))
      → (w : ℕ) (st : Store) (s : Sequence) → weight s < w → More k (execution m n st s) (execution m (n + k) st s)
  within_more n k q zero st s p = absurd (omega arith)
  within_more n k q (suc w) st s p =
      rw (execution_is m n st s, execution_is m (n + k) st s)
      (follow_more (step m st [] [] s) st (weight s) n k (execution m n) (execution m (n + k)) (execution m)
      (step_less m st [] [] s) (λ st d lt. within_more n k q w st d (omega arith)) q)

  below_more : (b n k : ℕ) (st : Store) (s : Sequence) → n < b → More k (execution m n st s) (execution m (n + k) st s)
  below_more zero n k st s p = absurd (omega arith)
  below_more (suc b) n k st s p = within_more n k (λ l st s lt. below_more b l k st s (omega arith)) (suc (weight s)) st
      s (omega arith)

  more : (n k : ℕ) (st : Store) (s : Sequence) → More k (execution m n st s) (execution m (n + k) st s)
  more n k st s = below_more (suc n) n k st s (omega arith)

pub more_where_it_ends : MoreUnitsWhereItEnds
more_where_it_ends m n k st st' s vs left h = rw h at (more m n k st s)

pub more_where_it_traps : MoreUnitsWhereItTraps
more_where_it_traps m n k st st' s t h = rw h at (more m n k st s)
