-- An execution is one rule and then an execution, whatever the bounds.
use Rattle.std.proofs.Common.{◌≡◌, ℕ, zero, suc, ◌+◌, ◌≤◌, ◌<◌, List, [], ◌∷◌, ◌++◌, Option, Some, None, refl, arith}
use Rattle.std.specs.Prelude.{take}
use Rattle.mw_wasm.specs.declared.values.Value.{Value}
use Rattle.mw_wasm.specs.declared.values.Value.TheVariants.{I32, I64}
use Rattle.mw_wasm.specs.Syntax.{Code, end, next, const_i32, const_i64, PureModule}
use Rattle.mw_wasm.specs.Store.{Store}
use Rattle.mw_wasm.specs.Act.{Act, gives, enters, calls, breaks, returns, traps, stuck, constant, act}
use Rattle.mw_wasm.specs.Reduction.{plain, label, frame, Sequence, nothing, first, code_then, operands_then, Step, goes}
use Rattle.mw_wasm.specs.Reduction.{spends, finished, leaves, gives_back, traps_by, stuck_here, placed, in_label}
use Rattle.mw_wasm.specs.Reduction.{in_frame, with_constant, step}
use Rattle.mw_wasm.specs.Execution.{code_weight, weight, End, follow, execution_within, execution_below, execution}
use Rattle.mw_wasm.proofs.ActLaws.{Lighter, act_lighter}

pub code_then_weight : (c : Code) (s : Sequence) → weight (code_then c s) ≡ code_weight 0 c + weight s
code_then_weight end s = omega arith
code_then_weight (next i c) s = omega (arith, code_then_weight c s)

pub operands_then_weight : (vs : List Value) (s : Sequence) → weight (operands_then vs s) ≡ weight s
operands_then_weight [] s = refl
operands_then_weight (I32 n ∷ vs) s = omega (arith, operands_then_weight vs (first (plain (const_i32 n)) s))
operands_then_weight (I64 n ∷ vs) s = omega (arith, operands_then_weight vs (first (plain (const_i64 n)) s))

-- a rule that spends nothing goes on with less
abbrev pub Less : ℕ → Step → Type 0
Less w (goes st ls s) = weight s < w
Less w (spends st ls s) = Unit {0}
Less w (finished vs) = Unit {0}
Less w (leaves l vs) = Unit {0}
Less w (gives_back vs) = Unit {0}
Less w (traps_by t) = Unit {0}
Less w stuck_here = Unit {0}

more_less : (w u : ℕ) (x : Step) → w ≤ u → Less w x → Less u x
more_less w u (goes st ls s) p h = omega arith
more_less w u (spends st ls s) p h = tt
more_less w u (finished vs) p h = tt
more_less w u (leaves l vs) p h = tt
more_less w u (gives_back vs) p h = tt
more_less w u (traps_by t) p h = tt
more_less w u stuck_here p h = tt

placed_less : (w : ℕ) (a : Act) (st : Store) (ls : List Value) (rest : Sequence) → Lighter 0 w a
    → Less (w + weight rest) (placed a st ls rest)
placed_less w (gives st ls vs None) _ _ rest h = omega (arith, operands_then_weight vs rest)
placed_less w (gives st ls vs (Some i)) _ _ rest h = omega (arith, operands_then_weight vs (first (plain i) rest))
placed_less w (enters n k body vs) st ls rest h =
    omega (
      arith,
      operands_then_weight vs (first (label n k (code_then body nothing)) rest),
      code_then_weight body nothing,
    )
placed_less w (calls n fs body vs) st ls rest h = tt
placed_less w (breaks l vs) st ls rest h = tt
placed_less w (returns vs) st ls rest h = tt
placed_less w (traps t) st ls rest h = tt
placed_less w stuck st ls rest h = tt

constant_less : (w : ℕ) (o : Option Value) (go : Value → Step) (other : Step) → ((v : Value) → Less w (go v))
    → Less w other → Less w (with_constant o go other)
constant_less w None go other p q = q
constant_less w (Some v) go other p q = p v

label_less : (w n : ℕ) (k : Code) (st : Store) (ls vs : List Value) (rest : Sequence) (x : Step) → Less w x
    → Less (1 + w + weight rest) (in_label n k st ls vs rest x)
label_less w n k st ls vs rest (goes st' ls' s) h = omega (arith, operands_then_weight vs (first (label n k s) rest))
label_less w n k st ls vs rest (spends st' ls' s) h = tt
label_less w n k st ls vs rest (finished us) h = omega (arith, operands_then_weight (us ++ vs) rest)
label_less w n end st ls vs rest (leaves zero us) h = omega (arith, operands_then_weight (take n us ++ vs) rest)
label_less w n (next i c) st ls vs rest (leaves zero us) h = tt
label_less w n k st ls vs rest (leaves (suc l) us) h = tt
label_less w n k st ls vs rest (gives_back us) h = tt
label_less w n k st ls vs rest (traps_by t) h = tt
label_less w n k st ls vs rest stuck_here h = tt

frame_less : (w n : ℕ) (st : Store) (ls vs : List Value) (rest : Sequence) (x : Step) → Less w x
    → Less (1 + w + weight rest) (in_frame n st ls vs rest x)
frame_less w n st ls vs rest (goes st' fs s) h = omega (arith, operands_then_weight vs (first (frame n fs s) rest))
frame_less w n st ls vs rest (spends st' fs s) h = tt
frame_less w n st ls vs rest (finished us) h = omega (arith, operands_then_weight (us ++ vs) rest)
frame_less w n st ls vs rest (leaves l us) h = tt
frame_less w n st ls vs rest (gives_back us) h = omega (arith, operands_then_weight (take n us ++ vs) rest)
frame_less w n st ls vs rest (traps_by t) h = tt
frame_less w n st ls vs rest stuck_here h = tt

module _ (m : PureModule) where
  pub step_less : (st : Store) (ls vs : List Value) (s : Sequence) → Less (weight s) (step m st ls vs s)
  step_less st ls vs nothing = tt
  step_less st ls vs (first (plain i) rest) =
      constant_less _ (constant i) _ _ (λ v. more_less (weight rest) _ (step m st ls (v ∷ vs) rest) (omega arith)
      (step_less st ls (v ∷ vs) rest)) (placed_less _ (act m i st ls vs) st ls rest (act_lighter m 0 i st ls vs))
  step_less st ls vs (first (label n k inside) rest) = label_less _ n k st ls vs rest (step m st ls [] inside)
      (step_less st ls [] inside)
  step_less st ls vs (first (frame n fs inside) rest) = frame_less _ n st ls vs rest (step m st fs [] inside)
      (step_less st fs [] inside)

  -- going on in two ways that agree
  follow_same : (x : Step) (st : Store) (w n : ℕ) (on on' : Store → Sequence → End)
      (again again' : ℕ → Store → Sequence → End) → Less w x
      → ((st : Store) (s : Sequence) → weight s < w → on st s ≡ on' st s)
      → ((l : ℕ) (st : Store) (s : Sequence) → l < n → again l st s ≡ again' l st s) → follow x st n on again
      ≡ follow x st n on' again'
  follow_same (goes st' ls s) st w n on on' again again' h p q = p st' s h
  follow_same (spends st' ls s) st w zero on on' again again' h p q = refl
  follow_same (spends st' ls s) st w (suc n) on on' again again' h p q = q n st' s (omega arith)
  follow_same (finished vs) st w n on on' again again' h p q = refl
  follow_same (leaves l vs) st w n on on' again again' h p q = refl
  follow_same (gives_back vs) st w n on on' again again' h p q = refl
  follow_same (traps_by t) st w n on on' again again' h p q = refl
  follow_same stuck_here st w n on on' again again' h p q = refl

  within_same : (again again' : ℕ → Store → Sequence → End) (n : ℕ)
      → ((l : ℕ) (st : Store) (s : Sequence) → l < n → again l st s ≡ again' l st s)
      → (w v : ℕ) (st : Store) (s : Sequence) → weight s < w → weight s < v → execution_within m again w n st s
      ≡ execution_within m again' v n st s
  within_same again again' n q zero v st s p r = absurd (omega arith)
  within_same again again' n q (suc w) zero st s p r = absurd (omega arith)
  within_same again again' n q (suc w) (suc v) st s p r =
      follow_same (step m st [] [] s) st (weight s) n _ _ _ _ (step_less st [] [] s)
      (λ st d lt. within_same again again' n q w v st d (omega arith) (omega arith)) q

  below_same : (b d n : ℕ) (st : Store) (s : Sequence) → n < b → n < d → execution_below m b n st s
      ≡ execution_below m d n st s
  below_same zero d n st s p q = absurd (omega arith)
  below_same (suc b) zero n st s p q = absurd (omega arith)
  below_same (suc b) (suc d) n st s p q =
      within_same _ _ n (λ l st s lt. below_same b d l st s (omega arith) (omega arith)) (suc (weight s))
      (suc (weight s)) st s (omega arith) (omega arith)

  below_execution : (b n : ℕ) (st : Store) (s : Sequence) → n < b → execution_below m b n st s ≡ execution m n st s
  unfolding execution
  below_execution zero n st s p = absurd (omega arith)
  below_execution (suc b) n st s p = within_same _ _ n (λ l st s lt. below_same b n l st s (omega arith) lt)
      (suc (weight s)) (suc (weight s)) st s (omega arith) (omega arith)

  -- the law
  pub execution_is : (n : ℕ) (st : Store) (s : Sequence) → execution m n st s ≡ follow (step m st [] [] s) st n
      (execution m n) (execution m)
  unfolding execution
  execution_is n st s = follow_same (step m st [] [] s) st (weight s) n _ _ _ _ (step_less st [] [] s)
      (λ st d lt. within_same _ _ n (λ l st s lt. refl) (weight s) (suc (weight d)) st d lt (omega arith))
      (λ l st d lt. below_execution n l st d lt)
