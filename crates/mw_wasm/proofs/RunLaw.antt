-- A run of a state taken apart is one rule and then a run, whatever the bounds.
use Rattle.std.proofs.Common.{◌≡◌, ℕ, zero, suc, ◌+◌, ◌<◌, List, [], ◌∷◌, Option, Some, None, refl, subst, arith}
use Rattle.mw_wasm.specs.declared.values.Value.{Value}
use Rattle.mw_wasm.specs.Syntax.{Instruction, Code, end, next, const_i32, PureModule}
use Rattle.mw_wasm.specs.Store.{Store}
use Rattle.mw_wasm.specs.Act as acts
use Rattle.mw_wasm.specs.Act.{Act, constant, act}
use Rattle.mw_wasm.specs.Execution.{instruction_weight, code_weight, End}
use Rattle.mw_wasm.specs.Redex.{Around, in_label, in_frame, Config, Next, moves, goes, spends, ends, traps, stuck}
use Rattle.mw_wasm.specs.Redex.{leave, branch, return_from, placed, with_constant, reduce_code, reduce, around_weight}
use Rattle.mw_wasm.specs.Redex.{config_weight, follow, run_within, run_below, run}
use Rattle.mw_wasm.proofs.ActLaws.{Lighter, act_lighter}

-- what spends nothing goes on with less
abbrev pub Less : ℕ → Next → Type 0
Less w (moves c) = config_weight c < w
Less w (goes c) = config_weight c < w
Less w (spends c) = Unit {0}
Less w (ends st vs) = Unit {0}
Less w (traps t) = Unit {0}
Less w stuck = Unit {0}

branch_less : (w l : ℕ) (st : Store) (ls vs : List Value) (around : List Around) → around_weight around < w
    → Less w (branch l st ls vs around)
branch_less w l st ls vs [] h = tt
branch_less w zero st ls vs (in_label n end us rest ∷ around) h = omega arith
branch_less w zero st ls vs (in_label n (next i c) us rest ∷ around) h = tt
branch_less w (suc l) st ls vs (in_label n k us rest ∷ around) h = branch_less w l st ls vs around (omega arith)
branch_less w zero st ls vs (in_frame n ks us rest ∷ around) h = tt
branch_less w (suc l) st ls vs (in_frame n ks us rest ∷ around) h = tt

return_less : (w : ℕ) (st : Store) (vs : List Value) (around : List Around) → around_weight around < w
    → Less w (return_from st vs around)
return_less w st vs [] h = tt
return_less w st vs (in_label n k us rest ∷ around) h = return_less w st vs around (omega arith)
return_less w st vs (in_frame n ks us rest ∷ around) h = omega arith

leave_less : (st : Store) (ls vs : List Value) (around : List Around)
    → Less (around_weight around) (leave st ls vs around)
leave_less st ls vs [] = tt
leave_less st ls vs (in_label n k us rest ∷ around) = omega arith
leave_less st ls vs (in_frame n ks us rest ∷ around) = omega arith

placed_less : (w : ℕ) (a : Act) (st : Store) (ls : List Value) (rest : Code) (around : List Around) → Lighter 1 w a
    → Less (w + code_weight 1 rest + around_weight around) (placed a st ls rest around)
placed_less w (acts.gives st ls vs None) _ _ rest around h = omega arith
placed_less w (acts.gives st ls vs (Some i)) _ _ rest around h = omega arith
placed_less w (acts.enters n k body vs) st ls rest around h = omega arith
placed_less w (acts.calls n fs body vs) st ls rest around h = tt
placed_less w (acts.breaks l vs) st ls rest around h = branch_less _ l st ls vs around (omega arith)
placed_less w (acts.returns vs) st ls rest around h = return_less _ st vs around (omega arith)
placed_less w (acts.traps t) st ls rest around h = tt
placed_less w acts.stuck st ls rest around h = tt

-- no instruction weighs nothing where a constant weighs 1
positive : (i : Instruction) → 0 < instruction_weight 1 i
positive (const_i32 n) = omega arith
positive i = omega arith

constant_less : (w : ℕ) (o : Option Value) (go : Value → Next) (other : Next) → ((v : Value) → Less w (go v))
    → Less w other → Less w (with_constant o go other)
constant_less w None go other p q = q
constant_less w (Some v) go other p q = p v

module _ (m : PureModule) where
  code_less : (c : Code) (st : Store) (ls vs : List Value) (around : List Around)
      → Less (code_weight 1 c + around_weight around) (reduce_code m c st ls vs around)
  code_less end st ls vs around = subst (λ w. Less w (leave st ls vs around)) (omega arith) (leave_less st ls vs around)
  code_less (next i rest) st ls vs around =
      constant_less _ (constant i) _ _ (λ v. omega (arith, positive i))
      (placed_less _ (act m i st ls vs) st ls rest around (act_lighter m 1 i st ls vs))

  pub reduce_less : (c : Config) → Less (config_weight c) (reduce m c)
  reduce_less c = code_less c.code c.store c.locals c.vs c.around

  -- going on in two ways that agree
  follow_same : (r : Next) (st : Store) (w n : ℕ) (on on' : Config → End) (again again' : ℕ → Config → End) → Less w r
      → ((c : Config) → config_weight c < w → on c ≡ on' c) → ((l : ℕ) (c : Config) → l < n → again l c ≡ again' l c)
      → follow r st n on again ≡ follow r st n on' again'
  follow_same (moves c) st w n on on' again again' h p q = p c h
  follow_same (goes c) st w n on on' again again' h p q = p c h
  follow_same (spends c) st w zero on on' again again' h p q = refl
  follow_same (spends c) st w (suc n) on on' again again' h p q = q n c (omega arith)
  follow_same (ends st' vs) st w n on on' again again' h p q = refl
  follow_same (traps t) st w n on on' again again' h p q = refl
  follow_same stuck st w n on on' again again' h p q = refl

  within_same : (again again' : ℕ → Config → End) (n : ℕ) → ((l : ℕ) (c : Config) → l < n → again l c ≡ again' l c)
      → (w v : ℕ) (c : Config) → config_weight c < w → config_weight c < v → run_within m again w n c
      ≡ run_within m again' v n c
  within_same again again' n q zero v c p r = absurd (omega arith)
  within_same again again' n q (suc w) zero c p r = absurd (omega arith)
  within_same again again' n q (suc w) (suc v) c p r =
      follow_same (reduce m c) c.store (config_weight c) n _ _ _ _ (reduce_less c)
      (λ d lt. within_same again again' n q w v d (omega arith) (omega arith)) q

  below_same : (b d n : ℕ) (c : Config) → n < b → n < d → run_below m b n c ≡ run_below m d n c
  below_same zero d n c p q = absurd (omega arith)
  below_same (suc b) zero n c p q = absurd (omega arith)
  below_same (suc b) (suc d) n c p q = within_same _ _ n (λ l c lt. below_same b d l c (omega arith) (omega arith))
      (suc (config_weight c)) (suc (config_weight c)) c (omega arith) (omega arith)

  below_run : (b n : ℕ) (c : Config) → n < b → run_below m b n c ≡ run m n c
  unfolding run
  below_run zero n c p = absurd (omega arith)
  below_run (suc b) n c p = within_same _ _ n (λ l c lt. below_same b n l c (omega arith) lt) (suc (config_weight c))
      (suc (config_weight c)) c (omega arith) (omega arith)

  -- the law
  pub run_is : (n : ℕ) (c : Config) → run m n c ≡ follow (reduce m c) c.store n (run m n) (run m)
  unfolding run
  run_is n c = follow_same (reduce m c) c.store (config_weight c) n _ _ _ _ (reduce_less c)
      (λ d lt. within_same _ _ n (λ l c lt. refl) (config_weight c) (suc (config_weight d)) d lt (omega arith))
      (λ l d lt. below_run n l d lt)
