-- One rule of a state taken apart is one rule of the whole.
use Rattle.std.proofs.Common.{◌≡◌, ℕ, zero, suc, List, [], ◌∷◌, ◌++◌, Some, None, refl, sym, ap, ◌∙◌}
use Rattle.std.proofs.lemmas.List.{append-nil}
use Rattle.mw_wasm.specs.declared.values.Value.{Value}
use Rattle.mw_wasm.specs.declared.values.Value.TheVariants.{I32, I64}
use Rattle.mw_wasm.specs.declared.values.Trap.{Trap}
use Rattle.mw_wasm.specs.Syntax.{Code, end, next, const_i32, const_i64, PureModule}
use Rattle.mw_wasm.specs.Store.{Store}
use Rattle.mw_wasm.specs.Act as acts
use Rattle.mw_wasm.specs.Act.{Act, act}
use Rattle.mw_wasm.specs.Reduction as reduction
use Rattle.mw_wasm.specs.Reduction.{plain, label, frame, Sequence, nothing, first, code_then, operands_then, Step}
use Rattle.mw_wasm.specs.Reduction.{finished, leaves, gives_back, traps_by, stuck_here, step}
use Rattle.mw_wasm.specs.Redex as redex
use Rattle.mw_wasm.specs.Redex.{Around, in_label, in_frame, Config, at, followed_by, leave, branch, return_from}
use Rattle.mw_wasm.specs.Redex.{put_around, plugged, outermost, reduce_code, reduce}
use Rattle.mw_wasm.specs.ReductionLaws.{IsOff, IsOneRule}

followed : (c rest : Code) (s : Sequence) → code_then (followed_by c rest) s ≡ code_then c (code_then rest s)
followed end rest s = refl
followed (next i c) rest s = ap (λ s. first (plain i) s) (followed c rest s)

-- what a rule inside makes of the whole
wrap : List Around → Store → List Value → Step → Step
wrap [] st ls x = x
wrap (in_label n k us rest ∷ around) st ls x =
    wrap around st ls (reduction.in_label n k st ls us (code_then rest nothing) x)
wrap (in_frame n ks us rest ∷ around) st ls x =
    wrap around st ks (reduction.in_frame n st ks us (code_then rest nothing) x)

wrap_goes : (around : List Around) (st : Store) (ls : List Value) (st' : Store) (ls' : List Value) (s : Sequence)
    → wrap around st ls (reduction.goes st' ls' s) ≡ reduction.goes st' (outermost around ls') (put_around around ls' s)
unfolding wrap
wrap_goes [] st ls st' ls' s = refl
wrap_goes (in_label n k us rest ∷ around) st ls st' ls' s = wrap_goes around st ls st' ls' _
wrap_goes (in_frame n ks us rest ∷ around) st ls st' ls' s = wrap_goes around st ks st' ks _

wrap_spends : (around : List Around) (st : Store) (ls : List Value) (st' : Store) (ls' : List Value) (s : Sequence)
    → wrap around st ls (reduction.spends st' ls' s) ≡ reduction.spends st' (outermost around ls')
    (put_around around ls' s)
unfolding wrap
wrap_spends [] st ls st' ls' s = refl
wrap_spends (in_label n k us rest ∷ around) st ls st' ls' s = wrap_spends around st ls st' ls' _
wrap_spends (in_frame n ks us rest ∷ around) st ls st' ls' s = wrap_spends around st ks st' ks _

wrap_traps : (around : List Around) (st : Store) (ls : List Value) (t : Trap) → wrap around st ls (traps_by t)
    ≡ traps_by t
unfolding wrap
wrap_traps [] st ls t = refl
wrap_traps (in_label n k us rest ∷ around) st ls t = wrap_traps around st ls t
wrap_traps (in_frame n ks us rest ∷ around) st ls t = wrap_traps around st ks t

wrap_stuck : (around : List Around) (st : Store) (ls : List Value) → wrap around st ls stuck_here ≡ stuck_here
unfolding wrap
wrap_stuck [] st ls = refl
wrap_stuck (in_label n k us rest ∷ around) st ls = wrap_stuck around st ls
wrap_stuck (in_frame n ks us rest ∷ around) st ls = wrap_stuck around st ks

wrap_off : (around : List Around) (st : Store) (ls : List Value) → IsOff (wrap around st ls stuck_here)
wrap_off around st ls = rw (wrap_stuck around st ls) tt

leave_is : (c : Config) (ls vs : List Value) (around : List Around) → IsOneRule c (wrap around c.store ls (finished vs))
    (leave c.store ls vs around)
unfolding wrap
leave_is c ls vs [] = (refl, refl)
leave_is c ls vs (in_label n k us rest ∷ around) = wrap_goes around c.store ls c.store ls _
leave_is c ls vs (in_frame n ks us rest ∷ around) = wrap_goes around c.store ks c.store ks _

branch_is : (l : ℕ) (c : Config) (ls vs : List Value) (around : List Around)
    → IsOneRule c (wrap around c.store ls (leaves l vs)) (branch l c.store ls vs around)
unfolding wrap
branch_is l c ls vs [] = tt
branch_is zero c ls vs (in_label n end us rest ∷ around) = wrap_goes around c.store ls c.store ls _
branch_is zero c ls vs (in_label n (next i k) us rest ∷ around) =
    rw (followed k rest nothing) (wrap_spends around c.store ls c.store ls _)
branch_is (suc l) c ls vs (in_label n k us rest ∷ around) = branch_is l c ls vs around
branch_is zero c ls vs (in_frame n ks us rest ∷ around) = wrap_off around c.store ks
branch_is (suc l) c ls vs (in_frame n ks us rest ∷ around) = wrap_off around c.store ks

return_is : (c : Config) (ls vs : List Value) (around : List Around)
    → IsOneRule c (wrap around c.store ls (gives_back vs)) (return_from c.store vs around)
unfolding wrap
return_is c ls vs [] = tt
return_is c ls vs (in_label n k us rest ∷ around) = return_is c ls vs around
return_is c ls vs (in_frame n ks us rest ∷ around) = wrap_goes around c.store ks c.store ks _

placed_is : (a : Act) (c : Config) (ls : List Value) (rest : Code) (around : List Around)
    → IsOneRule c (wrap around c.store ls (reduction.placed a c.store ls (code_then rest nothing)))
    (redex.placed a c.store ls rest around)
placed_is (acts.gives st' ls' vs None) c ls rest around = wrap_goes around c.store ls st' ls' _
placed_is (acts.gives st' ls' vs (Some i)) c ls rest around = wrap_goes around c.store ls st' ls' _
placed_is (acts.enters n k body vs) c ls rest around = wrap_goes around c.store ls c.store ls _
placed_is (acts.calls n fs body vs) c ls rest around = wrap_spends around c.store ls c.store ls _
placed_is (acts.breaks l vs) c ls rest around = branch_is l c ls vs around
placed_is (acts.returns vs) c ls rest around = return_is c ls vs around
placed_is (acts.traps t) c ls rest around = wrap_traps around c.store ls t
placed_is acts.stuck c ls rest around = wrap_off around c.store ls

module _ (m : PureModule) where
  -- operands before a sequence are passed as constants
  behind : (st : Store) (ls us vs : List Value) (s : Sequence) → step m st ls vs (operands_then us s)
      ≡ step m st ls (us ++ vs) s
  behind st ls [] vs s = refl
  behind st ls (I32 n ∷ us) vs s = behind st ls us vs (first (plain (const_i32 n)) s)
  behind st ls (I64 n ∷ us) vs s = behind st ls us vs (first (plain (const_i64 n)) s)

  past : (st : Store) (ls us : List Value) (s : Sequence) → step m st ls [] (operands_then us s) ≡ step m st ls us s
  past st ls us s = behind st ls us [] s ∙ ap (λ vs. step m st ls vs s) (append-nil us)

  -- one rule of the whole is what one inside makes of it
  put_step : (around : List Around) (st : Store) (ls : List Value) (s : Sequence) → step m st (outermost around ls) []
      (put_around around ls s) ≡ wrap around st ls (step m st ls [] s)
  unfolding wrap
  put_step [] st ls s = refl
  put_step (in_label n k us rest ∷ around) st ls s = put_step around st ls _ ∙ ap (λ x. wrap around st ls x)
      (past st ls us (first (label n k s) (code_then rest nothing)))
  put_step (in_frame n ks us rest ∷ around) st ls s = put_step around st ks _ ∙ ap (λ x. wrap around st ks x)
      (past st ks us (first (frame n ls s) (code_then rest nothing)))

  -- at the redex
  code_is : (code : Code) (c : Config) (ls vs : List Value) (around : List Around)
      → (plugged c ≡ plugged (at c.store ls vs code around)) → (outermost around ls ≡ outermost c.around c.locals)
      → IsOneRule c (wrap around c.store ls (step m c.store ls vs (code_then code nothing)))
      (reduce_code m code c.store ls vs around)
  code_is end c ls vs around p q = leave_is c ls vs around
  code_is (next (const_i32 n) rest) c ls vs around p q = (refl, q, sym p)
  code_is (next (const_i64 n) rest) c ls vs around p q = (refl, q, sym p)
  code_is (next i rest) c ls vs around p q = placed_is (act m i c.store ls vs) c ls rest around

  pub one_rule : (c : Config) → IsOneRule c (step m c.store (outermost c.around c.locals) [] (plugged c)) (reduce m c)
  one_rule c =
      rw (
        put_step c.around c.store c.locals (operands_then c.vs (code_then c.code nothing)),
        past c.store c.locals c.vs (code_then c.code nothing),
      )
      (code_is c.code c c.locals c.vs c.around refl refl)
