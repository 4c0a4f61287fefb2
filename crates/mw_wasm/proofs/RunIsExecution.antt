-- A run of a state taken apart is the execution of the whole.
use Rattle.std.proofs.Common.{◌≡◌, ℕ, zero, suc, ◌<◌, List, [], ◌∷◌, ◌++◌, Some, map, refl, sym, ap, ◌∙◌, arith, length}
use Rattle.std.specs.Prelude.{slice_get}
use Rattle.std.proofs.lemmas.List.{nil_from_length, append-nil}
use Rattle.mw_wasm.specs.declared.values.Value.{Value}
use Rattle.mw_wasm.specs.declared.modules.FuncType.{FuncType}
use Rattle.mw_wasm.specs.NumericTypes.{type_of_value}
use Rattle.mw_wasm.specs.Syntax.{PureModule, Function, Code, end, next, const_i32, const_i64}
use Rattle.mw_wasm.specs.Store.{Store, zero_of}
use Rattle.mw_wasm.specs.Act as acts
use Rattle.mw_wasm.specs.Act.{Act, act}
use Rattle.mw_wasm.specs.Reduction as reduction
use Rattle.mw_wasm.specs.Reduction.{Sequence, Step, step}
use Rattle.mw_wasm.specs.Execution as executions
use Rattle.mw_wasm.specs.Execution.{End, ended, trapped, spent, lost, execution}
use Rattle.mw_wasm.specs.Redex as redex
use Rattle.mw_wasm.specs.Redex.{Around, in_label, in_frame, Config, at, Next, moves, goes, spends, ends, traps, stuck}
use Rattle.mw_wasm.specs.Redex.{leave, branch, return_from, outermost, top_locals, plugged, reduce_code, reduce}
use Rattle.mw_wasm.specs.Redex.{config_weight, run}
use Rattle.mw_wasm.specs.Instances.{invoked}
use Rattle.mw_wasm.specs.ReductionLaws.{IsOff, IsOneRule, RunIsExecution}
use Rattle.mw_wasm.proofs.ActLaws.{KeepsLocals, act_keeps}
use Rattle.mw_wasm.proofs.Arguments.{arguments_are_taken}
use Rattle.mw_wasm.proofs.ExecutionLaw.{execution_is}
use Rattle.mw_wasm.proofs.OneRule.{one_rule}
use Rattle.mw_wasm.proofs.RunLaw.{Less, reduce_less, run_is}

-- no rule changes how many locals there are outside all frames
abbrev Keeps : ℕ → Next → Type 0
Keeps k (moves c) = length (top_locals c) ≡ k
Keeps k (goes c) = length (top_locals c) ≡ k
Keeps k (spends c) = length (top_locals c) ≡ k
Keeps k (ends st vs) = Unit {0}
Keeps k (traps t) = Unit {0}
Keeps k stuck = Unit {0}

outermost_long : (around : List Around) (ls ks : List Value) → length ls ≡ length ks → length (outermost around ls)
    ≡ length (outermost around ks)
outermost_long [] ls ks h = h
outermost_long (in_label n k us rest ∷ around) ls ks h = outermost_long around ls ks h
outermost_long (in_frame n gs us rest ∷ around) ls ks h = refl

leave_keeps : (st : Store) (ls vs : List Value) (around : List Around) → Keeps (length (outermost around ls))
    (leave st ls vs around)
leave_keeps st ls vs [] = tt
leave_keeps st ls vs (in_label n k us rest ∷ around) = refl
leave_keeps st ls vs (in_frame n ks us rest ∷ around) = refl

branch_keeps : (l : ℕ) (st : Store) (ls vs : List Value) (around : List Around) → Keeps (length (outermost around ls))
    (branch l st ls vs around)
branch_keeps l st ls vs [] = tt
branch_keeps zero st ls vs (in_label n end us rest ∷ around) = refl
branch_keeps zero st ls vs (in_label n (next i k) us rest ∷ around) = refl
branch_keeps (suc l) st ls vs (in_label n k us rest ∷ around) = branch_keeps l st ls vs around
branch_keeps zero st ls vs (in_frame n ks us rest ∷ around) = tt
branch_keeps (suc l) st ls vs (in_frame n ks us rest ∷ around) = tt

return_keeps : (st : Store) (ls vs : List Value) (around : List Around) → Keeps (length (outermost around ls))
    (return_from st vs around)
return_keeps st ls vs [] = tt
return_keeps st ls vs (in_label n k us rest ∷ around) = return_keeps st ls vs around
return_keeps st ls vs (in_frame n ks us rest ∷ around) = refl

placed_keeps : (a : Act) (st : Store) (ls : List Value) (rest : Code) (around : List Around) → KeepsLocals (length ls) a
    → Keeps (length (outermost around ls)) (redex.placed a st ls rest around)
placed_keeps (acts.gives st' ls' vs o) st ls rest around h = outermost_long around ls' ls h
placed_keeps (acts.enters n k body vs) st ls rest around h = refl
placed_keeps (acts.calls n fs body vs) st ls rest around h = refl
placed_keeps (acts.breaks l vs) st ls rest around h = branch_keeps l st ls vs around
placed_keeps (acts.returns vs) st ls rest around h = return_keeps st ls vs around
placed_keeps (acts.traps t) st ls rest around h = tt
placed_keeps acts.stuck st ls rest around h = tt

module _ (m : PureModule) where
  code_keeps : (code : Code) (st : Store) (ls vs : List Value) (around : List Around)
      → Keeps (length (outermost around ls)) (reduce_code m code st ls vs around)
  code_keeps end st ls vs around = leave_keeps st ls vs around
  code_keeps (next (const_i32 n) rest) st ls vs around = refl
  code_keeps (next (const_i64 n) rest) st ls vs around = refl
  code_keeps (next i rest) st ls vs around = placed_keeps (act m i st ls vs) st ls rest around (act_keeps m i st ls vs)

  reduce_keeps : (c : Config) → Keeps (length (top_locals c)) (reduce m c)
  reduce_keeps c = code_keeps c.code c.store c.locals c.vs c.around

  off_is_lost : (x : Step) (st : Store) (n : ℕ) → IsOff x → lost ≡ executions.follow x st n (execution m n)
      (execution m)
  off_is_lost (reduction.goes st' ls s) st n h = absurd h
  off_is_lost (reduction.spends st' ls s) st n h = absurd h
  off_is_lost (reduction.finished vs) st n h = absurd h
  off_is_lost (reduction.leaves l vs) st n h = refl
  off_is_lost (reduction.gives_back vs) st n h = refl
  off_is_lost (reduction.traps_by t) st n h = absurd h
  off_is_lost reduction.stuck_here st n h = refl

  -- a run goes on from one rule as the execution of the whole does
  follow_is : (r : Next) (x : Step) (c : Config) (n : ℕ) → IsOneRule c x r → Less (config_weight c) r → Keeps 0 r
      → ((d : Config) → config_weight d < config_weight c → top_locals d ≡ [] → run m n d ≡ execution m n d.store
      (plugged d))
      → ((l : ℕ) (d : Config) → l < n → top_locals d ≡ [] → run m l d ≡ execution m l d.store (plugged d))
      → execution m n c.store (plugged c) ≡ executions.follow x c.store n (execution m n) (execution m)
      → redex.follow r c.store n (run m n) (run m) ≡ execution m n c.store (plugged c)
  follow_is (moves d) x c n a h k p q law = p d h (nil_from_length (top_locals d) k) ∙ cc (a.0, a.2)
  follow_is (goes d) x c n a h k p q law = p d h (nil_from_length (top_locals d) k)
      ∙ sym (law ∙ ap (λ x. executions.follow x c.store n (execution m n) (execution m)) a)
  follow_is (spends d) x c zero a h k p q law =
      sym (law ∙ ap (λ x. executions.follow x c.store zero (execution m zero) (execution m)) a)
  follow_is (spends d) x c (suc n) a h k p q law = q n d (omega arith) (nil_from_length (top_locals d) k)
      ∙ sym (law ∙ ap (λ x. executions.follow x c.store (suc n) (execution m (suc n)) (execution m)) a)
  follow_is (ends st vs) x c n a h k p q law = ap (λ st. ended st vs n) a.0
      ∙ sym (law ∙ ap (λ x. executions.follow x c.store n (execution m n) (execution m)) a.1)
  follow_is (traps t) x c n a h k p q law =
      sym (law ∙ ap (λ x. executions.follow x c.store n (execution m n) (execution m)) a)
  follow_is stuck x c n a h k p q law = off_is_lost x c.store n a ∙ sym law

  law_at : (n : ℕ) (c : Config) (ls : List Value) → ls ≡ [] → execution m n c.store (plugged c)
      ≡ executions.follow (step m c.store ls [] (plugged c)) c.store n (execution m n) (execution m)
  law_at n c ls h = rw h (execution_is m n c.store (plugged c))

  keeps_none : (r : Next) (ls : List Value) → ls ≡ [] → Keeps (length ls) r → Keeps 0 r
  keeps_none r ls e h = rw e at h

  within_is : (n : ℕ)
      → ((l : ℕ) (d : Config) → l < n → top_locals d ≡ [] → run m l d ≡ execution m l d.store (plugged d))
      → (w : ℕ) (c : Config) → config_weight c < w → top_locals c ≡ [] → run m n c ≡ execution m n c.store (plugged c)
  within_is n q zero c lt h = absurd (omega arith)
  within_is n q (suc w) c lt h =
      run_is m n c ∙ follow_is (reduce m c) (step m c.store (top_locals c) [] (plugged c)) c n (one_rule m c)
      (reduce_less m c) (keeps_none (reduce m c) (top_locals c) h (reduce_keeps c))
      (λ d less none. within_is n q w d (omega arith) none) q (law_at n c (top_locals c) h)

  below_is : (b n : ℕ) (c : Config) → n < b → top_locals c ≡ [] → run m n c ≡ execution m n c.store (plugged c)
  below_is zero n c lt h = absurd (omega arith)
  below_is (suc b) n c lt h = within_is n (λ l d less none. below_is b l d (omega arith) none) (suc (config_weight c)) c
      (omega arith) h

pub run_is_execution : RunIsExecution
run_is_execution m n c h = below_is m (suc n) n c (omega arith) h

-- an invocation with arguments of its function's types, as a run of the state taken apart
pub invoked_is_run : (m : PureModule) (st : Store) (f : ℕ) (args : List Value) (n : ℕ) (g : Function) (t : FuncType)
    → slice_get m.funcs f ≡ Some g → slice_get m.types g.kind ≡ Some t → map type_of_value args ≡ t.params
    → invoked m st f args n
    ≡ run m n (at st (args ++ map zero_of g.locals) [] g.body
    (in_label (length t.results) end [] end ∷ in_frame (length t.results) [] [] end ∷ []))
invoked_is_run m st f args n g t is_g is_t fit = arguments_are_taken m st f args n g t record
    { is_function = is_g; is_type = is_t } fit
    ∙ sym (run_is_execution m n
    (at st (args ++ map zero_of g.locals) [] g.body
    (in_label (length t.results) end [] end ∷ in_frame (length t.results) [] [] end ∷ [])) refl)

-- at the end of a function's body its values are what the invocation gives
pub leaves_all : (m : PureModule) (n k : ℕ) (st : Store) (ls vs : List Value)
    → run m n (at st ls vs end (in_label k end [] end ∷ in_frame k [] [] end ∷ [])) ≡ ended st vs n
leaves_all m n k st ls vs =
    run_is m n (at st ls vs end (in_label k end [] end ∷ in_frame k [] [] end ∷ []))
    ∙ (ap (λ us. run m n (at st ls us end (in_frame k [] [] end ∷ []))) (append-nil vs)
    ∙ (run_is m n (at st ls vs end (in_frame k [] [] end ∷ []))
    ∙ (ap (λ us. run m n (at st [] us end [])) (append-nil vs)
    ∙ run_is m n (at st [] vs end []))))
