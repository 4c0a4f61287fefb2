-- No instruction changes the table, and a memory of as many pages as it may have stays so.
use Rattle.std.proofs.Common.{◌≡◌, ℕ, zero, suc, ◌+◌, ◌<◌, Bool, true, false, List, [], ◌∷◌, length, Option, Some, None}
use Rattle.std.proofs.Common.{refl, sym, subst, arith}
use Rattle.std.specs.Prelude.{slice_get, slice_set, nat_le, nat_lt, map, ◌-◌, ◌^◌}
use Rattle.std.proofs.lemmas.Bool.{leb-true}
use Rattle.mw_wasm.specs.declared.values.Value.{Value}
use Rattle.mw_wasm.specs.declared.values.Value.TheVariants.{I32}
use Rattle.mw_wasm.specs.declared.modules.FuncType.{FuncType}
use Rattle.mw_wasm.specs.NumericTypes.{type_of_value, operands_of}
use Rattle.mw_wasm.specs.Numerics.{number_result}
use Rattle.mw_wasm.specs.Syntax.{Instruction, Code, unreachable, nop, block, loop, cond, br, br_if, br_table, give_back}
use Rattle.mw_wasm.specs.Syntax.{call, call_indirect, drop_value, select, local_get, local_set, local_tee, global_get}
use Rattle.mw_wasm.specs.Syntax.{global_set, load, store, memory_size, memory_grow, const_i32, const_i64, numeric, end}
use Rattle.mw_wasm.specs.Syntax.{next, Function, PureModule}
use Rattle.mw_wasm.specs.Store.{Store, is_inside, load_size, store_type, store_size, write_bytes}
use Rattle.mw_wasm.specs.Act as acts
use Rattle.mw_wasm.specs.Act.{Act, constant, same_type, most_pages, more_pages, grown, entered, called, called_at, act}
use Rattle.mw_wasm.specs.Act.{bits_of}
use Rattle.mw_wasm.specs.Redex.{Around, in_label, in_frame, Config, Next, moves, goes, spends, ends, traps, stuck}
use Rattle.mw_wasm.specs.Redex.{leave, branch, return_from, placed, with_constant, reduce_code, reduce, config_weight}
use Rattle.mw_wasm.specs.Redex.{follow, run}
use Rattle.mw_wasm.specs.Execution.{End, ended, trapped, spent, lost, execution}
use Rattle.mw_wasm.specs.Instances.{on_found, invocation, are_arguments, where_they_fit, invoked}
use Rattle.mw_wasm.proofs.Acts.{for_value, for_i32, for_type, for_some, for_true, for_result, for_operands}
use Rattle.mw_wasm.proofs.RunLaw.{Less, reduce_less, run_is}
use Rattle.mw_wasm.proofs.RunIsExecution.{invoked_is_run}
use Rattle.mw_wasm.proofs.Arguments.{same_all}
use Rattle.mw_wasm.specs.StoreShape.{HasShape, StoresKeepShape}

module _ (m : PureModule) (table : List (Option ℕ)) where
  abbrev Good : Store → Type 0
  Good st = HasShape m table st

  abbrev ActKeeps : Act → Type 0
  ActKeeps (acts.gives st ls vs after) = Good st
  ActKeeps _ = Unit {0}

  entered_keeps : (t : FuncType) (f : Function) (vs : List Value) → ActKeeps (entered m t f vs)
  entered_keeps t f vs = for_true ActKeeps (nat_le (length t.params) (length vs)) _ _ tt tt

  called_keeps : (f : ℕ) (vs : List Value) → ActKeeps (called m f vs)
  called_keeps f vs =
      for_some ActKeeps (slice_get m.funcs f) _ _ tt λ f. for_some ActKeeps (slice_get m.types f.kind) _ _ tt λ t.
      entered_keeps t f vs

  called_at_keeps : (t : ℕ) (o : Option (Option ℕ)) (vs : List Value) → ActKeeps (called_at m t o vs)
  called_at_keeps t None vs = tt
  called_at_keeps t (Some None) vs = tt
  called_at_keeps t (Some (Some f)) vs =
      for_some ActKeeps (slice_get m.funcs f) _ _ tt λ f. for_some ActKeeps (slice_get m.types f.kind) _ _ tt λ has.
      for_some ActKeeps (slice_get m.types t) _ _ tt λ wants. for_true ActKeeps (same_type has wants) _ _
      (entered_keeps has f vs) tt

  grown_keeps : (st : Store) (n : ℕ) (ls vs : List Value) → Good st → ActKeeps (grown (most_pages m.memory) n st ls vs)
  grown_keeps st n ls vs g = go (nat_le (st.memory.pages + n) (most_pages m.memory)) refl
    where
      go : (b : Bool) → nat_le (st.memory.pages + n) (most_pages m.memory) ≡ b
          → ActKeeps (acts.where_true b (acts.gives (record st { memory = more_pages n st.memory }) ls
          (I32 st.memory.pages ∷ vs) None) (acts.gives st ls (I32 (2 ^ 32 - 1) ∷ vs) None))
      go true e = record { table_is = g.table_is; pages_are = (let le = leb-true _ _ e in omega (arith, g.pages_are)) }
      go false e = g

  act_keeps : (x : Instruction) (st : Store) (ls vs : List Value) → Good st → ActKeeps (act m x st ls vs)
  act_keeps unreachable st ls vs g = tt
  act_keeps nop st ls vs g = g
  act_keeps (block t body) st ls vs g = tt
  act_keeps (loop t body) st ls vs g = tt
  act_keeps (cond t a b) st ls vs g = for_i32 ActKeeps tt vs _ λ n us. g
  act_keeps (br l) st ls vs g = tt
  act_keeps (br_if l) st ls vs g = for_i32 ActKeeps tt vs _ λ n us. g
  act_keeps (br_table labels l) st ls vs g = for_i32 ActKeeps tt vs _ λ n us. g
  act_keeps give_back st ls vs g = tt
  act_keeps (call f) st ls vs g = called_keeps f vs
  act_keeps (call_indirect t) st ls vs g = for_i32 ActKeeps tt vs _ λ n us. called_at_keeps t (slice_get st.table n) us
  act_keeps drop_value st ls vs g = for_value ActKeeps tt vs _ λ v us. g
  act_keeps select st ls vs g =
      for_i32 ActKeeps tt vs _ λ n us. for_value ActKeeps tt us _ λ b us. for_value ActKeeps tt us _ λ a us. g
  act_keeps (local_get x) st ls vs g = for_some ActKeeps (slice_get ls x) _ _ tt λ v. g
  act_keeps (local_set x) st ls vs g =
      for_value ActKeeps tt vs _ λ v us. for_true ActKeeps (nat_lt x (length ls))
      (acts.gives st (slice_set ls x v) us None) _ g tt
  act_keeps (local_tee x) st ls vs g = for_value ActKeeps tt vs _ λ v us. g
  act_keeps (global_get x) st ls vs g = for_some ActKeeps (slice_get st.globals x) _ _ tt λ v. g
  act_keeps (global_set x) st ls vs g =
      for_value ActKeeps tt vs _ λ v us. for_true ActKeeps (nat_lt x (length st.globals))
      (acts.gives (record st { globals = slice_set st.globals x v }) ls us None) _
      (record { table_is = g.table_is; pages_are = g.pages_are }) tt
  act_keeps (load o align offset) st ls vs g =
      for_i32 ActKeeps tt vs _ λ n us. for_true ActKeeps (is_inside st.memory (n + offset) (load_size o)) _ _ g tt
  act_keeps (store o align offset) st ls vs g =
      for_type ActKeeps tt (store_type o) vs _ λ v us. for_i32 ActKeeps tt us _ λ n us. for_true ActKeeps
      (is_inside st.memory (n + offset) (store_size o)) (acts.gives
      (record st { memory = write_bytes (store_size o) (n + offset) (bits_of v) st.memory }) ls us None) _
      (record { table_is = g.table_is; pages_are = g.pages_are }) tt
  act_keeps memory_size st ls vs g = g
  act_keeps memory_grow st ls vs g = for_i32 ActKeeps tt vs _ λ n us. grown_keeps st n ls us g
  act_keeps (numeric o) st ls vs g =
      for_operands ActKeeps tt (operands_of o) vs _ λ x y us. for_result ActKeeps (number_result o x y)
      (λ z. acts.gives st ls (z ∷ us) None) (λ t. tt) λ z. g
  act_keeps (const_i32 n) st ls vs g = tt
  act_keeps (const_i64 n) st ls vs g = tt

  abbrev NextKeeps : Next → Type 0
  NextKeeps (moves c) = Good c.store
  NextKeeps (goes c) = Good c.store
  NextKeeps (spends c) = Good c.store
  NextKeeps (ends st vs) = Good st
  NextKeeps (traps t) = Unit {0}
  NextKeeps stuck = Unit {0}

  branch_keeps : (l : ℕ) (st : Store) (ls vs : List Value) (around : List Around) → Good st
      → NextKeeps (branch l st ls vs around)
  branch_keeps l st ls vs [] g = tt
  branch_keeps zero st ls vs (in_label n end us rest ∷ around) g = g
  branch_keeps zero st ls vs (in_label n (next i c) us rest ∷ around) g = g
  branch_keeps (suc l) st ls vs (in_label n k us rest ∷ around) g = branch_keeps l st ls vs around g
  branch_keeps zero st ls vs (in_frame n ks us rest ∷ around) g = tt
  branch_keeps (suc l) st ls vs (in_frame n ks us rest ∷ around) g = tt

  return_keeps : (st : Store) (vs : List Value) (around : List Around) → Good st → NextKeeps (return_from st vs around)
  return_keeps st vs [] g = tt
  return_keeps st vs (in_label n k us rest ∷ around) g = return_keeps st vs around g
  return_keeps st vs (in_frame n ks us rest ∷ around) g = g

  leave_keeps : (st : Store) (ls vs : List Value) (around : List Around) → Good st → NextKeeps (leave st ls vs around)
  leave_keeps st ls vs [] g = g
  leave_keeps st ls vs (in_label n k us rest ∷ around) g = g
  leave_keeps st ls vs (in_frame n ks us rest ∷ around) g = g

  placed_keeps : (a : Act) (st : Store) (ls : List Value) (rest : Code) (around : List Around) → Good st → ActKeeps a
      → NextKeeps (placed a st ls rest around)
  placed_keeps (acts.gives st' ls' vs after) st ls rest around g h = h
  placed_keeps (acts.enters n k body vs) st ls rest around g h = g
  placed_keeps (acts.calls n fs body vs) st ls rest around g h = g
  placed_keeps (acts.breaks l vs) st ls rest around g h = branch_keeps l st ls vs around g
  placed_keeps (acts.returns vs) st ls rest around g h = return_keeps st vs around g
  placed_keeps (acts.traps t) st ls rest around g h = tt
  placed_keeps acts.stuck st ls rest around g h = tt

  constant_keeps : (o : Option Value) (go : Value → Next) (other : Next) → ((v : Value) → NextKeeps (go v))
      → NextKeeps other → NextKeeps (with_constant o go other)
  constant_keeps None go other p q = q
  constant_keeps (Some v) go other p q = p v

  code_keeps : (c : Code) (st : Store) (ls vs : List Value) (around : List Around) → Good st
      → NextKeeps (reduce_code m c st ls vs around)
  code_keeps end st ls vs around g = leave_keeps st ls vs around g
  code_keeps (next i rest) st ls vs around g =
      constant_keeps (constant i) _ _ (λ v. g) (placed_keeps (act m i st ls vs) st ls rest around g
      (act_keeps i st ls vs g))

  reduce_keeps : (c : Config) → Good c.store → NextKeeps (reduce m c)
  reduce_keeps c g = code_keeps c.code c.store c.locals c.vs c.around g

  abbrev EndKeeps : End → Type 0
  EndKeeps (ended st vs left) = Good st
  EndKeeps (trapped t st) = Good st
  EndKeeps spent = Unit {0}
  EndKeeps lost = Unit {0}

  ends_within : (n : ℕ) → ((l : ℕ) (d : Config) → l < n → Good d.store → EndKeeps (run m l d)) → (w : ℕ) (c : Config)
      → config_weight c < w → Good c.store → EndKeeps (run m n c)
  ends_within n q zero c lt h = absurd (omega arith)
  ends_within n q (suc w) c lt h =
      subst EndKeeps (sym (run_is m n c)) (on (reduce m c) n (λ d less g. ends_within n q w d (omega arith) g) q
      (reduce_less m c) (reduce_keeps c h))
    where
      on : (r : Next) (l : ℕ) → ((d : Config) → config_weight d < config_weight c → Good d.store → EndKeeps (run m l d))
          → ((k : ℕ) (d : Config) → k < l → Good d.store → EndKeeps (run m k d)) → Less (config_weight c) r
          → NextKeeps r → EndKeeps (follow r c.store l (run m l) (run m))
      on (moves d) l p q less g = p d less g
      on (goes d) l p q less g = p d less g
      on (spends d) zero p q less g = tt
      on (spends d) (suc l) p q less g = q l d (omega arith) g
      on (ends st vs) l p q less g = g
      on (traps t) l p q less g = h
      on stuck l p q less g = tt

  ends_below : (b n : ℕ) (c : Config) → n < b → Good c.store → EndKeeps (run m n c)
  ends_below zero n c lt h = absurd (omega arith)
  ends_below (suc b) n c lt h =
      ends_within n (λ l d less g. ends_below b l d (omega arith) g) (suc (config_weight c)) c (omega arith) h

  fitting : (st : Store) (f : ℕ) (args : List Value) (n : ℕ) (g : Function) (t : FuncType)
      → slice_get m.funcs f ≡ Some g → slice_get m.types g.kind ≡ Some t → map type_of_value args ≡ t.params → Good st
      → EndKeeps (invoked m st f args n)
  fitting st f args n g t is_g is_t fit good =
      subst EndKeeps (sym (invoked_is_run m st f args n g t is_g is_t fit)) (ends_below (suc n) n _ (omega arith) good)

-- an invocation that ended was one of a function with arguments of its parameters' types
pub record Fitting (m : PureModule) (f : ℕ) (args : List Value) : Type 0 where
  pub function : Function
  pub type : FuncType
  pub is_function : slice_get m.funcs f ≡ Some function
  pub is_type : slice_get m.types function.kind ≡ Some type
  pub fits : map type_of_value args ≡ type.params

pub ended_fits : (m : PureModule) (st after : Store) (f : ℕ) (args vs : List Value) (n left : ℕ)
    → invoked m st f args n ≡ ended after vs left → Fitting m f args
ended_fits m st after f args vs n left e = first (slice_get m.funcs f) refl e
  where
    third : (g : Function) (t : FuncType) → slice_get m.funcs f ≡ Some g → slice_get m.types g.kind ≡ Some t
        → (b : Bool) → are_arguments t.params args ≡ b → where_they_fit b
        (execution m n st (invocation t g args)) ≡ ended after vs left → Fitting m f args
    third g t p q true r e =
        record {
          function = g;
          type = t;
          is_function = p;
          is_type = q;
          fits = sym
              (same_all t.params (map type_of_value args) r);
        }
    third g t p q false r e = absurd (cc)

    second : (g : Function) → slice_get m.funcs f ≡ Some g → (o : Option FuncType) → slice_get m.types g.kind ≡ o
        → on_found o (λ t. where_they_fit (are_arguments t.params args) (execution m n st (invocation t g args)))
        ≡ ended after vs left → Fitting m f args
    second g p None q e = absurd (cc)
    second g p (Some t) q e = third g t p q (are_arguments t.params args) refl e

    first : (o : Option Function) → slice_get m.funcs f ≡ o → on_found o
        (λ g. on_found (slice_get m.types g.kind) λ t. where_they_fit (are_arguments t.params args)
        (execution m n st (invocation t g args))) ≡ ended after vs left → Fitting m f args
    first None p e = absurd (cc)
    first (Some g) p e = second g p (slice_get m.types g.kind) refl e

pub stores_keep_shape : StoresKeepShape
stores_keep_shape m table st after f args vs n left good e =
    let h = ended_fits m st after f args vs n left e in
    subst (EndKeeps m table) e (fitting m table st f args n h.function h.type h.is_function h.is_type h.fits good)
