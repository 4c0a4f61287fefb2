-- A run of a typed state is never lost.
use Rattle.std.proofs.Common.{◌≡◌, ℕ, zero, suc, ◌<◌, List, [], ◌∷◌, ◌++◌, Some, length, refl, sym, ap, ◌∙◌, subst}
use Rattle.std.proofs.Common.{arith}
use Rattle.std.specs.Prelude.{map, slice_get}
use Rattle.std.proofs.lemmas.List.{map-append}
use Rattle.mw_wasm.specs.declared.values.ValType.{ValType}
use Rattle.mw_wasm.specs.declared.values.Value.{Value}
use Rattle.mw_wasm.specs.NumericTypes.{type_of_value}
use Rattle.mw_wasm.specs.Syntax.{PureModule, Function, end}
use Rattle.mw_wasm.specs.Store.{Store, zero_of}
use Rattle.mw_wasm.specs.Redex.{in_label, in_frame, Config, at, Next, moves, goes, spends, ends, traps, stuck, reduce}
use Rattle.mw_wasm.specs.Redex.{config_weight, follow, run}
use Rattle.mw_wasm.specs.Validity.{IsValid, IsValidFunction, of_end}
use Rattle.mw_wasm.proofs.RunLaw.{Less, reduce_less, run_is}
use Rattle.mw_wasm.proofs.RunIsExecution.{invoked_is_run}
use Rattle.mw_wasm.specs.StateTypes.{StoreIsTyped, ConfigIsTyped, thread, finished, behind}
use Rattle.mw_wasm.specs.Soundness.{NextIsTyped, EndIsTyped, RunsAreSound, InvocationsAreSound}
use Rattle.mw_wasm.proofs.OperandTypes.{no_operands}
use Rattle.mw_wasm.proofs.ActTypes.{all_at, zeros_typed, body_typed}
use Rattle.mw_wasm.proofs.Preservation.{progress_and_preservation}

module _ (m : PureModule) (valid : IsValid m) (final : List ValType) where
  store_typed : {c : Config} → ConfigIsTyped m final c → StoreIsTyped m c.store
  store_typed (thread h) = h.store
  store_typed (finished h) = h.store

  ends_within : (n : ℕ) → ((l : ℕ) (d : Config) → l < n → ConfigIsTyped m final d → EndIsTyped m final (run m l d))
      → (w : ℕ) (c : Config) → config_weight c < w → ConfigIsTyped m final c → EndIsTyped m final (run m n c)
  ends_within n q zero c lt h = absurd (omega arith)
  ends_within n q (suc w) c lt h =
      subst (EndIsTyped m final) (sym (run_is m n c))
      (on (reduce m c) n (λ d less is_typed. ends_within n q w d (omega arith) is_typed) q (reduce_less m c)
      (progress_and_preservation m valid final c h))
    where
      on : (r : Next) (l : ℕ) → ((d : Config) → config_weight d < config_weight c → ConfigIsTyped m final d
          → EndIsTyped m final (run m l d))
          → ((k : ℕ) (d : Config) → k < l → ConfigIsTyped m final d → EndIsTyped m final (run m k d))
          → Less (config_weight c) r → NextIsTyped m final r → EndIsTyped m final (follow r c.store l (run m l) (run m))
      on (moves d) l p q less is_typed = p d less is_typed
      on (goes d) l p q less is_typed = p d less is_typed
      on (spends d) zero p q less is_typed = tt
      on (spends d) (suc l) p q less is_typed = q l d (omega arith) is_typed
      on (ends st vs) l p q less is_typed = is_typed
      on (traps t) l p q less is_typed = store_typed h
      on stuck l p q less is_typed = absurd is_typed

  ends_below : (b n : ℕ) (c : Config) → n < b → ConfigIsTyped m final c → EndIsTyped m final (run m n c)
  ends_below zero n c lt h = absurd (omega arith)
  ends_below (suc b) n c lt h = ends_within n (λ l d less is_typed. ends_below b l d (omega arith) is_typed)
      (suc (config_weight c)) c (omega arith) h

pub runs_are_sound : RunsAreSound
runs_are_sound m valid final n c h = ends_below m valid final (suc n) n c (omega arith) h

-- the state that an invocation begins with
pub invocation_typed : (m : PureModule) → IsValid m → (st : Store) → StoreIsTyped m st
    → (f : ℕ) (args : List Value) (g : Function) (t : _) → slice_get m.funcs f ≡ Some g → slice_get m.types g.kind
    ≡ Some t → map type_of_value args ≡ t.params
    → ConfigIsTyped m t.results
    (at st (args ++ map zero_of g.locals) [] g.body
    (in_label (length t.results) end [] end ∷ in_frame (length t.results) [] [] end ∷ []))
invocation_typed m valid st s f args g t e i a = thread record {
  labels = t.results ∷ [];
  ls = t.params ++ g.locals;
  rs = t.results;
  ins = [];
  outs = t.results;
  store = s;
  locals = map-append type_of_value args (map zero_of g.locals)
      ∙ (ap (λ ts. ts ++ map type_of_value (map zero_of g.locals)) a
      ∙ ap (λ ts. t.params ++ ts) (zeros_typed g.locals));
  operands = no_operands;
  code = body_typed m g t (all_at (IsValidFunction m) m.funcs f g valid.funcs e) i;
  around = (
    t.results,
    [],
    t.results,
    refl,
    record { arity = refl; continues = behind; below = []; operands = no_operands; rest_typed = of_end },
    (refl, refl, record { arity = refl; no_locals = refl; no_operands = refl; no_rest = refl; is_final = refl }),
  );
}

pub invocations_are_sound : InvocationsAreSound
invocations_are_sound m valid st s f args n g t at_f a =
    subst (EndIsTyped m t.results) (sym (invoked_is_run m st f args n g t at_f.is_function at_f.is_type a))
    (runs_are_sound m valid t.results n _ (invocation_typed m valid st s f args g t at_f.is_function at_f.is_type a))
