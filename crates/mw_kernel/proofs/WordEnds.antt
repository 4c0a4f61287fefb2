-- How invocations that give one word end.
use Rattle.std.proofs.Common.{◌≡◌, ℕ, zero, suc, ◌≤◌, List, [], ◌∷◌, map, Option, Some, None, refl, sym, ap}
use Rattle.std.proofs.Common.{◌∙◌, subst, arith}
use Rattle.std.specs.Prelude.{slice_get, replicate}
use Rattle.std.proofs.lemmas.List.{map-append, replicate-append-replicate}
use Rattle.mw_term.specs.Terms.{GroundType, PureGroundValue, base, product, int, bool, both, ground_value}
use Rattle.mw_term.specs.declared.term.Base.TheVariants.{Int, Bool as Truth}
use Rattle.mw_term.specs.declared.value.Limit.TheVariants.{Fuel, Heap}
use Rattle.mw_term.specs.declared.value.TrapKind.TheVariants as kind
use Rattle.mw_meaning.specs.GroundValues.{HasGroundType, IsArgument}
use Rattle.mw_meaning.specs.Shapes.{leaf_count}
use Rattle.mw_meaning.specs.StandingFor.{leaves}
use Rattle.mw_wasm.specs.declared.modules.Func.{Func}
use Rattle.mw_wasm.specs.declared.modules.Module.{Module}
use Rattle.mw_wasm.specs.declared.values.Trap.{Trap}
use Rattle.mw_wasm.specs.declared.values.Trap.TheVariants as traps
use Rattle.mw_wasm.specs.declared.values.ValType.TheVariants.{I64 as i64}
use Rattle.mw_wasm.specs.declared.values.Value.TheVariants.{I32, I64}
use Rattle.mw_wasm.specs.declared.values.Value.{Value as WasmValue}
use Rattle.mw_wasm.specs.Execution.{End, ended, trapped, spent}
use Rattle.mw_wasm.specs.Instances.{exported, invoked}
use Rattle.mw_wasm.specs.NumericTypes.{type_of_value}
use Rattle.mw_wasm.specs.Soundness.{EndIsTyped}
use Rattle.mw_wasm.specs.Store.{Store}
use Rattle.mw_wasm.specs.Syntax.{Function, PureModule}
use Rattle.mw_wasm.specs.Views.{module_of, function_of}
use Rattle.mw_wasm.proofs.Soundness.{invocations_are_sound}
use Rattle.mw_exec.specs.declared.ended.Ended.{Ended}
use Rattle.mw_exec.specs.declared.ended.Ended.TheVariants as ends
use Rattle.mw_exec.specs.Instancing.{CanInvoke, EndsAs, values_of}
use Rattle.mw_kernel.specs.declared.outcome.Outcome.{Outcome}
use Rattle.mw_kernel.specs.declared.outcome.Outcome.TheVariants as outcome
use Rattle.mw_kernel.specs.RunningStates.{IsStoreOf}
use Rattle.mw_kernel.specs.Invoking.{GivesWord, IsOneWord, IsOutcomeOf, EndsAsOutcome, LeavesStore}
use Rattle.mw_kernel.specs.KernelAnswers.{FitsWords}
use Rattle.mw_kernel.proofs.Units.{Leaves, invoked_leaves}

-- an exported function can be invoked with arguments of its types
record FunctionAt (fs : List Func) (i : ℕ) (f : Function) : Type 0 where
  pub function : Func
  pub there : slice_get fs i ≡ Some function
  pub is : function_of function ≡ f

function_at : (fs : List Func) (i : ℕ) (f : Function) → slice_get (map function_of fs) i ≡ Some f → FunctionAt fs i f
function_at [] i f e = absurd (cc)
function_at (g ∷ fs) zero f e = record { function = g; there = refl; is = cc }
function_at (g ∷ fs) (suc i) f e = let found = function_at fs i f e in
    record { function = found.function; there = found.there; is = found.is }

pub can_invoke : (wasm : Module) (st : Store) (name : List ℕ) (args : List WasmValue) → GivesWord wasm st name args
    → CanInvoke wasm name args
can_invoke wasm st name args h =
    let found = function_at wasm.funcs h.is_there.index h.is_there.function h.is_there.is_function in
    record {
      function = found.function;
      type = h.type;
      there = record {
        index = h.is_there.index;
        is_exported = h.is_there.is_exported;
        is_function = found.there;
        is_type = ap (λ (f : Function). slice_get wasm.types f.kind) found.is ∙ h.is_there.has_type;
      };
      fit = h.fit;
    }

-- the end as it is to a kernel
pub record IsWordEnd (m : PureModule) (end : Ended) (after : Store) (e : End) : Type 0 where
  pub one : IsOneWord end
  pub ends : (o : Outcome) → IsOutcomeOf end o → EndsAsOutcome o after e
  pub store : (o : Outcome) → IsOutcomeOf end o → LeavesStore o m after

one_i64 : (v : Option WasmValue) (vs : List WasmValue) → values_of v ≡ vs → map type_of_value vs ≡ i64 ∷ [] → (k : ℕ)
    × (v ≡ Some (I64 k))
one_i64 None vs e h = let p : [] ≡ i64 ∷ [] = ap (λ vs. map type_of_value vs) e ∙ h in absurd (cc)
one_i64 (Some (I32 k)) vs e h = let p : type_of_value (I32 k) ∷ [] ≡ i64 ∷ [] = ap (λ vs. map type_of_value vs) e ∙ h in
    absurd (cc)
one_i64 (Some (I64 k)) vs e h = (k, refl)

module _ (m : PureModule) (after : Store) where
  word_end : (n left units : ℕ) (st : Store) (vs : List WasmValue) → I64 n ∷ [] ≡ vs → left ≡ units → after ≡ st
      → IsStoreOf m after → IsWordEnd m (ends.Ended (Some (I64 n)) left) after (ended st vs units)
  word_end n left units st vs e f g h = record { one = tt; ends = word; store = kept }
    where
      word : (o : Outcome) → IsOutcomeOf (ends.Ended (Some (I64 n)) left) o → EndsAsOutcome o after (ended st vs units)
      word (outcome.Word k l) x = cc (x.0, x.1)
      word o x = absurd x

      kept : (o : Outcome) → IsOutcomeOf (ends.Ended (Some (I64 n)) left) o → LeavesStore o m after
      kept (outcome.Word k l) x = h
      kept o x = absurd x

  trap_ends : (t : Trap) (o : Outcome) (st : Store) → IsOutcomeOf (ends.Trapped t) o → after ≡ st
      → EndsAsOutcome o after (trapped t st)
  trap_ends traps.Divide (outcome.Trap kind.Divide) st x g = rw g refl
  trap_ends traps.Overflow (outcome.Trap kind.Overflow) st x g = rw g refl
  trap_ends traps.OutOfBounds (outcome.Bound Heap) st x g = rw g refl
  trap_ends traps.Unreachable outcome.Stray st x g = (traps.Unreachable, tt, rw g refl)
  trap_ends traps.UndefinedElement outcome.Stray st x g = (traps.UndefinedElement, tt, rw g refl)
  trap_ends traps.Uninitialized outcome.Stray st x g = (traps.Uninitialized, tt, rw g refl)
  trap_ends traps.WrongType outcome.Stray st x g = (traps.WrongType, tt, rw g refl)
  trap_ends _ _ st x g = absurd x

  trap_keeps : (t : Trap) (o : Outcome) → IsOutcomeOf (ends.Trapped t) o → IsStoreOf m after → LeavesStore o m after
  trap_keeps t (outcome.Bound Fuel) x h = tt
  trap_keeps t o x h = h

  spent_ends : (o : Outcome) → IsOutcomeOf ends.Spent o → EndsAsOutcome o after spent
  spent_ends (outcome.Bound Fuel) x = refl
  spent_ends _ x = absurd x

  spent_keeps : (o : Outcome) → IsOutcomeOf ends.Spent o → LeavesStore o m after
  spent_keeps (outcome.Bound Fuel) x = tt
  spent_keeps _ x = absurd x

  store_again : (st : Store) → after ≡ st → IsStoreOf m st → IsStoreOf m after
  store_again st e h = subst (IsStoreOf m) (sym e) h

  ends_as_word : (n : ℕ) (end : Ended) (e : End) → EndsAs end after e → EndIsTyped m (i64 ∷ []) e → Leaves 65536 n e
      → IsWordEnd m end after e
  ends_as_word n (ends.Ended v left) (ended st vs units) h t l =
      let one = one_i64 v vs h.0 t.1.types in
      subst (λ v. IsWordEnd m (ends.Ended v left) after (ended st vs units)) (sym one.1)
      (word_end one.0 left units st vs (ap values_of (sym one.1) ∙ h.0) h.1 h.2
      (store_again st h.2 record { typed = t.0; few = l.1 }))
  ends_as_word n (ends.Trapped u) (trapped t st) h s l =
      subst (λ u. IsWordEnd m (ends.Trapped u) after (trapped t st)) (sym h.0)
      record {
        one = tt;
        ends = λ o x. trap_ends t o st x h.1;
        store = λ o x.
            trap_keeps t o x (store_again st h.1 record { typed = s; few = l });
      }
  ends_as_word n ends.Spent spent h t l = record { one = tt; ends = spent_ends; store = spent_keeps }
  ends_as_word n end e h s l = absurd h

same_number : {o : Option ℕ} {f g : ℕ} → o ≡ Some f → o ≡ Some g → g ≡ f
same_number e f = cc

-- an invocation of a function that gives one word
pub word_ends : (wasm : Module) (st after : Store) (name : List ℕ) (args : List WasmValue) (n f : ℕ) (end : Ended)
    → GivesWord wasm st name args → exported (module_of wasm) name ≡ Some f
    → EndsAs end after (invoked (module_of wasm) st f args n) → IsWordEnd (module_of wasm) end after
    (invoked (module_of wasm) st f args n)
word_ends wasm st after name args n f end h e x =
    let m = module_of wasm in
    let is : h.is_there.index ≡ f = same_number e h.is_there.is_exported in
    let sound = invocations_are_sound m h.valid st h.store.typed h.is_there.index args n h.is_there.function h.type
    record { is_function = h.is_there.is_function; is_type = h.is_there.has_type } h.fit in
    let typed : EndIsTyped m (i64 ∷ []) (invoked m st f args n) =
    subst (λ f. EndIsTyped m (i64 ∷ []) (invoked m st f args n)) is
    (subst (λ ts. EndIsTyped m ts (invoked m st h.is_there.index args n)) h.word sound) in
    let large : 1024 ≤ 65536 = omega arith in
    ends_as_word m after n end (invoked m st f args n) x typed (invoked_leaves m 65536 large st f args n h.store.few)

-- the leaves of an argument have the types of the parameters
leaf_types : (s : GroundType) (v : PureGroundValue) → HasGroundType s v → map type_of_value (leaves (ground_value v))
    ≡ replicate (leaf_count s) i64
leaf_types (base Int) (int z) h = refl
leaf_types (base Truth) (bool b) h = refl
leaf_types (product s t) (both v w) h = map-append type_of_value (leaves (ground_value v)) (leaves (ground_value w))
    ∙ (rw (leaf_types s v h.0, leaf_types t w h.1) refl ∙ replicate-append-replicate (leaf_count s) (leaf_count t) i64)
leaf_types _ _ h = absurd h

pub argument_types : (s : GroundType) (v : PureGroundValue) (r : ℕ) (args : List WasmValue) → HasGroundType s v
    → args ≡ I64 r ∷ leaves (ground_value v) → map type_of_value args ≡ i64 ∷ replicate (leaf_count s) i64
argument_types s v r args h e = ap (λ args. map type_of_value args) e ∙ ap (λ ts. i64 ∷ ts) (leaf_types s v h)

-- a value of a ground type, with integers of 64 bits, is an argument
pub is_argument : (s : GroundType) (v : PureGroundValue) → HasGroundType s v → FitsWords v
    → IsArgument s (ground_value v)
is_argument (base Int) (int z) h f = f
is_argument (base Truth) (bool b) h f = tt
is_argument (product s t) (both v w) h f = (is_argument s v h.0 f.0, is_argument t w h.1 f.1)
is_argument _ _ h f = absurd h
