-- What the machine's outcome is as that of a kernel item, and of main.
use Rattle.std.proofs.Common.{◌≡◌, ℕ, Some, ◌∙◌, Bool, true, false, Result, Ok, Err, IsErrAnd, refl, sym, subst}
use Rattle.mw_term.specs.Terms.{Expression, Value, KernelType, code, expression_of, ground_value_of}
use Rattle.mw_term.specs.declared.term.Term.{Term}
use Rattle.mw_term.specs.declared.value.GroundValue.{GroundValue}
use Rattle.mw_term.specs.declared.value.Limit.{Limit}
use Rattle.mw_term.specs.declared.value.TrapKind.{TrapKind}
use Rattle.mw_term.specs.Limits.{within_limits}
use Rattle.mw_term.specs.Programs.{kernel, PureProgram}
use Rattle.mw_term.specs.Typable.{HasKernelType}
use Rattle.std.specs.Prelude.{slice_get}
use Rattle.mw_meaning.specs.Arithmetic.{trap, bound}
use Rattle.mw_meaning.specs.Outcomes.{code_outcome, value_outcome, measured_code}
use Rattle.mw_meaning.specs.GroundValues.{HasGroundType}
use Rattle.mw_meaning.specs.StagedMeaning.{Answer, gives, stops, Runs}
use Rattle.mw_region.specs.declared.pool.Id.{Id}
use Rattle.mw_machine.specs.declared.machine.Machine.{Machine}
use Rattle.mw_machine.specs.declared.kernels.KernelFault.{KernelFault}
use Rattle.mw_machine.specs.declared.kernels.KernelFault.TheVariants as fault
use Rattle.mw_machine.specs.declared.outcome.Outcome.{Outcome}
use Rattle.mw_machine.specs.declared.outcome.Outcome.TheVariants as o
use Rattle.mw_machine.specs.Evaluations.{item, main}
use Rattle.mw_machine.specs.TurnAnswers.{HasCode, IsOutcome, IsTypedOutcome}
use Rattle.mw_tasks.specs.declared.outcome.Evaluated.{Evaluated}
use Rattle.mw_tasks.specs.declared.outcome.Evaluated.TheVariants as x
use Rattle.mw_tasks.specs.declared.outcome.MainOutcome.{MainOutcome}
use Rattle.mw_tasks.specs.declared.outcome.MainOutcome.TheVariants as m
use Rattle.mw_tasks.specs.declared.evaluation.Ended.{Ended}
use Rattle.mw_tasks.specs.Endings.{IsEvaluation, IsMeasured}
use Rattle.mw_tasks.specs.TaskOutcomes.{IsItemAnswer, IsItemOutcome, IsMainAnswer, IsMainOutcome, IfCode, IsCodeOf}
use Rattle.mw_meaning.proofs.GroundValues.{as_ground-value}
use Rattle.mw_tasks.proofs.MachineEvaluation.{err_is}

-- the outcome of a kernel item, and of main
code_as : (a : Answer Runs Value) (n : Machine) (id : Id) (x : Evaluated) → IsOutcome (o.Code id) n a
    → ((c : Expression) → HasCode n id c → IsMeasured x c) → IsItemAnswer x (code_outcome a)
code_as (gives (code c) left s) n id x h f = f c h.0
code_as (gives _ left s) n id x h f = absurd h
code_as (stops why s) n id x h f = absurd h

trap_as : (a : Answer Runs Value) (n : Machine) (t : TrapKind) → IsOutcome (o.Trap t) n a
    → IsItemAnswer (x.Trap t) (code_outcome a) × IsMainAnswer (m.Trap t) (value_outcome a)
trap_as (stops (trap u) s) n t h = (h, h)
trap_as _ n t h = absurd h

bound_as : (a : Answer Runs Value) (n : Machine) (l : Limit) → IsOutcome (o.Bound l) n a
    → IsItemAnswer (x.Bound l) (code_outcome a) × IsMainAnswer (m.Bound l) (value_outcome a)
bound_as (stops (bound b) s) n l h = (h, h)
bound_as _ n l h = absurd h

value_as : (a : Answer Runs Value) (n : Machine) (v : GroundValue) → IsOutcome (o.Value v) n a
    → IsMainAnswer (m.Value v) (value_outcome a)
value_as (gives w left s) n v h = rw (h.0, as_ground-value (ground_value_of v)) refl
value_as (stops why s) n v h = absurd h

-- an evaluation ended with this outcome
module _ (a : Answer Runs Value) (n : Machine) (y : Outcome) (h : IsOutcome y n a) where
  pub item_code : (id : Id) (x : Evaluated) → y ≡ o.Code id → ((c : Expression) → HasCode n id c → IsMeasured x c)
      → IsItemAnswer x (code_outcome a)
  item_code id x q f = code_as a n id x (subst (λ y. IsOutcome y n a) q h) f

  pub item_trap : (t : TrapKind) → y ≡ o.Trap t → IsItemAnswer (x.Trap t) (code_outcome a)
  item_trap t q = (trap_as a n t (subst (λ y. IsOutcome y n a) q h)).0

  pub item_bound : (l : Limit) → y ≡ o.Bound l → IsItemAnswer (x.Bound l) (code_outcome a)
  item_bound l q = (bound_as a n l (subst (λ y. IsOutcome y n a) q h)).0

  pub main_trap : (t : TrapKind) → y ≡ o.Trap t → IsMainAnswer (m.Trap t) (value_outcome a)
  main_trap t q = (trap_as a n t (subst (λ y. IsOutcome y n a) q h)).1

  pub main_bound : (l : Limit) → y ≡ o.Bound l → IsMainAnswer (m.Bound l) (value_outcome a)
  main_bound l q = (bound_as a n l (subst (λ y. IsOutcome y n a) q h)).1

  pub main_value : (v : GroundValue) → y ≡ o.Value v → IsMainAnswer (m.Value v) (value_outcome a)
  main_value v q = value_as a n v (subst (λ y. IsOutcome y n a) q h)

-- a fault is want of memory
fault_as : (f : KernelFault) (a : Answer Runs Value) → IsEvaluation (Err f) a
    → IsItemOutcome (Err f) (code_outcome a) × IsMainOutcome (Err f) (value_outcome a)
fault_as (fault.Memory x) a h = (tt, tt)
fault_as (fault.Bad d) a h = absurd h

pub item_fails : (result : Result Evaluated KernelFault) (r : Result Ended KernelFault) (a : Answer Runs Value)
    (f : KernelFault)
    → IsErrAnd result (λ g. g ≡ f) → r ≡ Err f → IsEvaluation r a → IsItemOutcome result (code_outcome a)
item_fails result r a f is q h =
    subst (λ r. IsItemOutcome r (code_outcome a)) (sym (err_is result f is))
    (fault_as f a (subst (λ r. IsEvaluation r a) q h)).0

pub main_fails : (result : Result MainOutcome KernelFault) (r : Result Ended KernelFault) (a : Answer Runs Value)
    (f : KernelFault)
    → IsErrAnd result (λ g. g ≡ f) → r ≡ Err f → IsEvaluation r a → IsMainOutcome result (value_outcome a)
main_fails result r a f is q h =
    subst (λ r. IsMainOutcome r (value_outcome a)) (sym (err_is result f is))
    (fault_as f a (subst (λ r. IsEvaluation r a) q h)).1

-- what is measured is the code, within the limits
code_within : (t : Term) (c : Expression) (b : Bool) → within_limits c ≡ b → IsItemAnswer (x.Code t)
    (measured_code b c)
    → (expression_of t ≡ c) × (within_limits c ≡ true)
code_within t c true w h = (h, w)
code_within t c false w h = absurd h

typed_as : (p : PureProgram) (i : ℕ) (n : Machine) (id : Id) (x : Evaluated) → IsTypedOutcome p (item i) (o.Code id) n
    → ((c : Expression) → HasCode n id c → IsMeasured x c) → IfCode (Ok x) (IsCodeOf p i)
typed_as p i n id (x.Code t) h f =
    let w = code_within t h.built (within_limits h.built) refl (f h.built h.has) in
    λ k e here.
    let same : h.kind ≡ k = kind_of here in
    (subst (λ c. HasKernelType c k) (sym w.0) (subst (λ k. HasKernelType h.built k) same h.typed), rw w.0 w.1)
  where
    kind_of : {k : KernelType} {e : Expression} → slice_get p.items i ≡ Some (kernel k e) → h.kind ≡ k
    kind_of q = let r = sym h.here ∙ q in cc
typed_as p i n id (x.Trap t) h f = tt
typed_as p i n id (x.Bound l) h f = tt

pub item_typed : (p : PureProgram) (i : ℕ) (n : Machine) (y : Outcome) (id : Id) (x : Evaluated)
    → IsTypedOutcome p (item i) y n → y ≡ o.Code id
    → ((c : Expression) → HasCode n id c → IsMeasured x c) → IfCode (Ok x) (IsCodeOf p i)
item_typed p i n y id x h q f = typed_as p i n id x (subst (λ y. IsTypedOutcome p (item i) y n) q h) f

-- an item never ends with a value, and main never with code
pub item_no_value : (p : PureProgram) (i : ℕ) (n : Machine) (y : Outcome) (v : GroundValue)
    → IsTypedOutcome p (item i) y n → y ≡ o.Value v → ⊥
item_no_value p i n y v h q = subst (λ y. IsTypedOutcome p (item i) y n) q h

pub main_no_code : (p : PureProgram) (n : Machine) (y : Outcome) (id : Id) → IsTypedOutcome p main y n → y ≡ o.Code id
    → ⊥
main_no_code p n y id h q = subst (λ y. IsTypedOutcome p main y n) q h

pub main_typed : (p : PureProgram) (n : Machine) (y : Outcome) (v : GroundValue) → IsTypedOutcome p main y n
    → y ≡ o.Value v
    → HasGroundType p.result (ground_value_of v)
main_typed p n y v h q = subst (λ y. IsTypedOutcome p main y n) q h
