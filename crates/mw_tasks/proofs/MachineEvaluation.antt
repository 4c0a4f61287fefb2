-- An evaluation on the machine, from its start to its end.
use Rattle.std.proofs.Common.{◌≡◌, ◌≤◌, ◌+◌, ℕ, List, [], None, Bool, false, Result, Ok, Err, IfErr, IsErrAnd, ap, sym}
use Rattle.std.proofs.Common.{◌∙◌, subst, arith}
use Rattle.std.proofs.lemmas.Result.{err_from_is_err_and}
use Rattle.mw_term.specs.Terms.{Expression, Value, KernelType, ground_value_of}
use Rattle.mw_term.specs.Programs.{PureProgram}
use Rattle.mw_meaning.specs.declared.mode.Mode.{Mode}
use Rattle.mw_meaning.specs.declared.mode.Mode.TheVariants.{Plain}
use Rattle.mw_meaning.specs.Outcomes.{names_of_items, names_of_main}
use Rattle.mw_meaning.specs.OutcomeLaws.{AreCodesOf}
use Rattle.mw_meaning.specs.GroundValues.{HasGroundType}
use Rattle.mw_meaning.specs.StagedMeaning.{Runs, staged, runs}
use Rattle.mw_meaning.proofs.Outcomes.{names_of_items_are_values}
use Rattle.mw_machine.specs.declared.kernels.KernelFault.{KernelFault}
use Rattle.mw_machine.specs.declared.kernels.KernelFault.TheVariants as fault
use Rattle.mw_machine.specs.declared.machine.Machine.{Machine}
use Rattle.mw_machine.specs.declared.outcome.Outcome.{Outcome}
use Rattle.mw_machine.specs.declared.outcome.Outcome.TheVariants as o
use Rattle.mw_machine.specs.CodesInPlace.{built_program}
use Rattle.mw_machine.proofs.BuiltPrograms.{names_of_main-built, built_items_are}
use Rattle.mw_machine.proofs.NamesAtStart.{names_for_items}
use Rattle.mw_machine.specs.Begun.{Begins}
use Rattle.mw_machine.specs.Evaluations.{Part, item, main, term_of, Evaluation, runs_of, IsPart, HasNames, item_names}
use Rattle.mw_machine.specs.Evaluations.{main_names}
use Rattle.mw_machine.specs.KernelCalls.{AreSound, prices}
use Rattle.mw_machine.specs.TurnAnswers.{IsReady, IsTypedOutcome, DriveKeeps, DriveMeans}
use Rattle.mw_machine.specs.Underway.{IsUnderway, IsMeant}
use Rattle.mw_tasks.specs.declared.evaluation.Ended.{Ended}
use Rattle.mw_tasks.specs.Endings.{IsEvaluation}
use Rattle.mw_tasks.specs.TaskOutcomes.{IsKernelItem}

pub item_has_names : (p : PureProgram) (i : ℕ) → IsKernelItem p i → HasNames p (item i) (names_of_items p.items)
item_has_names p i h = item_names i h.0 h.1 h.2 (names_of_items_are_values p.items i)

-- the names of an item have values
pub named : (p : PureProgram) (i : ℕ) (e : Expression) → IsPart p (item i) e → (names : List Value)
    × HasNames p (item i) names
named p i e is = (names_of_items p.items, names_for_items p i e is)

-- the fault that `?` answers is the one that came
pub err_is : {A E : Type 0} (result : Result A E) (f : E) → IsErrAnd result (λ g. g ≡ f) → result ≡ Err f
err_is result f is = let x = err_from_is_err_and result is in x.1 ∙ ap (λ g. Err g) x.2

-- what holds of a drive's fault where the machine had none
pub fault_is : {A B N : Type 0} (P : KernelFault → Type 0) (result : Result A KernelFault) (r : Result B KernelFault)
    (f : KernelFault)
    → IsErrAnd result (λ g. g ≡ f) → r ≡ Err f → IfErr r (λ g. N → P g) → N → IfErr result P
fault_is {N = N} P result r f is q h none =
    subst (λ r. IfErr r P) (sym (err_is result f is)) ((subst (λ r. IfErr r (λ g. N → P g)) q h) none)

-- A machine begins with a part of a program, whose names have some values. The program that is handed in has main's
-- type.
module _ (p : PureProgram) (part : Part) (fuel : ℕ) (m : Machine) (b : Begins m p part fuel)
    (some : (names : List Value) × HasNames p part names) (given : PureProgram) (same : p.result ≡ given.result) where
  -- the evaluation of the part with these values of the names
  abbrev of : List Value → Evaluation
  of names = record { program = p; part = part; names = names; units = fuel }

  abbrev e : Expression
  e = term_of p part

  module _ (kept_runs : Runs) where
    meant : IsMeant Plain kept_runs (of some.0) [] m
    meant = b.meant Plain kept_runs some.0 some.1

    pub underway : IsUnderway p part kept_runs m
    underway = (meant.0, meant.1)

    pub no_fault : m.fault ≡ None
    no_fault = meant.1.0

    pub ready : (stopped : Bool) → stopped ≡ false → IsReady given kept_runs stopped m
    ready stopped q none = ((p, same, part, underway), q)

    -- what a drive answers is typed
    pub typed : (r : Result Outcome KernelFault) (x : Outcome) (n : Machine) → r ≡ Ok x
        → ((q : PureProgram) (part : Part) → q.result ≡ given.result → IsUnderway q part kept_runs m
        → DriveKeeps r q part n)
        → IsTypedOutcome p part x n
    typed r x n q keeps = subst (λ r. DriveKeeps r p part n) q (keeps p part same underway)

  module _ (mode : Mode) (kept_runs : Runs) (Sound : Expression → KernelType → Type 0)
      (price : Expression → KernelType → ℕ) (old new : ℕ)
      (r : Result Outcome KernelFault) (n : Machine)
      (means : (x : Evaluation) (begun : Runs) → x.program.result ≡ given.result → IsMeant mode kept_runs x begun m
      → AreSound Sound (runs_of mode x)
      → DriveMeans r mode x begun n price old new)
      (names : List Value) (has : HasNames p part names) (sound : AreSound Sound (runs mode names fuel e)) where
    whole : DriveMeans r mode (of names) [] n price old new
    whole = means (of names) [] same (b.meant mode kept_runs names has) sound

    pub ends_as : (x : Outcome) → r ≡ Ok x
        → IsEvaluation (Ok (record { machine = n; outcome = x })) (staged mode names fuel e)
    ends_as x q = (subst (λ r. DriveMeans r mode (of names) [] n price old new) q whole).0

    pub costs : (x : Outcome) → r ≡ Ok x → new ≤ old + prices price (runs mode names fuel e)
    costs x q = let y = (subst (λ r. DriveMeans r mode (of names) [] n price old new) q whole).1 in omega (arith, y)

    -- a fault is want of memory
    faults_as : (f : KernelFault) → DriveMeans (Err f) mode (of names) [] n price old new
        → IsEvaluation (Err f) (staged mode names fuel e)
    faults_as (fault.Memory x) h = tt
    faults_as (fault.Bad d) h = absurd h

    pub fails_as : (result : Result Ended KernelFault) (f : KernelFault) → IsErrAnd result (λ g. g ≡ f) → r ≡ Err f
        → IsEvaluation result (staged mode names fuel e)
    fails_as result f is q =
        subst (λ r. IsEvaluation r (staged mode names fuel e)) (sym (err_is result f is))
        (faults_as f (subst (λ r. DriveMeans r mode (of names) [] n price old new) q whole))

-- main's outcome is typed by main's type alone
pub main_outcome_typed : (p q : PureProgram) (x : Outcome) (n : Machine) → p.result ≡ q.result
    → IsTypedOutcome p main x n
    → IsTypedOutcome q main x n
main_outcome_typed p q (o.Value v) n same h = subst (λ t. HasGroundType t (ground_value_of v)) same h
main_outcome_typed p q (o.Code id) n same h = h
main_outcome_typed p q (o.Trap t) n same h = tt
main_outcome_typed p q (o.Bound l) n same h = tt

-- the names of main have their values where the kernels' codes are in place
pub built_has_names : (p : PureProgram) (codes : List Expression) → AreCodesOf p.items codes
    → HasNames (built_program p codes) main (names_of_main p.items codes)
built_has_names p codes h =
    subst (HasNames (built_program p codes) main) (names_of_main-built p.items codes)
    (main_names codes (built_items_are p.items codes h))
