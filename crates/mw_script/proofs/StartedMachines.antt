-- A machine that was started may turn, and one that ended with code has it.
use Rattle.std.proofs.Common.{◌≡◌, ℕ, List, Some, None, Option, Result, Ok, Err, refl, false, Bool, subst}
use Rattle.std.specs.Prelude.{slice_get, IfSome}
use Rattle.mw_term.specs.Terms.{Expression, Value, KernelType}
use Rattle.mw_term.specs.Programs.{kernel, PureProgram, program_of}
use Rattle.mw_term.specs.declared.program.Program.{Program}
use Rattle.mw_meaning.specs.declared.mode.Mode.TheVariants.{Plain}
use Rattle.mw_meaning.specs.Outcomes.{names_of_main}
use Rattle.mw_meaning.specs.StagedMeaning.{Runs}
use Rattle.mw_machine.specs.declared.kernels.KernelFault.{KernelFault}
use Rattle.mw_machine.specs.declared.machine.Machine.{Machine}
use Rattle.mw_machine.specs.declared.outcome.Outcome.{Outcome}
use Rattle.mw_machine.specs.declared.outcome.Outcome.TheVariants as o
use Rattle.mw_machine.specs.Begun.{Begins}
use Rattle.mw_machine.specs.Evaluations.{Part, item, main, IsPart, item_part, main_part, HasNames, item_names}
use Rattle.mw_machine.specs.Evaluations.{main_names}
use Rattle.mw_machine.specs.Starting.{values_at_start}
use Rattle.mw_machine.specs.TurnAnswers.{IsReady, DriveKeeps, IsTypedOutcome, EndedWithCode}
use Rattle.mw_machine.specs.Underway.{IsUnderway}
use Rattle.mw_machine.proofs.NamesAtStart.{start_item_names}
use Rattle.mw_script.specs.Starts.{AreAllBuilt, IsStarted, HasItsCode}

started : (p : PureProgram) (part : Part) (m : Machine) (fuel : ℕ) (names : List Value) → HasNames p part names
    → Begins m p part fuel → IsStarted p m
started p part m fuel names h b = λ functions none.
    let meant = b.meant Plain functions names h in
    ((p, refl, part, (meant.0, meant.1)), refl)

pub main_started : (p : PureProgram) (m : Machine) (fuel : ℕ) → AreAllBuilt p.items
    → ((part : Part) → IsPart p part p.body → Begins m p part fuel) → IsStarted p m
main_started p m fuel built b =
    started p main m fuel (names_of_main p.items built.0) (main_names built.0 built.1)
    (b main (main_part built.0 built.1))

pub item_started : (p : Program) (m : Machine) (fuel i : ℕ) (k : KernelType) (e : Expression)
    → slice_get (program_of p).items i ≡ Some (kernel k e)
    → ((part : Part) → IsPart (program_of p) part e → Begins m (program_of p) part fuel) → IsStarted (program_of p) m
item_started p m fuel i k e at b =
    started (program_of p) (item i) m fuel (values_at_start p.items) (item_names i k e at (start_item_names p.items i))
    (b (item i) (item_part i k at))

-- a fault that the machine had is answered; where it had none, the evaluation was underway
has_code : (p : PureProgram) (functions : Runs) (stopped : Bool) (old new : Machine) (r : Result Outcome KernelFault)
    (fault : Option KernelFault)
    → old.fault ≡ fault → IsReady p functions stopped old → ((f : KernelFault) → old.fault ≡ Some f → r ≡ Err f)
    → ((q : PureProgram) (part : Part) → q.result ≡ p.result → IsUnderway q part functions old
    → DriveKeeps r q part new) → HasItsCode new r
has_code p functions stopped old new (Err g) fault e ready again keeps = tt
has_code p functions stopped old new (Ok (o.Value v)) fault e ready again keeps = tt
has_code p functions stopped old new (Ok (o.Trap t)) fault e ready again keeps = tt
has_code p functions stopped old new (Ok (o.Bound l)) fault e ready again keeps = tt
has_code p functions stopped old new (Ok (o.Code id)) (Some f) e ready again keeps = let never = again f e in
    absurd (cc)
has_code p functions stopped old new (Ok (o.Code id)) None e ready again keeps =
    let on = ready e in
    by_part on.0.0 on.0.2 (keeps on.0.0 on.0.2 on.0.1 on.0.3)
  where
    by_part : (q : PureProgram) (part : Part) → IsTypedOutcome q part (o.Code id) new → EndedWithCode new id
    by_part q (item i) h = (h.built, h.has)
    by_part q main h = absurd h

pub code_of_drive : (p : PureProgram) (functions : Runs) (stopped : Bool) (old new : Machine)
    (r : Result Outcome KernelFault)
    → IsReady p functions stopped old → ((f : KernelFault) → old.fault ≡ Some f → r ≡ Err f)
    → ((q : PureProgram) (part : Part) → q.result ≡ p.result → IsUnderway q part functions old
    → DriveKeeps r q part new) → HasItsCode new r
code_of_drive p functions stopped old new r ready again keeps = has_code p functions stopped old new r old.fault refl
    ready again keeps

-- a machine that was started may turn over kernels that have answered no trap, bound or fault
pub started_ready : (p : PureProgram) (o : Option Machine) (m : Machine) (functions : Runs) (stopped : Bool)
    → o ≡ Some m → IfSome o (IsStarted p)
    → stopped ≡ false → IsReady p functions stopped m
started_ready p o m functions stopped is h none =
    let started : IsStarted p m = subst (λ o. IfSome o (IsStarted p)) is h in rw none (started functions)
