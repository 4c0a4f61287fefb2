-- From how a source was evaluated to the status.
use Rattle.std.proofs.Common.{◌≡◌, ℕ, List, Option, Result, Ok, Err, IfOk, IfErr, sym, subst, arith}
use Rattle.mw_outside.specs.declared.errors.WriteFault.TheVariants as fault
use Rattle.mw_drive.specs.declared.fault.RunFault.TheVariants.{Unwritten, Bad}
use denote.Ref.{Bor}
use Rattle.mw_term.specs.declared.refusal.Refusal.{Refusal}
use Rattle.mw_console.specs.declared.status.Status.{Status}
use Rattle.mw_console.specs.declared.status.Status.TheVariants.{Refused, Read, Cache, BadCache}
use Rattle.mw_drive.specs.declared.fault.RunFault.{RunFault}
use Rattle.mw_drive.specs.Extents.{whole, Kind, extent}
use Rattle.mw_drive.specs.HeldFiles.{IsHeldWith, IsHeldAfter, IsKeptOf, IsKeptWith}
use Rattle.mw_drive.specs.ProgramRuns.{IsEnded, IsEndedSource}
use Rattle.mw_drive.specs.RunFaults.{IfBadRecord}
use Rattle.mw_drive.specs.Running.{IsStatusOf}

-- a run that ended was not refused
pub ran_not_refused : (path : Option (Bor (List ℕ))) (s : Status) (r : Refusal) → IsEnded path s → s ≡ Refused r → ⊥
ran_not_refused path s r ended refused = grind arith

-- of the status, what is said of the result
module _ (s : Status) where
  pub not_read : (path : Option (Bor (List ℕ))) (r : Result Status RunFault) → IsStatusOf r s
      → IfOk r (IsEndedSource path) → s ≡ Read → ⊥
  not_read path r is ended read = grind arith

  pub refused_status : {P : Type 0} (refusal : Refusal) (r : Result Status RunFault) → IsStatusOf r s
      → IfOk r (λ t. (q : Refusal) → t ≡ Refused q → P) → s ≡ Refused refusal → P
  refused_status refusal r is says refused = grind arith

  pub unkept_status : {P : Type 0} (r : Result Status RunFault) → IsStatusOf r s
      → IfOk r (λ t. t ≡ Cache → P) → s ≡ Cache → P
  unkept_status r is says told = grind arith

  pub bad_status : (path : Option (Bor (List ℕ))) (P : List ℕ → Type 0) (digest : List ℕ) (r : Result Status RunFault)
      → IsStatusOf r s
      → IfOk r (IsEndedSource path) → IfErr r (IfBadRecord P) → s ≡ BadCache digest → P digest
  bad_status path P digest r is ended bad told = grind arith

  pub sound_status : {P : Type 0} (kind : Kind) (r : Result Status RunFault) → IsStatusOf r s
      → IfOk r (λ t. (t ≡ Cache → ⊥) → P) → extent kind s ≡ whole → P
  sound_status kind r is says w = grind arith

  module _ (held after : List ℕ) where
    pub held_status : (r : Result Status RunFault) → IsStatusOf r s → IsHeldAfter r held after → IsHeldWith s held after
    held_status (Ok t) is h = subst (λ x. IsHeldWith x held after) (sym is) h
    held_status (Err (Unwritten fault.Failed)) is h = subst (λ x. IsHeldWith x held after) (sym is) h
    held_status (Err (Unwritten (fault.Memory e))) is h = subst (λ x. IsHeldWith x held after) (sym is) h
    held_status (Err (Bad d)) is h = subst (λ x. IsHeldWith x held after) (sym is) h

    pub kept_status : (texts : List (List ℕ)) (r : Result Status RunFault) → IsStatusOf r s
        → IsKeptOf texts r held after → IsKeptWith texts s held after
    kept_status texts r is h = grind arith
