-- From the answers of reading, checking and telling to what explaining answers.
use Rattle.std.proofs.Common.{◌≡◌, ℕ, List, Option, Some, None, Result, Ok, Err, sym, subst}
use Rattle.std.specs.Prelude.{IfOk, IsSomeAnd}
use Rattle.mw_term.specs.Programs.{program_of}
use Rattle.mw_term.specs.Parts.{IsResolved}
use Rattle.mw_term.specs.Typable.{Typable}
use Rattle.mw_term.specs.declared.program.Program.{Program}
use Rattle.mw_term.specs.Stops.{AnswersOrMemory, IsRefusalOrMemory}
use Rattle.mw_term.specs.declared.refusal.Refusal.{Refusal}
use Rattle.mw_term.specs.declared.refusal.Stop.{Stop}
use Rattle.mw_term.specs.declared.refusal.Stop.TheVariants.{Refused}
use Rattle.mw_infer.specs.Checking.{IsFirstRefusal, NoneTooBig}
use Rattle.mw_reading.specs.NamedPrograms.{NamedProgram, named_program_of, unnamed}
use Rattle.mw_reading.specs.SourceReading.{IsRead, IsRefused}
use Rattle.mw_reading.proofs.ScopedTerms.{is_resolved}
use Rattle.mw_reading.proofs.SourceReadings.{unnamed_program}
use Rattle.mw_explain.specs.Telling.{IsTold}
use Rattle.mw_explain.specs.Verdicts.{IsSourceRefusal, at_reading, at_types, IsAccepted, Explains, IsVerdict}
use Rattle.mw_explain.specs.Verdicts.{IsTypeVerdict}
use Rattle.mw_explain.specs.declared.Explanation.{Explanation}
use Rattle.mw_explain.specs.declared.telling.Told.{Told}

-- an answer that stops with a refusal has this one
pub same_refusal : {A : Type 0} (answer : Result A Stop) (stop : Stop) (refusal r : Refusal) → answer ≡ Err stop
    → stop ≡ Refused refusal
    → IsRefusalOrMemory answer r
    → refusal ≡ r
same_refusal {A = A} answer stop refusal r e f k =
    subst (λ s. IsRefusalOrMemory {A = A} (Err s) r) f (subst (λ x. IsRefusalOrMemory {A = A} x r) e k)

-- Where the source isn't read.

-- it is no program's
pub never_read : (answer : Result Program Stop) (stop : Stop) (refusal : Refusal) (p : NamedProgram) → answer ≡ Err stop
    → stop ≡ Refused refusal
    → AnswersOrMemory (λ q. named_program_of q ≡ p) answer
    → ⊥
never_read answer stop refusal p e f k =
    subst (λ s. AnswersOrMemory {A = Program} (λ q. named_program_of q ≡ p) (Err s)) f
    (subst (AnswersOrMemory {A = Program} (λ q. named_program_of q ≡ p)) e k)

-- its refusal is the source's one
pub only_reading : (bytes : List ℕ) (refusal r : Refusal) → ((q : Refusal) → IsRefused bytes q → refusal ≡ q)
    → ((p : NamedProgram) → IsRead bytes p → ⊥)
    → IsSourceRefusal bytes r
    → refusal ≡ r
only_reading bytes refusal r first none (at_reading h) = first r h
only_reading bytes refusal r first none (at_types p read h) = absurd (none p read)

-- if nothing is told, its refusal alone explains it
pub explains_reading : (bytes : List ℕ) (refusal : Refusal) (told : Option Told) → told ≡ None → IsRefused bytes refusal
    → ((p : NamedProgram) → IsRead bytes p → ⊥)
    → Explains bytes record { refusal = refusal; told = told }
explains_reading bytes refusal told nothing is none = record {
  refusal = at_reading is;
  told = λ p read. absurd (none p read);
  untold = λ r refused. nothing;
}

-- Where it is.

module _ (bytes : List ℕ) (p : Program) (found : IsRead bytes (named_program_of p)) where
  pub resolved : IsResolved (program_of p)
  resolved = subst IsResolved (unnamed_program p) (is_resolved bytes (named_program_of p) found)

  accepted : Typable (program_of p) → NoneTooBig (program_of p) → IsAccepted bytes
  accepted typable small = record {
    program = named_program_of p;
    read = found;
    typable = subst Typable (sym (unnamed_program p)) typable;
    small = subst NoneTooBig (sym (unnamed_program p)) small;
  }

  module _ (only : (q : NamedProgram) → IsRead bytes q → named_program_of p ≡ q) where
    told_of : (told : Option Told) → IsSomeAnd told (IsTold (program_of p)) → (q : NamedProgram) → IsRead bytes q
        → IsSomeAnd told (IsTold (unnamed q))
    told_of told h q read = subst (λ x. IsSomeAnd told (IsTold (unnamed x))) (only q read)
        (subst (λ x. IsSomeAnd told (IsTold x)) (sym (unnamed_program p)) h)

    -- a verdict on the types is one on the source
    pub source_verdict : {E : Type 0} → ((r : Refusal) → IsRefused bytes r → ⊥)
        → (answer : Result (Option Explanation) E)
        → IfOk answer (IsTypeVerdict (program_of p))
        → IfOk answer (IsVerdict bytes)
    source_verdict none (Ok None) h = accepted h.0 h.1
    source_verdict none (Ok (Some x)) h = record {
      refusal = at_types (named_program_of p) found
          (subst (λ q. IsFirstRefusal q x.refusal) (sym (unnamed_program p)) h.0);
      told = told_of x.told h.1;
      untold = λ r refused. absurd (none r refused);
    }
    source_verdict none (Err e) h = tt

    -- the source's refusal is that of the types
    pub only_types : ((r : Refusal) → IsRefused bytes r → ⊥) → (r : Refusal) → IsSourceRefusal bytes r
        → IsFirstRefusal (program_of p) r
    only_types none r (at_reading h) = absurd (none r h)
    only_types none r (at_types q read h) = subst (λ x. IsFirstRefusal x r) (unnamed_program p)
        (subst (λ x. IsFirstRefusal (unnamed x) r) (sym (only q read)) h)
