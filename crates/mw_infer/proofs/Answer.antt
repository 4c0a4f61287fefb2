-- What a refusal answers.
use Rattle.std.proofs.Common.{Err}
use Rattle.mw_term.specs.Programs.{PureProgram}
use Rattle.mw_term.specs.Typable.{Typable}
use Rattle.mw_term.specs.declared.refusal.Refusal.{Refusal}
use Rattle.mw_term.specs.declared.refusal.Stop.{Stop}
use Rattle.mw_term.specs.declared.refusal.Stop.TheVariants.{Refused, Memory}
use Rattle.mw_term.specs.Stops.{AnswersOrMemory, IfRefused, IsRefusalOrMemory}
use Rattle.mw_infer.specs.Checking.{IsFirstRefusal, IsWritten, NoneTooBig}
use Rattle.mw_infer.proofs.Refusals.{refusal-one, typable-refused}

pub typable-answer : (A : Type 0) (p : PureProgram) (s : Stop) → IsWritten p → IfRefused (IsFirstRefusal p) s
    → Typable p → NoneTooBig p → AnswersOrMemory {A = A} (λ v. Unit {0}) (Err s)
typable-answer A p (Refused r) w h t n = typable-refused p w r t n h
typable-answer A p (Memory e) w h t n = tt

pub first-answer : (A : Type 0) (p : PureProgram) (s : Stop) (r : Refusal) → IsWritten p
    → IfRefused (IsFirstRefusal p) s → IsFirstRefusal p r → IsRefusalOrMemory {A = A} (Err s) r
first-answer A p (Refused q) r w h k = refusal-one p w q r h k
first-answer A p (Memory e) r w h k = tt
