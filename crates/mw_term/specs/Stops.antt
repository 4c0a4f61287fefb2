-- What an answer that may stop says of a source. Each call may run out of memory, and then it says nothing.
use Rattle.std.specs.Prelude.{◌≡◌, Result, Ok, Err}
use Rattle.mw_term.specs.declared.refusal.Refusal.{Refusal}
use Rattle.mw_term.specs.declared.refusal.Stop.{Stop}
use Rattle.mw_term.specs.declared.refusal.Stop.TheVariants.{Refused, Memory}

-- a refusal has this property, unless memory ran out
abbrev pub IfRefused : (Refusal → Type 0) → Stop → Type 0
IfRefused P (Refused r) = P r
IfRefused P (Memory e) = Unit {0}

-- the answer is this refusal, unless memory ran out
abbrev pub IsRefusalOrMemory : {A : Type 0} → Result A Stop → Refusal → Type 0
IsRefusalOrMemory (Ok v) r = ⊥
IsRefusalOrMemory (Err (Refused q)) r = q ≡ r
IsRefusalOrMemory (Err (Memory e)) r = Unit {0}

-- the answer is a value that has this property, unless memory ran out
abbrev pub AnswersOrMemory : {A : Type 0} → (A → Type 0) → Result A Stop → Type 0
AnswersOrMemory P (Ok v) = P v
AnswersOrMemory P (Err (Refused r)) = ⊥
AnswersOrMemory P (Err (Memory e)) = Unit {0}

-- the answer is no refusal: a value, or memory ran out
abbrev pub IsAnswerOrMemory : {A : Type 0} → Result A Stop → Type 0
IsAnswerOrMemory result = AnswersOrMemory (λ v. Unit {0}) result
