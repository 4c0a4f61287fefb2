-- Which sources are accepted, and the first refusal of one that isn't.
use Rattle.std.specs.Prelude.{ℕ, ◌≡◌, List, Option, Some, None, Result, Ok, Err, IfSome, IsSomeAnd}
use Rattle.mw_term.specs.Programs.{PureProgram}
use Rattle.mw_term.specs.Typable.{Typable}
use Rattle.mw_term.specs.declared.refusal.Refusal.{Refusal}
use Rattle.mw_infer.specs.Checking.{IsFirstRefusal, NoneTooBig}
use Rattle.mw_reading.specs.NamedPrograms.{NamedProgram, unnamed}
use Rattle.mw_reading.specs.SourceReading.{IsRead, IsRefused}
use Rattle.mw_explain.specs.Placing.{ArePlaced}
use Rattle.mw_explain.specs.Telling.{IsTold}
use Rattle.mw_explain.specs.declared.Explanation.{Explanation}

-- the first refusal of a source: of its reading, or else of its program's types
pub data IsSourceRefusal (bytes : List ℕ) : Refusal → Type 0 where
  at_reading : {r : Refusal} → IsRefused bytes r → IsSourceRefusal bytes r
  at_types : {r : Refusal} (p : NamedProgram) → IsRead bytes p → IsFirstRefusal (unnamed p) r → IsSourceRefusal bytes r

-- the source is read, and its program has types that are not too big
pub record IsAccepted (bytes : List ℕ) : Type 0 where
  pub program : NamedProgram
  pub read : IsRead bytes program
  pub typable : Typable (unnamed program)
  pub small : NoneTooBig (unnamed program)

-- an explanation has the source's first refusal; where the source is read it tells of the program's first fault, and
-- where its reading is refused it tells nothing
pub record Explains (bytes : List ℕ) (x : Explanation) : Type 0 where
  pub refusal : IsSourceRefusal bytes x.refusal
  pub told : (p : NamedProgram) → IsRead bytes p → IsSomeAnd x.told (IsTold (unnamed p))
  pub untold : (r : Refusal) → IsRefused bytes r → x.told ≡ None

-- no explanation says that the source is accepted
abbrev pub IsVerdict : List ℕ → Option Explanation → Type 0
IsVerdict bytes None = IsAccepted bytes
IsVerdict bytes (Some x) = Explains bytes x

-- The same of a program's types: no explanation says that it has types, none of them too big.
abbrev pub IsTypeVerdict : PureProgram → Option Explanation → Type 0
IsTypeVerdict p None = Typable p × NoneTooBig p
IsTypeVerdict p (Some x) = IsFirstRefusal p x.refusal × IsSomeAnd x.told (IsTold p)

-- the answer has this refusal, or is want of memory
abbrev pub RefusesOrMemory : {E : Type 0} → Refusal → Result (Option Explanation) E → Type 0
RefusesOrMemory r (Ok (Some x)) = x.refusal ≡ r
RefusesOrMemory r (Ok None) = ⊥
RefusesOrMemory r (Err e) = Unit {0}

-- each place that an explanation tells lies within so many bytes
abbrev pub HavePlaces : ℕ → Option Explanation → Type 0
HavePlaces n None = Unit {0}
HavePlaces n (Some x) = IfSome x.told (ArePlaced n)
