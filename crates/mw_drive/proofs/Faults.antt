-- Calls that ended with a fault.
use Rattle.std.proofs.Common.{◌≡◌, ℕ, List, ◌++◌, Bool, IsTrue, Result, Ok, Err, IfOk, IfErr, OnOk, OnErr}
use Rattle.std.specs.Result.{IsErrAnd}
use Rattle.mw_outside.specs.Count.{GrowsByFront}
use Rattle.mw_drive.specs.Written.{Writes}

-- with a fault a front was written
pub front_written : {A E : Type 0} (P : E → Type 0) (r : Result A E) (tells : Bool)
    (before after text : List ℕ) → IsErrAnd r P
    → (IsTrue tells → GrowsByFront before after text) → Writes r tells before after text
front_written P (Ok x) tells before after text h front = absurd (h)
front_written P (Err fault) tells before after text h front = front

-- and there is no answer of which anything is said
pub no_answer : {A E : Type 0} (P : E → Type 0) (r : Result A E) (Q : A → Type 0) → IsErrAnd r P → IfOk r Q
no_answer P (Ok x) Q h = absurd (h)
no_answer P (Err e) Q h = tt

-- a text was written, or with a fault a front of it
pub text_written : {A E : Type 0} (r : Result A E) (tells : Bool) (before after text : List ℕ)
    → OnOk r (IsTrue tells → after ≡ before ++ text)
    → OnErr r (IsTrue tells → GrowsByFront before after text) → Writes r tells before after text
text_written (Ok x) tells before after text ok front = ok
text_written (Err fault) tells before after text ok front = front

-- what holds of the fault, whatever else is said of it
pub fault_is : {A E : Type 0} (P Q : E → Type 0) (r : Result A E) → IsErrAnd r P → ((e : E) → P e → Q e) → IfErr r Q
fault_is P Q (Ok x) h f = tt
fault_is P Q (Err e) h f = f e h
