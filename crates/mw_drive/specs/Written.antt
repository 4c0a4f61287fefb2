-- What a call wrote to the sink, and what it did not.
use Rattle.std.specs.Prelude.{ℕ, ◌≡◌, ◌++◌, List, Bool, IsTrue, Result, Ok, Err}
use Rattle.mw_outside.specs.Count.{Rose, GrowsByFront}
use Rattle.mw_outside.specs.declared.errors.WriteFault.{WriteFault}
use Rattle.mw_outside.specs.declared.errors.WriteFault.TheVariants.{Failed, Memory}

-- where the sink tells: all of the text was written, or with a fault a front of it
abbrev pub Writes : {A E : Type 0} → Result A E → Bool → (before after : List ℕ) → List ℕ → Type 0
Writes (Ok x) tells before after text = IsTrue tells → after ≡ before ++ text
Writes (Err fault) tells before after text = IsTrue tells → GrowsByFront before after text

-- a failure comes only where the count of faults rose, and else the count stands
abbrev pub Blames : {A : Type 0} → Result A WriteFault → (old new : ℕ) → Type 0
Blames (Ok x) old new = new ≡ old
Blames (Err Failed) old new = Rose old new
Blames (Err (Memory error)) old new = new ≡ old
