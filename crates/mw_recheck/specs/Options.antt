-- Answers that may be none.
use Rattle.std.specs.Prelude.{Option, Some, None}

-- an answer, and what goes on from it
infixl 10 ◌>>=◌
abbrev pub ◌>>=◌ : {A B : Type 0} → Option A → (A → Option B) → Option B
(Some x) >>= f = f x
None >>= f = None

-- where there is an answer, what goes on from it, and else another
abbrev pub found_or : {A B : Type 0} → Option A → (A → Option B) → Option B → Option B
found_or (Some x) f other = f x
found_or None f other = other
