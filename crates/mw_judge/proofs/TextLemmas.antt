-- Texts put together.
use Rattle.std.proofs.Common.{◌≡◌, ℕ, List, ◌++◌, Result, Ok, Err, ◌∙◌, ap, append_assoc}
use Rattle.std.specs.Prelude.{IfOk}

-- a piece that was put after others
pub put_more : (t x more u v : List ℕ) → u ≡ t ++ x → v ≡ u ++ more → v ≡ t ++ (x ++ more)
put_more t x more u v e f = f ∙ (ap (λ y. y ++ more) e ∙ append_assoc t x more)

-- what follows where there is an answer
pub on_ok : {T E : Type 0} {P Q : T → Type 0} (r : Result T E) → ((x : T) → P x → Q x) → IfOk r P → IfOk r Q
on_ok (Ok x) f p = f x p
on_ok (Err e) f p = tt
