-- Texts put together.
use Rattle.std.proofs.Common.{◌≡◌, ℕ, ◌+◌, ◌-◌, ◌≤◌, List, ◌++◌, take, drop, refl, sym, ◌∙◌, ap, arith}
use Rattle.std.specs.Prelude.{length, Result, Ok, Err, IfOk, OnErr}
use Rattle.mw_outside.specs.Count.{GrowsByFront}
use Rattle.std.proofs.Math.Seq.{take-add}
use Rattle.std.proofs.lemmas.List.{append_assoc, length-take, take-take}

-- a piece that was put after others
pub put_more : (t x more u v : List ℕ) → u ≡ t ++ x → v ≡ u ++ more → v ≡ t ++ (x ++ more)
put_more t x more u v e f = f ∙ (ap (λ y. y ++ more) e ∙ append_assoc t x more)

-- three pieces that were put after others
pub three_put : (t a b c x y z : List ℕ) → a ≡ t ++ x → b ≡ a ++ y → c ≡ b ++ z → c ≡ t ++ (x ++ y ++ z)
three_put t a b c x y z p q r = put_more t (x ++ y) z b c (put_more t x y a b p q) r

-- five pieces that were put after others
pub five_put : (t a b c d e v w x y z : List ℕ) → a ≡ t ++ v → b ≡ a ++ w → c ≡ b ++ x → d ≡ c ++ y → e ≡ d ++ z
    → e ≡ t ++ (v ++ w ++ x ++ y ++ z)
five_put t a b c d e v w x y z p q r s u =
    let line = v ++ w ++ x in
    put_more t (line ++ y) z d e (put_more t line y c d (three_put t a b c v w x p q r) s) u

-- a line that was written after a front of the text
pub line_written : (old middle new text : List ℕ) (done end : ℕ) → done ≤ end → middle ≡ old ++ take done text
    → new ≡ middle ++ take (end - done) (drop done text) → new ≡ old ++ take end text
line_written old middle new text done end h before here =
    let whole = take-add done (end - done) text in
    let sum : done + (end - done) ≡ end = omega arith in
    rw (here, before, append_assoc, ← whole, sum) refl

-- a front of a line that was written after a front of the text
pub front_written : (old middle new text : List ℕ) (done end : ℕ) → done ≤ end → end ≤ length text → middle ≡ old
    ++ take done text → GrowsByFront middle new (take (end - done) (drop done text)) → GrowsByFront old new text
front_written old middle new text done end h le before grows =
    let count = grows.0 in
    let short : count ≤ end - done =
    (let a = grows.1 in let b = length-take (end - done) (drop done text) in omega arith) in
    let part : take count (take (end - done) (drop done text)) ≡ take count (drop done text) =
    take-take count (end - done) (drop done text) short in (
      done + count,
      omega arith,
      grows.2
          ∙ (ap (λ x. middle ++ x) part
          ∙ (ap (λ x. x ++ take count (drop done text)) before
          ∙ (append_assoc old (take done text) (take count (drop done text))
          ∙ ap (λ x. old ++ x) (sym (take-add done count text))))),
    )

-- what follows where there is an error
pub on_err : {T E : Type 0} {P Q : Type 0} (r : Result T E) → (P → Q) → OnErr r P → OnErr r Q
on_err (Ok x) f p = tt
on_err (Err e) f p = f p

-- what follows where there is an answer
pub on_ok : {T E : Type 0} {P Q : T → Type 0} (r : Result T E) → ((x : T) → P x → Q x) → IfOk r P → IfOk r Q
on_ok (Ok x) f p = f x p
on_ok (Err e) f p = tt
