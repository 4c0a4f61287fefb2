-- Fronts of texts that were written.
use Rattle.std.proofs.Common.{◌≡◌, ◌+◌, ℕ, List, ◌++◌, take, length, sym, ap, ◌∙◌, arith}
use Rattle.std.proofs.Math.Seq.{take-append-add}
use Rattle.std.proofs.lemmas.List.{append-nil, append_assoc, take-append-le, length-append, take_all}
use Rattle.mw_outside.specs.Count.{GrowsByFront}

-- a front of a text is one of a longer text
pub grows_front : (old new a x : List ℕ) → GrowsByFront old new a → GrowsByFront old new (a ++ x)
grows_front old new a x h = (
  h.0,
  (let n = length-append a x in omega (arith, h.1)),
  h.2 ∙ ap (λ t. old ++ t)
      (sym (take-append-le h.0 a x h.1)),
)

-- so is one after a text that was written whole
pub grows_after : (old mid new a x : List ℕ) → mid ≡ old ++ a → GrowsByFront mid new x → GrowsByFront old new (a ++ x)
grows_after old mid new a x whole h = (
  length a + h.0,
  (let n = length-append a x in omega (arith, h.1)),
  h.2
      ∙ (ap (λ t. t ++ take h.0 x) whole
      ∙ (append_assoc old a (take h.0 x) ∙ ap (λ t. old ++ t) (sym (take-append-add a x h.0)))),
)

-- and a whole text
pub grows_whole : (old new a x : List ℕ) → new ≡ old ++ a → GrowsByFront old new (a ++ x)
grows_whole old new a x whole =
    grows_front old new a x
    (length a, omega arith, whole ∙ ap (λ t. old ++ t) (sym (take_all (length a) a (omega arith))))

-- nothing is a front of every text
pub grows_nothing : (old a : List ℕ) → GrowsByFront old old a
grows_nothing old a = (0, omega arith, sym (append-nil old))

pub whole_grows : (old new a : List ℕ) → new ≡ old ++ a → GrowsByFront old new a
whole_grows old new a whole =
    (length a, omega arith, whole ∙ ap (λ t. old ++ t) (sym (take_all (length a) a (omega arith))))
