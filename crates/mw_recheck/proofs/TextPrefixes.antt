-- What the readers of texts and numbers meet.
use Rattle.std.proofs.Common.{◌≡◌, ℕ, ◌+◌, nat_eq, Bool, true, false, List, []}
use Rattle.std.proofs.Common.{◌∷◌, length, take, drop, Option, Some, None, refl, ap, ◌∙◌, arith, Bor}
use Rattle.std.specs.Prelude.{MatchOption}
use Rattle.std.specs.Option.{option_map}
use lib.Pointwise.{pointwise}
use Rattle.mw_recheck.specs.Reading.{behind}

begins : (text bytes : List ℕ) → pointwise nat_eq (take (length text) bytes) text ≡ true
    → Some (drop (length text) bytes) ≡ behind text bytes
begins [] bytes h = refl
begins (t ∷ text) [] h = absurd (cc)
begins (t ∷ text) (b ∷ bytes) h = by_first (λ k. begins text bytes k) (nat_eq b t) refl h
  where
    by_first : (pointwise nat_eq (take (length text) bytes) text ≡ true
        → Some (drop (length text) bytes) ≡ behind text bytes)
        → (s : Bool) → nat_eq b t ≡ s → pointwise nat_eq (b ∷ take (length text) bytes) (t ∷ text) ≡ true
        → Some (drop (length text) bytes) ≡ behind (t ∷ text) (b ∷ bytes)
    by_first more s e h = grind (arith, e, h, more)

begins_not : (text bytes : List ℕ) → pointwise nat_eq (take (length text) bytes) text ≡ false → None ≡ behind text bytes
begins_not [] bytes h = absurd (cc)
begins_not (t ∷ text) [] h = refl
begins_not (t ∷ text) (b ∷ bytes) h = by_first (λ k. begins_not text bytes k) (nat_eq b t) refl h
  where
    by_first : (pointwise nat_eq (take (length text) bytes) text ≡ false → None ≡ behind text bytes)
        → (s : Bool) → nat_eq b t ≡ s → pointwise nat_eq (b ∷ take (length text) bytes) (t ∷ text) ≡ false
        → None ≡ behind (t ∷ text) (b ∷ bytes)
    by_first more s e h = grind (arith, e, h, more)

pub stripped : (text bytes : List ℕ) (r : Option (Bor (List ℕ)))
    → MatchOption r (pointwise nat_eq (take (length text) bytes) text ≡ false) (λ x. (pointwise nat_eq (take
    (length text) bytes) text ≡ true) × (x.now ≡ drop (length text) bytes)
    × (length x.now + length text ≡ length bytes))
    → option_map (λ x. x.now) r ≡ behind text bytes
stripped text bytes None h = begins_not text bytes h
stripped text bytes (Some x) h = ap (λ l. Some l) h.1 ∙ begins text bytes h.0
