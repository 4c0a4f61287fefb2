-- How what is found goes on, and what the first word of a node is.
use Rattle.std.proofs.Common.{◌≡◌, ℕ, zero, suc, List, [], ◌∷◌, refl, ap, subst, Option, Some, None}
use Rattle.std.proofs.lemmas.Option.{none-some, same_Some}
use Rattle.mw_key.specs.Reading.{Finding, then_find, make, spelled, find_word, find_node}

-- a fact of what is found after another thing
pub after_found : {A B : Type 0} (P : Finding B → Type 0) (x : Finding A) (next : A → List (List ℕ) → ℕ → Finding B)
    → P None
    → ((a : A) (ws : List (List ℕ)) (n : ℕ) → x ≡ Some (a, ws, n) → P (next a ws n)) → P (then_find x next)
after_found P None next none some = none
after_found P (Some found) next none some = some found.0 found.1 found.2 refl

pub made_found : {A B : Type 0} (P : Finding B → Type 0) (f : A → B) (x : Finding A) → P None
    → ((a : A) (ws : List (List ℕ)) (n : ℕ) → x ≡ Some (a, ws, n) → P (Some (f a, ws, n))) → P (make f x)
made_found P f None none some = none
made_found P f (Some found) none some = some found.0 found.1 found.2 refl

-- what is found where the thing before it is known
pub then_at : {A B : Type 0} {x : Finding A} {a : A} {ws : List (List ℕ)} {n : ℕ}
    (next : A → List (List ℕ) → ℕ → Finding B)
    → x ≡ Some (a, ws, n) → then_find x next ≡ next a ws n
then_at next e = ap (λ y. then_find y next) e

pub make_at : {A B : Type 0} {x : Finding A} {a : A} {ws : List (List ℕ)} {n : ℕ} (f : A → B) → x ≡ Some (a, ws, n)
    → make f x ≡ Some (f a, ws, n)
make_at f e = ap (make f) e

-- a word stands before the rest, and spells this
pub record IsSpelled {A : Type 0} (spell : List ℕ → Option A) (ws : List (List ℕ)) (a : A) (rest : List (List ℕ)) : Type
    0 where
  pub word : List ℕ
  pub words : ws ≡ word ∷ rest
  pub spells : spell word ≡ Some a

module _ {A : Type 0} (spell : List ℕ → Option A) where
  spelled_at : (w : List ℕ) (ws : List (List ℕ)) (n : ℕ) (a : A) (rest : List (List ℕ)) (m : ℕ) → spelled (spell w) ws n
      ≡ Some (a, rest, m) → IsSpelled spell (w ∷ ws) a rest × (n ≡ m)
  spelled_at w ws n a rest m e = by_thing (spell w) refl e
    where
      by_thing : (o : Option A) → spell w ≡ o → spelled o ws n ≡ Some (a, rest, m) → IsSpelled spell (w ∷ ws) a rest
          × (n ≡ m)
      by_thing None s e = absurd (none-some (a, rest, m) e)
      by_thing (Some b) s e = subst (λ (x : A × List (List ℕ) × ℕ). IsSpelled spell (w ∷ ws) x.0 x.1 × (n ≡ x.2))
          (same_Some (b, ws, n) (a, rest, m) e) (record { word = w; words = refl; spells = s }, refl)

  pub word_spelled : (ws : List (List ℕ)) (n : ℕ) (a : A) (rest : List (List ℕ)) (m : ℕ)
      → then_find (find_word ws n) (λ w ws n. spelled (spell w) ws n) ≡ Some (a, rest, m) → IsSpelled spell ws a rest
      × (n ≡ m)
  word_spelled [] n a rest m e = absurd (none-some (a, rest, m) e)
  word_spelled (w ∷ ws) n a rest m e = spelled_at w ws n a rest m e

  pub node_spelled : (ws : List (List ℕ)) (n : ℕ) (a : A) (rest : List (List ℕ)) (m : ℕ)
      → then_find (find_node ws n) (λ w ws n. spelled (spell w) ws n) ≡ Some (a, rest, m) → IsSpelled spell ws a rest
      × (n ≡ suc m)
  node_spelled ws zero a rest m e = absurd (none-some (a, rest, m) e)
  node_spelled [] (suc n) a rest m e = absurd (none-some (a, rest, m) e)
  node_spelled (w ∷ ws) (suc n) a rest m e = let found = spelled_at w ws n a rest m e in (found.0, ap suc found.1)

  pub word_from : (w : List ℕ) (a : A) (ws : List (List ℕ)) (n : ℕ) → spell w ≡ Some a
      → then_find (find_word (w ∷ ws) n) (λ w ws n. spelled (spell w) ws n) ≡ Some (a, ws, n)
  word_from w a ws n e = ap (λ o. spelled o ws n) e

  pub node_from : (w : List ℕ) (a : A) (ws : List (List ℕ)) (n : ℕ) → spell w ≡ Some a
      → then_find (find_node (w ∷ ws) (suc n)) (λ w ws n. spelled (spell w) ws n) ≡ Some (a, ws, n)
  node_from w a ws n e = ap (λ o. spelled o ws n) e
