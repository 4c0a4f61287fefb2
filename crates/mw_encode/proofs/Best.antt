-- The canonical bytes of a piece spell it, and no other spelling is shorter: how the pieces of the grammar keep that.
use Rattle.std.proofs.Common.{◌≡◌, ℕ, ◌^◌, ◌≤◌, ◌<◌, ℤ, inl, inr, List, [], ◌∷◌, ◌++◌, length, length-append, refl}
use Rattle.std.proofs.Common.{arith}
use Rattle.std.specs.List.{flat_map}
use Rattle.mw_wasm.specs.Leb.{IsSigned, IsInteger}
use Rattle.mw_wasm.specs.Pieces.{Piece, Sized, byte, exactly, octet, ◌then◌, ◌or◌, ◌when◌, u32, i32, i64, items, vector}
use Rattle.mw_wasm.specs.Pieces.{sized}
use Rattle.mw_wasm.specs.BinaryModules.{section}
use Rattle.mw_leb.specs.Shortest.{shortest_signed, IsShortest}
use Rattle.mw_leb.proofs.Groups.{unsigned_shortest, signed_shortest}
use Rattle.mw_encode.specs.Encoding.{Spelled, number, constant, signed_of, octet_bytes, vector_bytes, sized_bytes}
use Rattle.mw_encode.specs.Encoding.{section_bytes}
use Rattle.mw_encode.proofs.Numbers.{unsigned_below, signed_range, signed_is, number_rises}

pub record Best (P : List ℕ → Type 0) (best : List ℕ) : Type 0 where
  pub spells : (other : List ℕ) → P other → P best
  pub least : (other : List ℕ) → P other → length best ≤ length other

pub best_exactly : (those : List ℕ) → Best (exactly those) those
best_exactly those = record { spells = λ other p. refl; least = λ other p. rw p (omega arith) }

pub best_byte : (b : ℕ) → Best (byte b) (b ∷ [])
best_byte b = best_exactly (b ∷ [])

pub best_octet : (b : ℕ) → Best (octet b) (octet_bytes b)
best_octet b = record { spells = λ other p. (p.0, refl); least = λ other p. rw p.1 (omega arith) }

pub best_then : {P Q : List ℕ → Type 0} {a b : List ℕ} → Best P a → Best Q b → Best (P then Q) (a ++ b)
best_then {P} {Q} {a} {b} x y = record {
  spells = λ other p. record {
    front = a;
    back = b;
    whole = refl;
    first = x.spells p.front p.first;
    second =
        y.spells p.back p.second;
  };
  least = λ other p. shorter other p;
}
  where
    shorter : (other : List ℕ) → (P then Q) other → length (a ++ b) ≤ length other
    shorter other p =
        let l : length a ≤ length p.front = x.least p.front p.first in
        let r : length b ≤ length p.back = y.least p.back p.second in
        rw (p.whole, length-append a b, length-append p.front p.back) (omega arith)

pub best_when : {P : List ℕ → Type 0} {a : List ℕ} {A : Type 0} → Best P a → Best (P when A) a
best_when x = record { spells = λ other p. (p.0, x.spells other p.1); least = λ other p. x.least other p.1 }

pub best_u32 : (n : ℕ) → Best (u32 n) (number n)
best_u32 n = record {
  spells = λ other p. (unsigned_shortest 32 n (omega arith) (unsigned_below other 32 n p)).spells;
  least = λ other p. (unsigned_shortest 32 n (omega arith) (unsigned_below other 32 n p)).least other p;
}

best_integer : (N n : ℕ) → 1 ≤ N → N ≤ 70 → Best (λ bytes. IsInteger N bytes n) (constant N n)
best_integer N n w v = record { spells = λ other p. spells other p; least = λ other p. least other p }
  where
    shortest : (other : List ℕ) (z : ℤ) → IsSigned N other z → IsShortest (λ bytes. IsSigned N bytes z)
        (shortest_signed z)
    shortest other z p = let r = signed_range other N z p in signed_shortest N z v r.low r.high

    spells : (other : List ℕ) → IsInteger N other n → IsInteger N (constant N n) n
    spells other (z, p, e) = let f : z ≡ signed_of N n = signed_is N n z w (signed_range other N z p) e in
        (z, rw (← f) (shortest other z p).spells, e)

    least : (other : List ℕ) → IsInteger N other n → length (constant N n) ≤ length other
    least other (z, p, e) = let f : z ≡ signed_of N n = signed_is N n z w (signed_range other N z p) e in
        rw (← f) ((shortest other z p).least other p)

pub best_i32 : (n : ℕ) → Best (i32 n) (constant 32 n)
best_i32 n = best_integer 32 n (omega arith) (omega arith)

pub best_i64 : (n : ℕ) → Best (i64 n) (constant 64 n)
best_i64 n = best_integer 64 n (omega arith) (omega arith)

pub best_items : {A : Type 0} (P : A → Piece) (f : A → List ℕ) → ((x : A) → Best (P x) (f x)) → (xs : List A)
    → Best (items P xs) (flat_map f xs)
best_items P f each [] = best_exactly []
best_items P f each (x ∷ xs) = best_then (each x) (best_items P f each xs)

pub best_vector : {A : Type 0} (P : A → Piece) (f : A → List ℕ) → ((x : A) → Best (P x) (f x)) → (xs : List A)
    → Best (vector P xs) (vector_bytes f xs)
best_vector P f each xs = best_then (best_u32 (length xs)) (best_items P f each xs)

pub best_sized : {P : List ℕ → Type 0} {a : List ℕ} → Best P a → Best (sized P) (sized_bytes a)
best_sized {P} {a} x = record { spells = λ other p. spells other p; least = λ other p. least other p }
  where
    small : (other : List ℕ) → Sized P other → length a < 2 ^ 32
    small other p = let l : length a ≤ length p.content = x.least p.content p.inside in let h : length p.content
        < 2 ^ 32 = unsigned_below p.size 32 (length p.content) p.counted in omega arith

    spells : (other : List ℕ) → Sized P other → Sized P (sized_bytes a)
    spells other p =
        record {
          size = number (length a);
          content = a;
          whole = refl;
          counted =
              (unsigned_shortest 32 (length a) (omega arith) (small other p)).spells;
          inside = x.spells p.content p.inside;
        }

    least : (other : List ℕ) → Sized P other → length (sized_bytes a) ≤ length other
    least other p =
        let l : length a ≤ length p.content = x.least p.content p.inside in
        let m : length (number (length a)) ≤ length (number (length p.content)) =
        number_rises (length a) (length p.content) l in
        let n : length (number (length p.content)) ≤ length p.size = (best_u32 (length p.content)).least p.size
        p.counted in
        rw (p.whole, length-append (number (length a)) a, length-append p.size p.content) (omega arith)

-- what a size bounds
pub content_small : {P : List ℕ → Type 0} {a : List ℕ} → Best P a → Spelled (sized P) → length a < 2 ^ 32
content_small x s = let p = s.spell in let l = x.least p.content p.inside in let h =
    unsigned_below p.size 32 (length p.content) p.counted in omega (arith, l, h)

pub best_section : {A : Type 0} (id : ℕ) (P : A → Piece) (f : A → List ℕ) → ((x : A) → Best (P x) (f x)) → (xs : List A)
    → Best (section id P xs) (section_bytes id f xs)
best_section id P f each [] = record { spells = λ other p. inl (refl, refl); least = λ other p. omega arith }
best_section id P f each (x ∷ xs) =
    record {
      spells = λ other p. inr (there.spells other (stands other p));
      least = λ other p.
          there.least other (stands other p);
    }
  where
    there : Best (byte id then sized (vector P (x ∷ xs))) (section_bytes id f (x ∷ xs))
    there = best_then (best_byte id) (best_sized (best_vector P f each (x ∷ xs)))

    stands : (other : List ℕ) → section id P (x ∷ xs) other → (byte id then sized (vector P (x ∷ xs))) other
    stands other (inl p) = absurd (let e : x ∷ xs ≡ [] = p.0 in cc)
    stands other (inr p) = p

pub best_or_left : {P Q : List ℕ → Type 0} {a : List ℕ} → Best P a → P a
    → ((other : List ℕ) → Q other → length a ≤ length other) → Best (P or Q) a
best_or_left {P} {Q} {a} x spelled second =
    record {
      spells = λ other p. inl spelled;
      least = λ other p.
          elim p [ inl l ↦ x.least other l | inr r ↦ second other r ];
    }

pub best_or_right : {P Q : List ℕ → Type 0} {a : List ℕ} → ((other : List ℕ) → P other → ⊥) → Best Q a → Best (P or Q) a
best_or_right {P} {Q} {a} none x = record {
  spells = λ other p. elim p [ inl l ↦ absurd (none other l) | inr r ↦ inr (x.spells other r) ];
  least = λ other p. elim p [ inl l ↦ absurd (none other l) | inr r ↦ x.least other r ];
}
