-- What the parts of a piece that is spelled are, and how items are written one after another.
use Rattle.std.proofs.Common.{◌≡◌, ℕ, suc, ◌+◌, ◌^◌, ◌≤◌, ◌<◌, List, [], ◌∷◌, ◌++◌, length, map, drop, get_or}
use Rattle.std.proofs.Common.{drop-cons, add-one, append_assoc, append-nil, refl, sym, ap, ◌∙◌, inl, inr, arith}
use Rattle.std.proofs.lemmas.List.{length-map, map-id, drop_all}
use Rattle.std.specs.List.{flat_map}
use Rattle.mw_wasm.specs.Pieces.{Piece, ◌then◌, items, vector}
use Rattle.mw_wasm.specs.BinaryModules.{section}
use Rattle.mw_encode.specs.Encoding.{Spelled, number, octet_bytes, vector_bytes, sized_bytes, section_bytes}
use Rattle.mw_encode.proofs.Best.{Best, best_vector, content_small}
use Rattle.mw_encode.proofs.Numbers.{unsigned_below}

pub spelled_first : {P Q : List ℕ → Type 0} → Spelled (P then Q) → Spelled P
spelled_first s = record { bytes = s.spell.front; spell = s.spell.first }

pub spelled_second : {P Q : List ℕ → Type 0} → Spelled (P then Q) → Spelled Q
spelled_second s = record { bytes = s.spell.back; spell = s.spell.second }

pub spelled_count : {A : Type 0} (P : A → Piece) (xs : List A) → Spelled (vector P xs) → length xs < 2 ^ 32
spelled_count P xs s = unsigned_below s.spell.front 32 (length xs) s.spell.first

pub octets_are : (xs : List ℕ) → flat_map octet_bytes xs ≡ xs
octets_are [] = refl
octets_are (x ∷ xs) = ap (λ t. x ∷ t) (octets_are xs)

-- The items that are left are spelled, and what is written and they are the whole.
pub record Rest {A : Type 0} (P : A → Piece) (f : A → List ℕ) (rest : List A) (out whole : List ℕ) : Type 0 where
  pub spelled : Spelled (items P rest)
  pub written : out ++ flat_map f rest ≡ whole

pub rest_start : {A : Type 0} (P : A → Piece) (f : A → List ℕ) (xs : List A) (out : List ℕ) → Spelled (items P xs)
    → Rest P f xs out (out ++ flat_map f xs)
rest_start P f xs out s = record { spelled = s; written = refl }

-- the next item, and what is left after it
pub rest_item : {A : Type 0} (P : A → Piece) (f : A → List ℕ) (xs : List A) (k : ℕ) (x : A) (out whole : List ℕ)
    → k < length xs → x ≡ get_or xs k x → Rest P f (drop k xs) out whole → Spelled (P x)
rest_item P f xs k x out whole h e r =
    let split : drop k xs ≡ x ∷ drop (suc k) xs = drop-cons xs k x h ∙ ap (λ y. y ∷ drop (suc k) xs) (sym e) in
    let s : Spelled (items P (x ∷ drop (suc k) xs)) = rw split at r.spelled in
    spelled_first s

pub rest_step : {A : Type 0} (P : A → Piece) (f : A → List ℕ) (xs : List A) (k : ℕ) (x : A) (out more whole : List ℕ)
    → k < length xs → x ≡ get_or xs k x → more ≡ out ++ f x → Rest P f (drop k xs) out whole
    → Rest P f (drop (k + 1) xs) more whole
rest_step P f xs k x out more whole h e m r =
    let split : drop k xs ≡ x ∷ drop (suc k) xs = drop-cons xs k x h ∙ ap (λ y. y ∷ drop (suc k) xs) (sym e) in
    let s : Spelled (items P (x ∷ drop (suc k) xs)) = rw split at r.spelled in
    let w : out ++ (f x ++ flat_map f (drop (suc k) xs)) ≡ whole = rw split at r.written in
    rw add-one (record { spelled = spelled_second s; written = rw (m, append_assoc) w })

pub rest_end : {A : Type 0} (P : A → Piece) (f : A → List ℕ) (xs : List A) (k : ℕ) (out whole : List ℕ) → length xs ≤ k
    → Rest P f (drop k xs) out whole → out ≡ whole
rest_end P f xs k out whole h r = let e : drop k xs ≡ [] = drop_all k xs h in let w : out ++ [] ≡ whole =
    rw e at r.written in sym (append-nil out) ∙ w

-- the same first part, and the second as another piece
pub same_first : {P Q R : List ℕ → Type 0} {bytes : List ℕ} (p : (P then Q) bytes) → R p.back → (P then R) bytes
same_first p r = record { front = p.front; back = p.back; whole = p.whole; first = p.first; second = r }

-- items that are seen through a view
pub viewed_items : {A B : Type 0} (P : B → Piece) (v : A → B) (xs : List A) (bytes : List ℕ) → items P (map v xs) bytes
    → items (λ x. P (v x)) xs bytes
viewed_items P v [] bytes p = p
viewed_items P v (x ∷ xs) bytes p = same_first p (viewed_items P v xs p.back p.second)

pub viewed_bytes : {A B : Type 0} (f : B → List ℕ) (v : A → B) (xs : List A) → flat_map f (map v xs)
    ≡ flat_map (λ x. f (v x)) xs
viewed_bytes f v [] = refl
viewed_bytes f v (x ∷ xs) = ap (λ t. f (v x) ++ t) (viewed_bytes f v xs)

pub viewed_start : {A B : Type 0} (P : B → Piece) (f : B → List ℕ) (v : A → B) (xs : List A) (old out : List ℕ)
    → Spelled (vector P (map v xs)) → out ≡ old ++ number (length xs)
    → Rest (λ x. P (v x)) (λ x. f (v x)) xs out (old ++ vector_bytes f (map v xs))
viewed_start P f v xs old out s e =
    let i = spelled_second s in
    record {
      spelled = record { bytes = i.bytes; spell = viewed_items P v xs i.bytes i.spell };
      written =
          rw (e, length-map xs v, viewed_bytes f v xs, append_assoc) refl;
    }

pub viewed_count : {A B : Type 0} (P : B → Piece) (v : A → B) (xs : List A) → Spelled (vector P (map v xs))
    → length xs < 2 ^ 32
viewed_count P v xs s = let h : length (map v xs) < 2 ^ 32 = spelled_count P (map v xs) s in rw (length-map xs v) at h

-- items that are seen as they are
pub seen_same : {A : Type 0} (xs : List A) → map (λ x. x) xs ≡ xs
seen_same xs = map-id xs

-- sections
pub section_vector : {A : Type 0} (id : ℕ) (P : A → Piece) (xs : List A) → 0 < length xs → Spelled (section id P xs)
    → Spelled (vector P xs)
section_vector id P xs h s = elim s.spell [
  | inl p ↦ absurd (omega (arith, h, ap length p.0))
  | inr p ↦ record { bytes = p.second.content; spell = p.second.inside }
]

pub section_some : {A : Type 0} (id : ℕ) (f : A → List ℕ) (xs : List A) → 0 < length xs → section_bytes id f xs ≡ id
    ∷ sized_bytes (vector_bytes f xs)
section_some id f [] h = absurd (omega arith)
section_some id f (x ∷ xs) h = refl

pub section_small : {A : Type 0} (id : ℕ) (P : A → Piece) (f : A → List ℕ) → ((x : A) → Best (P x) (f x))
    → (xs : List A) → 0 < length xs → Spelled (section id P xs) → length (vector_bytes f xs) < 2 ^ 32
section_small id P f each xs h s = elim s.spell [
  | inl p ↦ absurd (omega (arith, h, ap length p.0))
  | inr p ↦ content_small (best_vector P f each xs) (record { bytes = _; spell = p.second })
]
