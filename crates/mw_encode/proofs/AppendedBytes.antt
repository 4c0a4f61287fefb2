-- Bytes that are appended piece after piece.
use Rattle.std.proofs.Common.{◌≡◌, ◌≤◌, ◌<◌, ◌^◌, ℕ, zero, suc, ◌+◌, List, [], ◌∷◌, ◌++◌, length, map, drop, get_or}
use Rattle.std.proofs.Common.{drop-cons, add-one, append_assoc, append-nil, refl, sym, ap, ◌∙◌, arith, Result, Ok, Err}
use Rattle.std.specs.Prelude.{OnOk}
use Rattle.std.specs.List.{flat_map}
use Rattle.std.proofs.lemmas.List.{length-map, drop_all}
use Rattle.mw_wasm.specs.Pieces.{Piece, vector}
use Rattle.mw_wasm.specs.BinaryModules.{section}
use Rattle.mw_encode.specs.Encoding.{Spelled, number, vector_bytes, sized_bytes, section_bytes}
use Rattle.mw_encode.proofs.Best.{Best}
use Rattle.mw_encode.proofs.Pieces.{section_vector, section_some, section_small}

pub after : {a m n : List ℕ} (b : List ℕ) → m ≡ a → n ≡ m ++ b → n ≡ a ++ b
after b e f = f ∙ ap (λ t. t ++ b) e

-- the last piece, which may want memory
pub after_last : {T E : Type 0} (r : Result T E) {a m : List ℕ} (n b : List ℕ) → m ≡ a → OnOk r (n ≡ m ++ b)
    → OnOk r (n ≡ a ++ b)
after_last (Ok x) n b e h = after b e h
after_last (Err x) n b e h = tt

pub ends_with : {T E : Type 0} (r : Result T E) (new old xs ys : List ℕ) → ys ≡ xs → OnOk r (new ≡ old ++ xs)
    → OnOk r (new ≡ old ++ ys)
ends_with (Ok x) new old xs ys e h = h ∙ ap (λ t. old ++ t) (sym e)
ends_with (Err x) new old xs ys e h = tt

-- items that are written one after another: what is written and those that are left are the whole
module _ {A : Type 0} (f : A → List ℕ) (xs : List A) where
  pub left_start : (all : List A) (n : ℕ) (old out : List ℕ) → out ≡ old ++ number n → n ≡ length all → xs ≡ all
      → out ++ flat_map f xs ≡ old ++ vector_bytes f xs
  left_start all n old out h e l = ap (λ t. t ++ flat_map f xs) (h ∙ ap (λ k. old ++ number k) (e ∙ sym (ap length l)))
      ∙ append_assoc old (number (length xs)) (flat_map f xs)

  pub left_step : (k : ℕ) (d y : A) (out more whole : List ℕ) → k < length xs → y ≡ get_or xs k d → more ≡ out ++ f y
      → out ++ flat_map f (drop k xs) ≡ whole → more ++ flat_map f (drop (k + 1) xs) ≡ whole
  left_step k d y out more whole h e m w =
      let split : drop k xs ≡ y ∷ drop (k + 1) xs = drop-cons xs k d h
      ∙ (ap (λ z. z ∷ drop (suc k) xs) (sym e) ∙ ap (λ j. y ∷ drop j xs) (sym (add-one k))) in
      ap (λ t. t ++ flat_map f (drop (k + 1) xs)) m
      ∙ (append_assoc out (f y) (flat_map f (drop (k + 1) xs)) ∙ (ap (λ ys. out ++ flat_map f ys) (sym split) ∙ w))

  pub left_end : (k : ℕ) (out whole : List ℕ) → length xs ≤ k → out ++ flat_map f (drop k xs) ≡ whole → out ≡ whole
  left_end k out whole h w = sym (append-nil out) ∙ (ap (λ ys. out ++ flat_map f ys) (sym (drop_all k xs h)) ∙ w)

pub positive : (n : ℕ) → (n ≡ 0 → ⊥) → 0 < n
positive zero h = absurd (h refl)
positive (suc n) h = omega arith

-- a section of items that are seen through a view, n in number
module _ {A B : Type 0} (id : ℕ) (P : B → Piece) (f : B → List ℕ) (v : A → B) (xs : List A) (n : ℕ)
    (count : n ≡ length xs) where
  pub no_section : (old : List ℕ) → n ≡ 0 → old ≡ old ++ section_bytes id f (map v xs)
  no_section old z = sym (append-nil old) ∙ ap (λ t. old ++ t) (sym (none xs (sym count ∙ z)))
    where
      none : (xs : List A) → length xs ≡ 0 → section_bytes id f (map v xs) ≡ []
      none [] e = refl
      none (x ∷ xs) e = absurd (omega arith)

  some : (n ≡ 0 → ⊥) → 0 < length (map v xs)
  some h = rw (length-map xs v, ← count) (positive n h)

  pub items_spelled : (zs : List A) → (n ≡ 0 → ⊥) → zs ≡ xs → Spelled (section id P (map v xs))
      → Spelled (vector P (map v zs))
  items_spelled zs h e s = rw e (section_vector id P (map v xs) (some h) s)

  pub content_is : (zs : List A) (start content slice : List ℕ) → zs ≡ xs → start ≡ [] → content ≡ start
      ++ vector_bytes f (map v zs) → slice ≡ content → slice ≡ vector_bytes f (map v xs)
  content_is zs start content slice e z c s =
      s ∙ (c ∙ (ap (λ t. t ++ vector_bytes f (map v zs)) z ∙ ap (λ ys. vector_bytes f (map v ys)) e))

  pub content_fits : ((x : B) → Best (P x) (f x)) → (slice : List ℕ) → (n ≡ 0 → ⊥) → slice ≡ vector_bytes f (map v xs)
      → Spelled (section id P (map v xs)) → length slice < 2 ^ 32
  content_fits best slice h e s = rw e (section_small id P f best (map v xs) (some h) s)

  pub section_put : {T E : Type 0} (r : Result T E) (new old slice : List ℕ) → (n ≡ 0 → ⊥)
      → slice ≡ vector_bytes f (map v xs) → OnOk r (new ≡ old ++ id ∷ sized_bytes slice)
      → OnOk r (new ≡ old ++ section_bytes id f (map v xs))
  section_put r new old slice h e w = ends_with r new old (id ∷ sized_bytes slice) (section_bytes id f (map v xs))
      (section_some id f (map v xs) (some h) ∙ ap (λ bytes. id ∷ sized_bytes bytes) (sym e)) w

-- the content of such a section has less than 2 ^ 32 bytes
pub content_small : {A B : Type 0} (id : ℕ) (P : B → Piece) (f : B → List ℕ) → ((x : B) → Best (P x) (f x))
    → (v : A → B) (xs : List A) → Spelled (section id P (map v xs)) → 0 < length xs → length (vector_bytes f (map v xs))
    < 2 ^ 32
content_small id P f best v xs s h = section_small id P f best (map v xs) (rw (length-map xs v) h) s
