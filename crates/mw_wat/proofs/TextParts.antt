-- Parts of a text one after another.
use Rattle.std.proofs.Common.{◌≡◌, ℕ, ◌+◌, ◌/◌, ◌%◌, ◌^◌, ◌<◌, ◌≤◌, zero, suc, List, [], ◌∷◌, ◌++◌, map, drop, length}
use Rattle.std.proofs.Common.{get_or, refl, ap, sym, ◌∙◌, arith, Bool, true, false, append_assoc, append-nil, drop-cons}
use Rattle.std.proofs.Common.{add-one, Result, Ok, Err}
use Rattle.std.specs.Prelude.{codes, OnOk}
use Rattle.std.specs.List.{flat_map}
use Rattle.std.specs.Fmt.{decimal}
use Rattle.mw_key.proofs.Texts.{digit_written}
use Rattle.std.proofs.lemmas.Bool.{false≢true}
use Rattle.mw_wasm.specs.declared.values.ValType.{ValType}
use Rattle.mw_wat.specs.Names.{type_name}
use Rattle.mw_wat.specs.Lexemes.{Lexeme, left, right, word, number, keyed, constant, name, octets, within, types_behind}
use Rattle.mw_wat.specs.CanonicalTexts.{quoted, spelled, is_left}
use Rattle.mw_wat.specs.Spacing.{spaced, opened}

-- whether lexemes end with `(`, or, where there are none, what stands before them
abbrev pub ends_open : Bool → List Lexeme → Bool
ends_open o [] = o
ends_open o (i ∷ is) = ends_open (is_left i) is

pub ends_append : (o : Bool) (xs ys : List Lexeme) → ends_open o (xs ++ ys) ≡ ends_open (ends_open o xs) ys
ends_append o [] ys = refl
ends_append o (x ∷ xs) ys = ends_append (is_left x) xs ys

pub within_closed : (o : Bool) (xs : List Lexeme) → ends_open o (within xs) ≡ false
within_closed o xs = ends_append true xs (right ∷ [])

pub types_closed : (w : List ℕ) (ts : List ValType) → ends_open false (types_behind w ts) ≡ false
types_closed w [] = refl
types_closed w (t ∷ ts) = within_closed false (word w ∷ map (λ t. word (type_name t)) (t ∷ ts))

pub each_closed : {A : Type 0} (f : A → Lexeme) → ((x : A) → is_left (f x) ≡ false) → (xs : List A) → ends_open false
    (map f xs) ≡ false
each_closed f g [] = refl
each_closed f g (x ∷ xs) = ap (λ o. ends_open o (map f xs)) (g x) ∙ each_closed f g xs

pub both_closed : (xs ys : List Lexeme) → ends_open false xs ≡ false → ends_open false ys ≡ false → ends_open false
    (xs ++ ys) ≡ false
both_closed xs ys a b = ends_append false xs ys ∙ (ap (λ o. ends_open o ys) a ∙ b)

after : (front : List ℕ) (xs ys : List Lexeme) → spaced (xs ++ ys) ≡ spaced xs ++ spaced ys → front ++ spaced
    (xs ++ ys) ≡ (front ++ spaced xs) ++ spaced ys
after front xs ys e = ap (λ t. front ++ t) e ∙ sym (append_assoc front (spaced xs) (spaced ys))

-- two parts, of which the first doesn't end with `(`
mutual
  pub spaced_append : (xs ys : List Lexeme) → ends_open false xs ≡ false → spaced (xs ++ ys) ≡ spaced xs ++ spaced ys
  spaced_append [] ys e = refl
  spaced_append (left ∷ xs) ys e = ap (λ t. 0x20 ∷ 0x28 ∷ t) (opened_append xs ys e)
  spaced_append (right ∷ xs) ys e = ap (λ t. 0x29 ∷ t) (spaced_append xs ys e)
  spaced_append (word w ∷ xs) ys e = after (0x20 ∷ w) xs ys (spaced_append xs ys e)
  spaced_append (number n ∷ xs) ys e = after (0x20 ∷ spelled (number n)) xs ys (spaced_append xs ys e)
  spaced_append (keyed key n ∷ xs) ys e = after (0x20 ∷ spelled (keyed key n)) xs ys (spaced_append xs ys e)
  spaced_append (constant w n ∷ xs) ys e = after (0x20 ∷ spelled (constant w n)) xs ys (spaced_append xs ys e)
  spaced_append (name bytes ∷ xs) ys e = after (0x20 ∷ spelled (name bytes)) xs ys (spaced_append xs ys e)
  spaced_append (octets bytes ∷ xs) ys e = after (0x20 ∷ spelled (octets bytes)) xs ys (spaced_append xs ys e)

  pub opened_append : (xs ys : List Lexeme) → ends_open true xs ≡ false → opened (xs ++ ys) ≡ opened xs ++ spaced ys
  opened_append [] ys e = absurd (false≢true (sym e))
  opened_append (left ∷ xs) ys e = ap (λ t. 0x28 ∷ t) (opened_append xs ys e)
  opened_append (right ∷ xs) ys e = after (codes ")") xs ys (spaced_append xs ys e)
  opened_append (word w ∷ xs) ys e = after w xs ys (spaced_append xs ys e)
  opened_append (number n ∷ xs) ys e = after (spelled (number n)) xs ys (spaced_append xs ys e)
  opened_append (keyed key n ∷ xs) ys e = after (spelled (keyed key n)) xs ys (spaced_append xs ys e)
  opened_append (constant w n ∷ xs) ys e = after (spelled (constant w n)) xs ys (spaced_append xs ys e)
  opened_append (name bytes ∷ xs) ys e = after (spelled (name bytes)) xs ys (spaced_append xs ys e)
  opened_append (octets bytes ∷ xs) ys e = after (spelled (octets bytes)) xs ys (spaced_append xs ys e)

pub spaced_map : {A : Type 0} (f : A → Lexeme) → ((x : A) → is_left (f x) ≡ false) → (xs : List A) → spaced
    (map f xs) ≡ flat_map (λ x. spaced (f x ∷ [])) xs
spaced_map f g [] = refl
spaced_map f g (x ∷ xs) = spaced_append (f x ∷ []) (map f xs) (g x) ∙ ap (λ t. spaced (f x ∷ []) ++ t)
    (spaced_map f g xs)

-- what a program appends
pub then_spaced : (old mid new : List ℕ) (xs ys : List Lexeme) → ends_open false xs ≡ false → mid ≡ old ++ spaced xs
    → new ≡ mid ++ spaced ys → new ≡ old ++ spaced (xs ++ ys)
then_spaced old mid new xs ys c e f = f
    ∙ (ap (λ t. t ++ spaced ys) e
    ∙ (append_assoc old (spaced xs) (spaced ys) ∙ ap (λ t. old ++ t) (sym (spaced_append xs ys c))))

pub last_spaced : {T E : Type 0} (r : Result T E) (old mid new : List ℕ) (xs ys : List Lexeme)
    → ends_open false xs ≡ false → mid ≡ old ++ spaced xs → OnOk r (new ≡ mid ++ spaced ys) → OnOk r
    (new ≡ old ++ spaced (xs ++ ys))
last_spaced (Ok x) old mid new xs ys c e h = then_spaced old mid new xs ys c e h
last_spaced (Err x) old mid new xs ys c e h = tt

pub as_spaced : {T E : Type 0} (r : Result T E) (old new : List ℕ) (xs ys : List Lexeme) → ys ≡ xs → OnOk r
    (new ≡ old ++ spaced xs) → OnOk r (new ≡ old ++ spaced ys)
as_spaced (Ok x) old new xs ys e h = h ∙ ap (λ is. old ++ spaced is) (sym e)
as_spaced (Err x) old new xs ys e h = tt

-- parts that are written one after another: what is written and those that are left are the whole
module _ {A : Type 0} (f : A → List ℕ) (xs : List A) where
  pub left_step : (k : ℕ) (d y : A) (out more whole : List ℕ) → k < length xs → y ≡ get_or xs k d → more ≡ out ++ f y
      → out ++ flat_map f (drop k xs) ≡ whole → more ++ flat_map f (drop (k + 1) xs) ≡ whole
  left_step k d y out more whole h e m w =
      let split : drop k xs ≡ y ∷ drop (k + 1) xs = drop-cons xs k d h
      ∙ (ap (λ z. z ∷ drop (suc k) xs) (sym e) ∙ ap (λ j. y ∷ drop j xs) (sym (add-one k))) in
      ap (λ t. t ++ flat_map f (drop (k + 1) xs)) m
      ∙ (append_assoc out (f y) (flat_map f (drop (k + 1) xs))
      ∙ (ap (λ ys. out ++ flat_map f ys) (sym split) ∙ w))

  drop_past : (xs : List A) (k : ℕ) → length xs ≤ k → drop k xs ≡ []
  drop_past [] zero h = refl
  drop_past [] (suc k) h = refl
  drop_past (x ∷ xs) zero h = absurd (omega arith)
  drop_past (x ∷ xs) (suc k) h = drop_past xs k (omega arith)

  pub left_end : (k : ℕ) (out whole : List ℕ) → length xs ≤ k → out ++ flat_map f (drop k xs) ≡ whole → out ≡ whole
  left_end k out whole h w = sym (append-nil out) ∙ (ap (λ ys. out ++ flat_map f ys) (sym (drop_past xs k h)) ∙ w)

-- the end of a string
pub string_end : {T E : Type 0} (r : Result T E) (old mid new text : List ℕ) → mid ≡ (old ++ codes " \"") ++ text
    → OnOk r (new ≡ mid ++ codes "\"") → OnOk r (new ≡ old ++ (0x20 ∷ quoted text ++ []))
string_end (Ok x) old mid new text e h =
    h ∙ (ap (λ t. t ++ codes "\"") e
    ∙ (append_assoc (old ++ codes " \"") text (codes "\"")
    ∙ (append_assoc old (codes " \"") (text ++ codes "\"") ∙ ap (λ t. old ++ 0x20 ∷ 0x22 ∷ t)
    (sym (append-nil (text ++ codes "\""))))))
string_end (Err x) old mid new text e h = tt

-- the last digit of a number
pub digit_end : {T E : Type 0} (r : Result T E) (old mid new : List ℕ) (n : ℕ) → 10 ≤ n → n < 2 ^ 64 → mid ≡ old
    ++ decimal (n / 10) → OnOk r (new ≡ mid ++ (48 + n % 10) ∷ []) → OnOk r (new ≡ old ++ decimal n)
digit_end (Ok x) old mid new n p q e h = h ∙ digit_written old mid n p q e
digit_end (Err x) old mid new n p q e h = tt
