-- Parts of a name, and parts that a command takes.
use Rattle.std.proofs.Common.{◌≡◌, ℕ, ◌≤◌, Bool, true, false, cond, ◌||◌, List, [], ◌∷◌, ◌++◌, Option, Some, None}
use Rattle.std.proofs.Common.{length, map, refl, sym, ◌∙◌, ap, subst, append-nil, length-append, arith}
use denote.Ref.{Bor}
use Rattle.std.specs.Prelude.{filter, nat_eq}
use Rattle.std.specs.List.{list_any}
use Rattle.std.specs.Cmp.Lexicographic.{pointwise}
use Rattle.std.specs.Str.{bytes_eq}
use Rattle.std.proofs.lemmas.List.Elements.{filter-append}
use Rattle.std.proofs.lemmas.Slice.Eq.{bytes_eq-Decides}
use Rattle.mw_words.specs.Words.{PurePart, option, is_named, parts_named, IsNumber, IsNumberOf, named_once, word_in}
use Rattle.mw_words.specs.Words.{IsSwitchOf, on, IsFileWord, IsWordOf, with_word}

pub any_mapped : (options : List (Bor (List ℕ))) (name : List ℕ)
    → list_any (λ (own : Bor (List ℕ)). pointwise nat_eq own.now name) options
    ≡ list_any (λ own. bytes_eq own name) (map word_in options)
any_mapped [] name = refl
any_mapped (own ∷ options) name = ap (λ b. bytes_eq own.now name || b) (any_mapped options name)

module _ {A : Type 0} (test : A → Bool) where
  -- with one more that passes, and with one that doesn't
  pub one_passes : (xs ys : List A) (x : A) → test x ≡ true → filter test xs ≡ ys
      → filter test (xs ++ x ∷ []) ≡ ys ++ x ∷ []
  one_passes xs ys x e h = filter-append test xs (x ∷ []) ∙ (rw (e, h) refl)

  pub one_fails : (xs ys : List A) (x : A) → test x ≡ false → filter test xs ≡ ys → filter test (xs ++ x ∷ []) ≡ ys
  one_fails xs ys x e h = filter-append test xs (x ∷ []) ∙ (rw (e, h) (append-nil ys))

  -- one that passes stands among those that do
  pub passes_among : (all xs ys : List A) (x : A) → all ≡ xs ++ x ∷ ys → test x ≡ true
      → filter test all ≡ filter test xs ++ x ∷ filter test ys
  passes_among all xs ys x e h = ap (filter test) e ∙ (filter-append test xs (x ∷ ys) ∙ rw h refl)

  pub not_none : (all xs ys : List A) (x : A) → all ≡ xs ++ x ∷ ys → test x ≡ true → filter test all ≡ [] → ⊥
  not_none all xs ys x e h none =
      let whole = passes_among all xs ys x e h in
      let size = length-append (filter test xs) (x ∷ filter test ys) in
      omega (arith, ap (λ (l : List A). length l) (sym none ∙ whole), size)

  pub two_pass : (all xs ys : List A) (x : A) → all ≡ xs ++ x ∷ ys → test x ≡ true → 1 ≤ length (filter test xs)
      → 2 ≤ length (filter test all)
  two_pass all xs ys x e h one =
      let whole = passes_among all xs ys x e h in
      omega (arith, ap (λ (l : List A). length l) whole, length-append (filter test xs) (x ∷ filter test ys), one)

  -- the first of those that pass does
  pub first_passes : (xs ys : List A) (y : A) → filter test xs ≡ y ∷ ys → test y ≡ true
  first_passes [] ys y e = cc
  first_passes (x ∷ xs) ys y e = by_first (first_passes xs ys y) (test x) refl e
    where
      by_first : (filter test xs ≡ y ∷ ys → test y ≡ true) → (t : Bool) → test x ≡ t
          → cond t (x ∷ filter test xs) (filter test xs) ≡ y ∷ ys → test y ≡ true
      by_first more true h e = let same : x ≡ y = cc in subst (λ z. test z ≡ true) same h
      by_first more false h e = more e

  -- where one passes at most, two beside each other may change places
  pub swapped : (before after : List A) (p q : A) → length (filter test (before ++ p ∷ q ∷ after)) ≤ 1
      → filter test (before ++ p ∷ q ∷ after) ≡ filter test (before ++ q ∷ p ∷ after)
  swapped before after p q few = by_both (test p) (test q) refl refl
    where
      joined : filter test (p ∷ q ∷ after) ≡ filter test (q ∷ p ∷ after)
          → filter test (before ++ p ∷ q ∷ after) ≡ filter test (before ++ q ∷ p ∷ after)
      joined e = filter-append test before (p ∷ q ∷ after)
          ∙ (ap (λ l. filter test before ++ l) e ∙ sym (filter-append test before (q ∷ p ∷ after)))

      by_both : (s t : Bool) → test p ≡ s → test q ≡ t
          → filter test (before ++ p ∷ q ∷ after) ≡ filter test (before ++ q ∷ p ∷ after)
      by_both true true e f =
          let two : filter test (p ∷ q ∷ after) ≡ p ∷ q ∷ filter test after = rw (e, f) refl in
          let all = filter-append test before (p ∷ q ∷ after) ∙ ap (λ l. filter test before ++ l) two in
          let size = length-append (filter test before) (p ∷ q ∷ filter test after) in
          absurd (omega (arith, few, ap (λ (l : List A). length l) all, size))
      by_both true false e f = joined (rw (e, f) refl)
      by_both false true e f = joined (rw (e, f) refl)
      by_both false false e f = joined (rw (e, f) refl)

-- an option that was found by a name has it
pub own_name : (parts rest : List PurePart) (name own : List ℕ) (value : Option (List ℕ))
    → parts_named (Some name) parts ≡ option own value ∷ rest → own ≡ name
own_name parts rest name own value e = (bytes_eq-Decides own name).0 (first_passes (is_named (Some name)) parts rest
    (option own value) e)

-- an option that was found once
pub once_named : (parts : List PurePart) (name own word : List ℕ) (most default n : ℕ)
    → parts_named (Some name) parts ≡ option own (Some word) ∷ [] → IsNumber most word n
    → IsNumberOf name most default parts n
once_named parts name own word most default n e h =
    named_once (e ∙ ap (λ o. option o (Some word) ∷ []) (own_name parts [] name own (Some word) e)) h

pub once_on : (parts : List PurePart) (name own : List ℕ) → parts_named (Some name) parts ≡ option own None ∷ []
    → IsSwitchOf name parts true
once_on parts name own e = on (e ∙ ap (λ o. option o None ∷ []) (own_name parts [] name own None e))

pub once_worded : (parts : List PurePart) (name own word : List ℕ)
    → parts_named (Some name) parts ≡ option own (Some word) ∷ [] → IsFileWord word
    → IsWordOf name parts (Some word)
once_worded parts name own word e h =
    with_word (e ∙ ap (λ o. option o (Some word) ∷ []) (own_name parts [] name own (Some word) e)) h
