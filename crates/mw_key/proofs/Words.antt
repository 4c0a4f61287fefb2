-- Bytes and their words.
use Rattle.std.proofs.Common.{◌≡◌, ℕ, suc, ◌+◌, ◌-◌, ◌≤◌, ◌==◌, nat_lt, List, [], ◌∷◌, ◌++◌, length, take, drop, refl}
use Rattle.std.proofs.Common.{sym, ◌∙◌, ap, arith, Bool, true, false, not, cond, ◌&&◌, Some, None}
use Rattle.std.specs.Prelude.{position}
use Rattle.std.specs.List.{join_with_byte, position_or_len, onto_first}
use Rattle.std.proofs.lemmas.Bool.{and_parts, not-true, ltb-true, ltb-false}
use Rattle.std.proofs.lemmas.Option.{none-some, cond_some}
use Rattle.std.proofs.lemmas.List.{append_assoc, append-nil, take_rest}
use Rattle.std.proofs.lemmas.List.Splits.{slice_split-cons_no, slice_split_first, length-slice_split}
use Rattle.std.proofs.lemmas.List.Splits.{join_with_byte-slice_split}
use Rattle.mw_key.specs.Reading.{words}

abbrev pub is_space : ℕ → Bool
is_space b = b == 32

-- there is a first word
pub some_word : (bytes : List ℕ) → words bytes ≡ [] → ⊥
some_word bytes e = let some = length-slice_split is_space bytes in omega (arith, some, ap length e)

-- a space at i ends the first word
pub split_here : (bytes : List ℕ) (i : ℕ) → position (λ b. b == 32) bytes ≡ Some i → words bytes ≡ take i bytes
    ∷ words (take (length bytes - (i + 1)) (drop (i + 1) bytes))
split_here bytes i e =
    let found = cond_some (nat_lt (position_or_len is_space bytes) (length bytes)) (position_or_len is_space bytes) i
    e in
    slice_split_first is_space bytes 0 (ltb-true (position_or_len is_space bytes) (length bytes) found.0)
    ∙ ap (λ j. take j bytes ∷ words (drop (j + 1) bytes)) found.1
    ∙ ap (λ rest. take i bytes ∷ words rest) (sym (take_rest bytes (i + 1)))

-- with no space the bytes are one word
one_word : (bytes : List ℕ) → length bytes ≤ position_or_len is_space bytes → words bytes ≡ bytes ∷ []
one_word [] l = refl
one_word (b ∷ bytes) l = by_test (one_word bytes) (is_space b) refl l
  where
    by_test : (length bytes ≤ position_or_len is_space bytes → words bytes ≡ bytes ∷ []) → (t : Bool) → is_space b ≡ t
        → suc (length bytes) ≤ cond (not t) (1 + position_or_len is_space bytes) 0 → words (b ∷ bytes) ≡ (b ∷ bytes)
        ∷ []
    by_test more true e l = absurd (omega arith)
    by_test more false e l = slice_split-cons_no is_space b bytes e ∙ ap (onto_first b) (more (omega arith))

pub split_whole : (bytes : List ℕ) → position (λ b. b == 32) bytes ≡ None → words bytes ≡ bytes ∷ []
split_whole bytes e = by_test (nat_lt (position_or_len is_space bytes) (length bytes)) refl e
  where
    by_test : (t : Bool) → nat_lt (position_or_len is_space bytes) (length bytes) ≡ t
        → cond t (Some (position_or_len is_space bytes)) None ≡ None → words bytes ≡ bytes ∷ []
    by_test true f e = absurd (none-some (position_or_len is_space bytes) (sym e))
    by_test false f e = one_word bytes (ltb-false (position_or_len is_space bytes) (length bytes) f)

-- words after spaces
abbrev pub spaced : List (List ℕ) → List ℕ
spaced [] = []
spaced (w ∷ ws) = 32 ∷ (w ++ spaced ws)

pub spaced-append : (ws vs : List (List ℕ)) → spaced (ws ++ vs) ≡ spaced ws ++ spaced vs
spaced-append [] vs = refl
spaced-append (w ∷ ws) vs =
    ap (λ bytes. 32 ∷ bytes) (ap (λ bytes. w ++ bytes) (spaced-append ws vs)
    ∙ sym (append_assoc w (spaced ws) (spaced vs)))

joined : (w : List ℕ) (ws : List (List ℕ)) → join_with_byte 32 (w ∷ ws) ≡ w ++ spaced ws
joined w [] = sym (append-nil w)
joined w (v ∷ ws) = ap (λ bytes. w ++ (32 ∷ bytes)) (joined v ws)

-- words with the spaces between them are the bytes
pub bytes_of_words : (bytes w : List ℕ) (ws : List (List ℕ)) → words bytes ≡ w ∷ ws → bytes ≡ w ++ spaced ws
bytes_of_words bytes w ws e = sym (join_with_byte-slice_split 32 bytes) ∙ ap (join_with_byte 32) e ∙ joined w ws

-- a word has no space
abbrev pub no_space : List ℕ → Bool
no_space [] = true
no_space (b ∷ bytes) = not (is_space b) && no_space bytes

abbrev pub NoSpaces : List (List ℕ) → Type 0
NoSpaces [] = Unit {0}
NoSpaces (w ∷ ws) = (no_space w ≡ true) × NoSpaces ws

pub NoSpaces-append : (ws vs : List (List ℕ)) → NoSpaces ws → NoSpaces vs → NoSpaces (ws ++ vs)
NoSpaces-append [] vs p q = q
NoSpaces-append (w ∷ ws) vs p q = (p.0, NoSpaces-append ws vs p.1 q)

word_before : (w rest : List ℕ) → no_space w ≡ true → words (w ++ 32 ∷ rest) ≡ w ∷ words rest
word_before [] rest p = refl
word_before (b ∷ w) rest p =
    let q = and_parts (not (is_space b)) (no_space w) p in
    slice_split-cons_no is_space b (w ++ 32 ∷ rest) (not-true (is_space b) q.0)
    ∙ ap (onto_first b) (word_before w rest q.1)

word_alone : (w : List ℕ) → no_space w ≡ true → words w ≡ w ∷ []
word_alone [] p = refl
word_alone (b ∷ w) p =
    let q = and_parts (not (is_space b)) (no_space w) p in
    slice_split-cons_no is_space b w (not-true (is_space b) q.0) ∙ ap (onto_first b) (word_alone w q.1)

-- the bytes of words are split into them
pub words_of_bytes : (w : List ℕ) (ws : List (List ℕ)) → no_space w ≡ true → NoSpaces ws → words (w ++ spaced ws) ≡ w
    ∷ ws
words_of_bytes w [] p q = ap words (append-nil w) ∙ word_alone w p
words_of_bytes w (v ∷ ws) p q = word_before w (v ++ spaced ws) p ∙ ap (λ vs. w ∷ vs) (words_of_bytes v ws q.0 q.1)
