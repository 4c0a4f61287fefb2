-- The canonical text is a text of its module.
use Rattle.std.proofs.Common.{◌≡◌, inl, inr, ℕ, zero, suc, ◌+◌, ◌/◌, ◌%◌, ◌^◌, ◌<◌, ◌==◌, List, [], ◌∷◌, ◌++◌, map}
use Rattle.std.proofs.Common.{refl, ap, sym, ◌∙◌, subst, arith, Bool, true, false, append_assoc}
use Rattle.std.specs.Prelude.{codes, if◌then◌else◌, ◌||◌, ℤ, pos, negsuc}
use Rattle.std.specs.List.{AllByRecursion, flat_map}
use Rattle.std.specs.Int.{cast_signed}
use Rattle.std.specs.Fmt.{decimal, signed_decimal, digits, digits_onto, digit_glyph}
use Rattle.std.proofs.lemmas.Bool.{and_parts, and_from, le-leb, ne_eqb, eqb-false, false≢true, lt-ltb}
use Rattle.std.proofs.lemmas.List.{map-append}
use Rattle.mw_wasm.specs.Syntax.{PureModule}
use Rattle.mw_wasm.specs.Profile.{IsPrintable}
use Rattle.mw_wat.specs.Tokens.{PureToken, IsWordByte, Quotes, nothing, plain, escape, Spells, a_left}
use Rattle.mw_wat.specs.Tokens.{a_right, a_word, a_string, IsWhole, Begins, ReadsTo, so_far, behind_blank, behind_token}
use Rattle.mw_wat.specs.Tokens as t
use Rattle.mw_wat.specs.Lexemes.{Lexeme, left, right, word, number, keyed, constant, name, octets, token_of, IsInRange}
use Rattle.mw_wat.specs.Lexemes.{lines, lexemes}
use Rattle.mw_wat.specs.CanonicalTexts.{escaped, name_byte, spelled, is_left, is_right, gap, laid_out, line}
use Rattle.mw_wat.specs.CanonicalTexts.{canonical_text}
use Rattle.mw_wat.specs.ModuleTexts.{HasTexts, IsTextOf}
use Rattle.mw_wat.specs.Lexing.{is_word_byte}
use Rattle.mw_wat.proofs.TokensOfText.{word_byte_from}
use Rattle.mw_wat.proofs.GrammarWords.{are_word_bytes, is_word, IsWordLexeme, AreWords, LinesAreWords, lines_are_words}

-- words
bytes_of_word : (w : List ℕ) → are_word_bytes w ≡ true → AllByRecursion IsWordByte w
bytes_of_word [] e = tt
bytes_of_word (b ∷ w) e = let p = and_parts (is_word_byte b) (are_word_bytes w) e in
    (word_byte_from b p.0, bytes_of_word w p.1)

word_spells : (w : List ℕ) → is_word w ≡ true → Spells w (t.word w)
word_spells [] e = absurd (false≢true e)
word_spells (b ∷ w) e = a_word (λ n. absurd (cc)) (bytes_of_word (b ∷ w) e)

digit_is_word : (d : ℕ) → d < 10 → is_word_byte (digit_glyph false d) ≡ true
digit_is_word d p =
    rw (
      lt-ltb d 10 p,
      le-leb 0x21 (48 + d) (omega arith),
      le-leb (48 + d) 0x7E (omega arith),
      ne_eqb (48 + d) 0x28
          (λ e. omega arith),
      ne_eqb (48 + d) 0x29 (λ e. omega arith),
      ne_eqb (48 + d) 0x22 (λ e. omega arith),
    ) refl

onto_word : (k n x : ℕ) (acc : List ℕ) → are_word_bytes (x ∷ acc) ≡ true → is_word
    (digits_onto k 10 false n (x ∷ acc)) ≡ true
onto_word zero n x acc e = e
onto_word (suc k) n x acc e =
    let more : are_word_bytes (digit_glyph false (n % 10) ∷ x ∷ acc) ≡ true = and_from
    (is_word_byte (digit_glyph false (n % 10))) (are_word_bytes (x ∷ acc))
    (digit_is_word (n % 10) (omega arith)) e in
    by_last more (onto_word k (n / 10) (digit_glyph false (n % 10)) (x ∷ acc) more) (n / 10 == 0)
  where
    by_last : is_word (digit_glyph false (n % 10) ∷ x ∷ acc) ≡ true → is_word
        (digits_onto k 10 false (n / 10) (digit_glyph false (n % 10) ∷ x ∷ acc)) ≡ true → (t : Bool)
        → is_word (if t then digit_glyph false (n % 10) ∷ x ∷ acc else digits_onto k 10 false (n / 10)
        (digit_glyph false (n % 10) ∷ x ∷ acc)) ≡ true
    by_last one more true = one
    by_last one more false = more

decimal_is_word : (n : ℕ) → is_word (decimal n) ≡ true
unfolding digits
decimal_is_word n =
    let one : are_word_bytes (digit_glyph false (n % 10) ∷ []) ≡ true = and_from
    (is_word_byte (digit_glyph false (n % 10))) true (digit_is_word (n % 10) (omega arith)) refl in
    by_last one (onto_word 63 (n / 10) (digit_glyph false (n % 10)) [] one) (n / 10 == 0)
  where
    by_last : is_word (digit_glyph false (n % 10) ∷ []) ≡ true → is_word
        (digits_onto 63 10 false (n / 10) (digit_glyph false (n % 10) ∷ [])) ≡ true → (t : Bool)
        → is_word (if t then digit_glyph false (n % 10) ∷ [] else digits_onto 63 10 false (n / 10)
        (digit_glyph false (n % 10) ∷ [])) ≡ true
    by_last one more true = one
    by_last one more false = more

bytes_word : (w : List ℕ) → is_word w ≡ true → are_word_bytes w ≡ true
bytes_word [] e = absurd (false≢true e)
bytes_word (b ∷ w) e = e

word_before : (v w : List ℕ) → are_word_bytes v ≡ true → are_word_bytes w ≡ true → are_word_bytes (v ++ w) ≡ true
word_before [] w e f = f
word_before (b ∷ v) w e f = let p = and_parts (is_word_byte b) (are_word_bytes v) e in and_from (is_word_byte b)
    (are_word_bytes (v ++ w)) p.0 (word_before v w p.1 f)

words_joined : (v w : List ℕ) → is_word v ≡ true → is_word w ≡ true → is_word (v ++ w) ≡ true
words_joined [] w e f = f
words_joined (b ∷ v) w e f = word_before (b ∷ v) w e (bytes_word w f)

signed_is_word : (z : ℤ) → is_word (signed_decimal z) ≡ true
signed_is_word (pos n) = decimal_is_word n
signed_is_word (negsuc n) = bytes_word (decimal (suc n)) (decimal_is_word (suc n))

-- strings
escaped_quotes : (b : ℕ) (text bytes : List ℕ) → b < 256 → Quotes text bytes → Quotes (escaped b ++ text) (b ∷ bytes)
escaped_quotes b text bytes p q = subst (λ c. Quotes (escaped b ++ text) (c ∷ bytes)) (omega arith)
    (escape (b / 16) (b % 16) (omega arith) (omega arith) q)

octets_quotes : (bytes : List ℕ) → AllByRecursion (λ b. b < 2 ^ 8) bytes → Quotes (flat_map escaped bytes) bytes
octets_quotes [] a = nothing
octets_quotes (b ∷ bytes) a = escaped_quotes b (flat_map escaped bytes) bytes a.0 (octets_quotes bytes a.1)

name_quotes : (bytes : List ℕ) → AllByRecursion IsPrintable bytes → Quotes (flat_map name_byte bytes) bytes
name_quotes [] a = nothing
name_quotes (b ∷ bytes) a = by_tests (name_quotes bytes a.1) (b == 0x22) (b == 0x5C) refl refl
  where
    by_tests : Quotes (flat_map name_byte bytes) bytes → (s t : Bool) → (b == 0x22) ≡ s → (b == 0x5C) ≡ t → Quotes
        ((if s || t then escaped b else b ∷ []) ++ flat_map name_byte bytes) (b ∷ bytes)
    by_tests q true t e f = escaped_quotes b (flat_map name_byte bytes) bytes (omega (arith, a.0.1)) q
    by_tests q false true e f = escaped_quotes b (flat_map name_byte bytes) bytes (omega (arith, a.0.1)) q
    by_tests q false false e f = plain (a.0.0, a.0.1, eqb-false b 0x22 e, eqb-false b 0x5C f) q

lexeme_spells : (i : Lexeme) → IsWordLexeme i → IsInRange i → Spells (spelled i) (token_of i)
lexeme_spells left w r = a_left
lexeme_spells right w r = a_right
lexeme_spells (word v) w r = word_spells v w
lexeme_spells (number n) w r = word_spells (decimal n) (decimal_is_word n)
lexeme_spells (keyed key n) w r = word_spells (key ++ decimal n) (words_joined key (decimal n) w (decimal_is_word n))
lexeme_spells (constant k n) w r = word_spells (signed_decimal (cast_signed k n)) (signed_is_word (cast_signed k n))
lexeme_spells (name bytes) w r = a_string (name_quotes bytes r)
lexeme_spells (octets bytes) w r = a_string (octets_quotes bytes r)

-- what stands between two tokens, and behind the first
not_whole_blank : (i : Lexeme) (b : ℕ) (rest : List ℕ) → (IsWordByte b → ⊥) → IsWhole (token_of i) (b ∷ rest)
not_whole_blank left b rest n = tt
not_whole_blank right b rest n = tt
not_whole_blank (word w) b rest n = n
not_whole_blank (number k) b rest n = n
not_whole_blank (keyed key k) b rest n = n
not_whole_blank (constant w k) b rest n = n
not_whole_blank (name bytes) b rest n = tt
not_whole_blank (octets bytes) b rest n = tt

space_is_none : IsWordByte 0x20 → ⊥
space_is_none w = absurd (let p = w.0 in omega arith)

feed_is_none : IsWordByte 0x0A → ⊥
feed_is_none w = absurd (let p = w.0 in omega arith)

closing_is_none : IsWordByte 0x29 → ⊥
closing_is_none w = w.3 refl

gap_cases : (P : List ℕ → Type 0) (i j : Lexeme) → (is_left i ≡ true → P []) → (is_right j ≡ true → P []) → P
    (codes " ")
    → P (gap i j)
gap_cases P i j a b c = by_tests (is_left i) (is_right j) refl refl
  where
    by_tests : (s t : Bool) → is_left i ≡ s → is_right j ≡ t → P (if s || t then [] else codes " ")
    by_tests true t e f = a e
    by_tests false true e f = b f
    by_tests false false e f = c

left_is : (i : Lexeme) → is_left i ≡ true → i ≡ left
left_is left e = refl
left_is _ e = absurd (false≢true e)

right_is : (i : Lexeme) → is_right i ≡ true → i ≡ right
right_is right e = refl
right_is _ e = absurd (false≢true e)

laid_right : (is : List Lexeme) → (more : List ℕ) × (laid_out (right ∷ is) ≡ 0x29 ∷ more)
laid_right [] = ([], refl)
laid_right (j ∷ is) = (_, refl)

front_of : (xs ys : List Lexeme) → AllByRecursion IsInRange (xs ++ ys) → AllByRecursion IsInRange xs
front_of [] ys a = tt
front_of (x ∷ xs) ys a = (a.0, front_of xs ys a.1)

back_of : (xs ys : List Lexeme) → AllByRecursion IsInRange (xs ++ ys) → AllByRecursion IsInRange ys
back_of [] ys a = a
back_of (x ∷ xs) ys a = back_of xs ys a.1

-- a line
module _ (i j : Lexeme) (is : List Lexeme) (after : List ℕ) where
  regrouped : spelled i ++ gap i j ++ laid_out (j ∷ is) ++ 0x0A ∷ after ≡ spelled i ++
      (gap i j ++ laid_out (j ∷ is) ++ 0x0A ∷ after)
  regrouped = ap (λ l. l ++ 0x0A ∷ after) (append_assoc (spelled i) (gap i j) (laid_out (j ∷ is))) ∙ append_assoc
      (spelled i) (gap i j ++ laid_out (j ∷ is)) (0x0A ∷ after)

  at_left : i ≡ left → IsWhole (token_of i) (laid_out (j ∷ is) ++ 0x0A ∷ after)
  at_left e = subst (λ i. IsWhole (token_of i) (laid_out (j ∷ is) ++ 0x0A ∷ after)) (sym e) tt

  at_right : j ≡ right → IsWhole (token_of i) (laid_out (j ∷ is) ++ 0x0A ∷ after)
  at_right e =
      let l = laid_right is in
      subst (λ j. IsWhole (token_of i) (laid_out (j ∷ is) ++ 0x0A ∷ after)) (sym e)
      (subst (λ x. IsWhole (token_of i) (x ++ 0x0A ∷ after)) (sym l.1) (not_whole_blank i 0x29 _ closing_is_none))

  begins_here : IsWordLexeme i → IsInRange i → Begins (spelled i ++ gap i j ++ laid_out (j ∷ is) ++ 0x0A ∷ after)
      (token_of i) (gap i j ++ laid_out (j ∷ is) ++ 0x0A ∷ after)
  begins_here w r = record {
    text = spelled i;
    split = regrouped;
    spelled = lexeme_spells i w r;
    whole = gap_cases (λ g. IsWhole (token_of i) (g ++ laid_out (j ∷ is) ++ 0x0A ∷ after)) i j
        (λ e. at_left (left_is i e)) (λ e. at_right (right_is j e)) (not_whole_blank i 0x20 _ space_is_none);
  }

pub line_reads : (is : List Lexeme) → AreWords is → AllByRecursion IsInRange is
    → {after : List ℕ} {tokens : List PureToken} → ReadsTo after tokens [] → ReadsTo (laid_out is ++ 0x0A ∷ after)
    (map token_of is ++ tokens) []
line_reads [] w r s = behind_blank (inr (inl refl)) s
line_reads (i ∷ []) w r {after = after} s =
    behind_token
    (record {
      text = spelled i;
      split = refl;
      spelled = lexeme_spells i w.0 r.0;
      whole =
          not_whole_blank i 0x0A after feed_is_none;
    }) (behind_blank (inr (inl refl)) s)
line_reads (i ∷ j ∷ is) w r {after = after} {tokens = tokens} s =
    let more = line_reads (j ∷ is) w.1 r.1 s in
    behind_token (begins_here i j is after w.0 r.0)
    (gap_cases (λ g. ReadsTo (g ++ laid_out (j ∷ is) ++ 0x0A ∷ after) (map token_of (j ∷ is) ++ tokens) []) i j
    (λ _. more) (λ _. more) (behind_blank (inr (inr (inr refl))) more))

-- all lines
lines_read : (ls : List (List Lexeme)) → LinesAreWords ls → AllByRecursion IsInRange (flat_map (λ l. l) ls) → ReadsTo
    (flat_map line ls) (map token_of (flat_map (λ l. l) ls)) []
lines_read [] w r = so_far
lines_read (l ∷ ls) w r =
    let here = line_reads l w.0 (front_of l (flat_map (λ l. l) ls) r)
    (lines_read ls w.1 (back_of l (flat_map (λ l. l) ls) r)) in
    subst (λ ts. ReadsTo (line l ++ flat_map line ls) ts []) (sym (map-append token_of l (flat_map (λ l. l) ls)))
    (subst (λ b. ReadsTo b (map token_of l ++ map token_of (flat_map (λ l. l) ls)) [])
    (sym (append_assoc (laid_out l) (0x0A ∷ []) (flat_map line ls))) here)

pub canonical_is_text : (m : PureModule) → HasTexts m → IsTextOf (canonical_text m) m
canonical_is_text m h = (
  map token_of (lexemes m),
  lines_read (lines m)
      (lines_are_words m) h.ranges,
  record { tokens_are = refl; has = h },
)
