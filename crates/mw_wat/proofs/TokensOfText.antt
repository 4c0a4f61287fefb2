-- The tokens of bytes in turn are those that the bytes are.
use Rattle.std.proofs.Common.{◌≡◌, inl, inr, ℕ, zero, suc, ◌+◌, ◌-◌, ◌*◌, ◌<◌, ◌≤◌, ◌==◌, List, [], ◌∷◌, ◌++◌}
use Rattle.std.proofs.Common.{length, refl, ap, sym, ◌∙◌, subst, arith, Bool, true, false, Some, append_assoc}
use Rattle.std.specs.Prelude.{nat_lt, ◌||◌}
use Rattle.std.specs.List.{AllByRecursion}
use Rattle.std.specs.Fmt.{digit_glyph}
use Rattle.std.proofs.lemmas.Bool.{le-leb, lt-leb, ne_eqb, eqb-true, false≢true}
use Rattle.std.proofs.lemmas.Bool.{ltb-true, ltb-false, false_from_ne_true}
use Rattle.std.proofs.lemmas.List.{length-append}
use Rattle.std.proofs.lemmas.Bool.Decides.{nat_tests}
use Rattle.mw_wat.specs.Tokens.{PureToken, word, string, IsBlank, IsWordByte, IsPlain, Quotes, nothing, plain, escape}
use Rattle.mw_wat.specs.Tokens.{Spells, a_left, a_right, a_word, a_string, IsWhole, Begins, ReadsTo, so_far}
use Rattle.mw_wat.specs.Tokens.{behind_blank, behind_token}
use Rattle.mw_wat.specs.Lexing.{Tokens, stop, token, is_blank, is_word_byte, is_plain, hex_value, none, found}
use Rattle.mw_wat.specs.Lexing.{with_byte, with_digits, quotes, half_escaped, whole_word, front, tokens_up_to}

-- byte tests
pub word_byte_is : (b : ℕ) → IsWordByte b → is_word_byte b ≡ true
word_byte_is b w =
    rw (le-leb 0x21 b w.0, le-leb b 0x7E w.1, ne_eqb b 0x28 w.2, ne_eqb b 0x29 w.3, ne_eqb b 0x22 w.4) refl

pub word_byte_from : (b : ℕ) → is_word_byte b ≡ true → IsWordByte b
word_byte_from b e = grind (arith, nat_tests)

no_word_byte : (b : ℕ) → (IsWordByte b → ⊥) → is_word_byte b ≡ false
no_word_byte b n = false_from_ne_true (is_word_byte b) (λ e. n (word_byte_from b e))

plain_is : (b : ℕ) → IsPlain b → is_plain b ≡ true
plain_is b w = rw (le-leb 0x20 b w.0, le-leb b 0x7E w.1, ne_eqb b 0x22 w.2, ne_eqb b 0x5C w.3) refl

pub plain_from : (b : ℕ) → is_plain b ≡ true → IsPlain b
plain_from b e = grind (arith, nat_tests)

glyph_value : (d : ℕ) → d < 16 → hex_value (digit_glyph false d) ≡ Some d
glyph_value d p = by_small (nat_lt d 10) refl
  where
    by_small : (t : Bool) → nat_lt d 10 ≡ t → hex_value (digit_glyph false d) ≡ Some d
    by_small true e =
        let q : d < 10 = ltb-true d 10 e in
        rw (e, le-leb 48 (48 + d) (omega arith), le-leb (48 + d) 57 (omega arith)) (ap Some (omega arith))
    by_small false e =
        let q : 10 ≤ d = ltb-false d 10 e in
        rw (
          e,
          le-leb 48 (87 + d) (omega arith),
          lt-leb (87 + d) 57 (omega arith),
          le-leb 97 (87 + d)
              (omega arith),
          le-leb (87 + d) 102 (omega arith),
        ) (ap Some (omega arith))

pub blank_from : (b : ℕ) → is_blank b ≡ true → IsBlank b
blank_from b e = by_first (b == 0x09) (b == 0x0A) (b == 0x0D) (b == 0x20) refl refl refl refl e
  where
    by_first : (k l m n : Bool) → (b == 0x09) ≡ k → (b == 0x0A) ≡ l → (b == 0x0D) ≡ m → (b == 0x20) ≡ n
        → (k || l || m || n) ≡ true → IsBlank b
    by_first true l m n p q r s e = inl (eqb-true b 0x09 p)
    by_first false true m n p q r s e = inr (inl (eqb-true b 0x0A q))
    by_first false false true n p q r s e = inr (inr (inl (eqb-true b 0x0D r)))
    by_first false false false true p q r s e = inr (inr (inr (eqb-true b 0x20 s)))
    by_first false false false false p q r s e = absurd (false≢true e)

pub blank_is : (b : ℕ) → IsBlank b → is_blank b ≡ true
blank_is b (inl e) = rw e refl
blank_is b (inr (inl e)) = rw e refl
blank_is b (inr (inr (inl e))) = rw e refl
blank_is b (inr (inr (inr e))) = rw e refl

-- the token at the front
quotes_got : {text bytes : List ℕ} (rest : List ℕ) → Quotes text bytes → quotes (text ++ 0x22 ∷ rest) ≡ found
    (string bytes) rest
quotes_got rest nothing = refl
quotes_got rest (plain {b = b} {text = text} p q) =
    rw (plain_is b p, ne_eqb b 0x22 p.2, ne_eqb b 0x5C p.3, quotes_got rest q) refl
quotes_got rest (escape {text = text} h l p q r) =
    ap (λ o. half_escaped o (digit_glyph false l ∷ text ++ 0x22 ∷ rest)) (glyph_value h p) ∙ ap
    (λ o. with_digits h o (quotes (text ++ 0x22 ∷ rest))) (glyph_value l q) ∙ ap (with_byte (16 * h + l))
    (quotes_got rest r)

word_got : (w rest : List ℕ) → AllByRecursion IsWordByte w → IsWhole (word w) rest → whole_word (w ++ rest) ≡ found
    (word w) rest
word_got [] [] a h = refl
word_got [] (b ∷ rest) a h = rw (no_word_byte b h) refl
word_got (b ∷ w) rest a h = rw (word_byte_is b a.0, word_got w rest a.1 h) refl

front_spelled : {text : List ℕ} {t : PureToken} (rest : List ℕ) → Spells text t → IsWhole t rest → front
    (text ++ rest) ≡ found t rest
front_spelled rest a_left h = refl
front_spelled rest a_right h = refl
front_spelled rest (a_word {text = []} n a) h = absurd (n refl)
front_spelled rest (a_word {text = b ∷ w} n a) h =
    rw (word_byte_is b a.0, ne_eqb b 0x28 a.0.2, ne_eqb b 0x29 a.0.3, ne_eqb b 0x22 a.0.4, word_got w rest a.1 h) refl
front_spelled rest (a_string {text = text} q) h = ap quotes (append_assoc text (0x22 ∷ []) rest) ∙ quotes_got rest q

pub front_got : {bytes rest : List ℕ} {t : PureToken} → Begins bytes t rest → front bytes ≡ found t rest
front_got {rest = rest} b = ap front b.split ∙ front_spelled rest b.spelled b.whole

-- no token begins with a blank, and each has a byte
blank_front : (b : ℕ) (bytes : List ℕ) → IsBlank b → front (b ∷ bytes) ≡ none
blank_front b bytes (inl e) = rw e refl
blank_front b bytes (inr (inl e)) = rw e refl
blank_front b bytes (inr (inr (inl e))) = rw e refl
blank_front b bytes (inr (inr (inr e))) = rw e refl

pub none_found : (t : PureToken) (rest : List ℕ) → none ≡ found t rest → ⊥
none_found t rest e = cc

some_text : {text : List ℕ} {t : PureToken} → Spells text t → 0 < length text
some_text (a_word {text = []} n a) = absurd (n refl)
some_text (a_word {text = b ∷ w} n a) = omega arith
some_text _ = omega arith

-- tokens with their places
pub data Placed : Tokens → List PureToken → Tokens → Type 0 where
  p_here : {ts : Tokens} → Placed ts [] ts
  p_there : {at : ℕ} {t : PureToken} {tokens : List PureToken} {ts rest : Tokens} → Placed ts tokens rest → Placed
      (token at t ts) (t ∷ tokens) rest

pub longer : {bytes rest : List ℕ} {t : PureToken} → Begins bytes t rest → length rest < length bytes
longer {rest = rest} b = omega (arith, some_text b.spelled, length-append b.text rest, ap length b.split)

not_blank : (b : ℕ) (bytes : List ℕ) (t : PureToken) (rest : List ℕ) → Begins (b ∷ bytes) t rest → is_blank b ≡ false
not_blank b bytes t rest g = false_from_ne_true (is_blank b)
    (λ e. none_found t rest (sym (blank_front b bytes (blank_from b e)) ∙ front_got g))

no_bytes : {t : PureToken} {rest : List ℕ} → Begins [] t rest → ⊥
no_bytes {rest = rest} g = absurd (let p = longer g in omega arith)

pub next_token : (n end : ℕ) (bytes : List ℕ) {t : PureToken} {rest : List ℕ} → Begins bytes t rest → tokens_up_to
    (suc n) end bytes ≡ token (end - length bytes) t (tokens_up_to n end rest)
next_token n end [] g = absurd (no_bytes g)
next_token n end (b ∷ bytes) {t = t} {rest = rest} g = rw (not_blank b bytes t rest g, front_got g) refl

nothing_taken : (end : ℕ) → end ≡ end - 0
nothing_taken end = omega arith

pub lexed : {bytes rest : List ℕ} {tokens : List PureToken} → ReadsTo bytes tokens rest → (n end : ℕ) → rest ≡ []
    → length bytes < n → Placed (tokens_up_to n end bytes) tokens (stop end)
lexed so_far zero end e p = absurd (omega arith)
lexed so_far (suc n) end e p = subst (λ b. Placed (tokens_up_to (suc n) end b) [] (stop end)) (sym e)
    (subst (λ at. Placed (stop at) [] (stop end)) (nothing_taken end) p_here)
lexed (behind_blank v r) zero end e p = absurd (omega arith)
lexed (behind_blank {b = b} v r) (suc n) end e p = rw (blank_is b v) (lexed r (suc n) end e (omega arith))
lexed (behind_token g r) zero end e p = absurd (omega arith)
lexed (behind_token {bytes = bytes} g r) (suc n) end e p = rw (next_token n end bytes g)
    (p_there (lexed r n end e (omega (arith, longer g))))
