-- Tokens in turn stand in the bytes, and where they stop none does.
use Rattle.std.proofs.Common.{◌≡◌, ℕ, zero, suc, ◌+◌, ◌-◌, ◌*◌, ◌<◌, ◌≤◌, ◌==◌, ◌&&◌, List, [], ◌∷◌, ◌++◌, length, refl}
use Rattle.std.proofs.Common.{ap, sym, ◌∙◌, subst, arith, Bool, true, false, Option, Some, None, append_assoc}
use Rattle.std.specs.Prelude.{if◌then◌else◌, nat_le}
use Rattle.std.specs.List.{AllByRecursion}
use Rattle.std.specs.Fmt.{digit_glyph}
use Rattle.std.proofs.lemmas.Bool.{and_parts, leb-true, eqb-true, false≢true, lt-ltb, le-ltb}
use Rattle.mw_wat.specs.Tokens.{PureToken, left, right, word, string, IsBlank, IsWordByte, Quotes, nothing, plain}
use Rattle.mw_wat.specs.Tokens.{escape, a_left, a_right, a_word, a_string, IsWhole, Begins, ReadsTo, so_far}
use Rattle.mw_wat.specs.Tokens.{behind_blank, behind_token, BeginsNone}
use Rattle.mw_wat.specs.Lexing.{Tokens, stop, token, is_blank, is_word_byte, is_plain, hex_value, Lexeme, none, found}
use Rattle.mw_wat.specs.Lexing.{with_byte, with_digits, quotes, escaped, half_escaped, whole_word}
use Rattle.mw_wat.specs.Lexing.{front, without_blanks, onward, tokens_up_to, tokens}
use Rattle.mw_wat.specs.Lexing as lexing
use Rattle.mw_wat.proofs.TokensOfText.{word_byte_is, word_byte_from, plain_from, blank_is, blank_from, front_got}
use Rattle.mw_wat.proofs.TokensOfText.{none_found, Placed, p_here, p_there, longer}

-- words
record WordBack (bytes w rest : List ℕ) : Type 0 where
  split : bytes ≡ w ++ rest
  each : AllByRecursion IsWordByte w
  whole : IsWhole (word w) rest

no_more : (b : ℕ) (rest : List ℕ) → is_word_byte b ≡ false → IsWhole (word []) (b ∷ rest)
no_more b rest e = λ w. false≢true (sym e ∙ word_byte_is b w)

word_back : (bytes : List ℕ) → (w : List ℕ) × (rest : List ℕ) × (whole_word bytes ≡ found (word w) rest)
    × WordBack bytes w rest
word_back [] = ([], [], refl, record { split = refl; each = tt; whole = tt })
word_back (b ∷ bytes) = by_test (is_word_byte b) refl (word_back bytes)
  where
    by_test : (t : Bool) → is_word_byte b ≡ t
        → ((w : List ℕ) × (rest : List ℕ) × (whole_word bytes ≡ found (word w) rest) × WordBack bytes w rest)
        → (w : List ℕ) × (rest : List ℕ) × (whole_word (b ∷ bytes) ≡ found (word w) rest) × WordBack
        (b ∷ bytes) w rest
    by_test false e more = ([], b ∷ bytes, rw e refl, record { split = refl; each = tt; whole = no_more b bytes e })
    by_test true e more = (
      b ∷ more.0,
      more.1,
      rw
          (e, more.2) refl,
      record {
        split = ap (λ l. b ∷ l) more.3.split;
        each = (word_byte_from b e, more.3.each);
        whole =
            more.3.whole;
      },
    )

-- digits
hex_back : (b d : ℕ) → hex_value b ≡ Some d → (b ≡ digit_glyph false d) × (d < 16)
hex_back b d e = by_first (nat_le 0x30 b && nat_le b 0x39) (nat_le 0x61 b && nat_le b 0x66) refl refl e
  where
    by_first : (s t : Bool) → (nat_le 0x30 b && nat_le b 0x39) ≡ s → (nat_le 0x61 b && nat_le b 0x66) ≡ t
        → (if s then Some (b - 0x30) else if t then Some (b - 0x57) else None) ≡ Some d → (b ≡ digit_glyph false d)
        × (d < 16)
    by_first true t p q e =
        let r = and_parts (nat_le 0x30 b) (nat_le b 0x39) p in
        let low = leb-true 0x30 b r.0 in
        let high = leb-true b 0x39 r.1 in
        let same : b - 0x30 ≡ d = cc in
        let small : d < 10 = omega arith in
        (rw (lt-ltb d 10 small) (omega arith), omega arith)
    by_first false true p q e =
        let r = and_parts (nat_le 0x61 b) (nat_le b 0x66) q in
        let low = leb-true 0x61 b r.0 in
        let high = leb-true b 0x66 r.1 in
        let same : b - 0x57 ≡ d = cc in
        let large : 10 ≤ d = omega arith in
        (rw (le-ltb d 10 large) (omega arith), omega arith)
    by_first false false p q e = absurd (cc)

-- strings
record QuotesBack (bytes : List ℕ) (t : PureToken) (rest : List ℕ) : Type 0 where
  text : List ℕ
  means : List ℕ
  is : t ≡ string means
  quoted : Quotes text means
  split : bytes ≡ text ++ 0x22 ∷ rest

found_parts : (t u : PureToken) (r s : List ℕ) → found t r ≡ found u s → (t ≡ u) × (r ≡ s)
found_parts t u r s e = (cc, cc)

with_byte_back : (b : ℕ) (f : Lexeme) (t : PureToken) (rest : List ℕ) → with_byte b f ≡ found t rest → (bytes : List ℕ)
    × (f ≡ found (string bytes) rest) × (t ≡ string (b ∷ bytes))
with_byte_back b (found (string bytes) r) t rest e = let p = found_parts (string (b ∷ bytes)) t r rest e in
    (bytes, ap (λ r. found (string bytes) r) p.1, sym p.0)
with_byte_back b _ t rest e = absurd (none_found t rest e)

string_means : PureToken → List ℕ
string_means (string bytes) = bytes
string_means _ = []

same_strings : (a b : List ℕ) → string a ≡ string b → a ≡ b
unfolding string_means
same_strings a b e = ap string_means e

closes : (b : ℕ) (bytes : List ℕ) (t : PureToken) (rest : List ℕ) (k m n : Bool) → (b == 0x22) ≡ k → (b == 0x5C) ≡ m
    → is_plain b ≡ n → ((t : PureToken) (rest : List ℕ) → quotes bytes ≡ found t rest → QuotesBack bytes t rest)
    → ((t : PureToken) (rest : List ℕ) → escaped bytes ≡ found t rest → (text : List ℕ) × (means : List ℕ)
    × (t ≡ string means) × Quotes (0x5C ∷ text) means × (bytes ≡ text ++ 0x22 ∷ rest))
    → (if k then found (string []) bytes else if m then escaped bytes else if n then with_byte b
    (quotes bytes) else none) ≡ found t rest → QuotesBack (b ∷ bytes) t rest
closes b bytes t rest true m n p q r plain_bytes escapes e =
    let s = found_parts (string []) t bytes rest e in
    record {
      text = [];
      means = [];
      is = sym s.0;
      quoted = nothing;
      split = ap (λ c. c ∷ bytes) (eqb-true b 0x22 p)
          ∙ ap (λ l. 0x22 ∷ l) s.1;
    }
closes b bytes t rest false true n p q r plain_bytes escapes e =
    let s = escapes t rest e in
    record {
      text = 0x5C ∷ s.0;
      means = s.1;
      is = s.2;
      quoted = s.3;
      split = ap (λ c. c ∷ bytes) (eqb-true b 0x5C q)
          ∙ ap (λ l. 0x5C ∷ l) s.4;
    }
closes b bytes t rest false false true p q r plain_bytes escapes e =
    let w = with_byte_back b (quotes bytes) t rest e in
    let s = plain_bytes (string w.0) rest w.1 in
    record {
      text = b ∷ s.text;
      means = b ∷ s.means;
      is = w.2 ∙ ap (λ l. string (b ∷ l))
          (same_strings w.0 s.means s.is);
      quoted = plain (plain_from b r) s.quoted;
      split = ap (λ l. b ∷ l) s.split;
    }
closes b bytes t rest false false false p q r plain_bytes escapes e = absurd (none_found t rest e)

digits_back : (h d : ℕ) → hex_value h ≡ Some d → (l : ℕ) (o : Option ℕ) → hex_value l ≡ o → (bytes : List ℕ)
    (t : PureToken) (rest : List ℕ)
    → ((t : PureToken) (rest : List ℕ) → quotes bytes ≡ found t rest → QuotesBack bytes t rest)
    → with_digits d o (quotes bytes) ≡ found t rest → (text : List ℕ) × (means : List ℕ) × (t ≡ string means) × Quotes
    (0x5C ∷ text) means × (h ∷ l ∷ bytes ≡ text ++ 0x22 ∷ rest)
digits_back h d p l None q bytes t rest more e = absurd (none_found t rest e)
digits_back h d p l (Some c) q bytes t rest more e =
    let w = with_byte_back (16 * d + c) (quotes bytes) t rest e in
    let s = more (string w.0) rest w.1 in
    let high = hex_back h d p in
    let low = hex_back l c q in (
      h ∷ l ∷ s.text,
      (16 * d + c) ∷ s.means,
      w.2 ∙ ap (λ x. string ((16 * d + c) ∷ x)) (same_strings w.0 s.means s.is),
      subst (λ x. Quotes (0x5C ∷ x ∷ l ∷ s.text) ((16 * d + c) ∷ s.means)) (sym high.0)
          (subst (λ x. Quotes (0x5C ∷ digit_glyph false d ∷ x ∷ s.text) ((16 * d + c) ∷ s.means)) (sym low.0)
          (escape d c high.1 low.1 s.quoted)),
      ap (λ x. h ∷ l ∷ x) s.split,
    )

mutual
  quotes_back : (bytes : List ℕ) (t : PureToken) (rest : List ℕ) → quotes bytes ≡ found t rest
      → QuotesBack bytes t rest
  quotes_back [] t rest e = absurd (none_found t rest e)
  quotes_back (b ∷ bytes) t rest e = closes b bytes t rest (b == 0x22) (b == 0x5C) (is_plain b) refl refl refl
      (quotes_back bytes) (escaped_back bytes) e

  escaped_back : (bytes : List ℕ) (t : PureToken) (rest : List ℕ) → escaped bytes ≡ found t rest → (text : List ℕ)
      × (means : List ℕ) × (t ≡ string means) × Quotes (0x5C ∷ text) means × (bytes ≡ text ++ 0x22 ∷ rest)
  escaped_back [] t rest e = absurd (none_found t rest e)
  escaped_back (h ∷ bytes) t rest e = half_back h (hex_value h) refl bytes t rest e

  half_back : (h : ℕ) (o : Option ℕ) → hex_value h ≡ o → (bytes : List ℕ) (t : PureToken) (rest : List ℕ)
      → half_escaped o bytes ≡ found t rest → (text : List ℕ) × (means : List ℕ) × (t ≡ string means) × Quotes
      (0x5C ∷ text) means × (h ∷ bytes ≡ text ++ 0x22 ∷ rest)
  half_back h None p bytes t rest e = absurd (none_found t rest e)
  half_back h (Some d) p [] t rest e = absurd (none_found t rest e)
  half_back h (Some d) p (l ∷ bytes) t rest e = digits_back h d p l (hex_value l) refl bytes t rest
      (quotes_back bytes) e

-- the token at the front
pub front_back : (bytes : List ℕ) (t : PureToken) (rest : List ℕ) → front bytes ≡ found t rest → Begins bytes t rest
front_back [] t rest e = absurd (none_found t rest e)
front_back (b ∷ bytes) t rest e = by_tests (b == 0x28) (b == 0x29) (b == 0x22) (is_word_byte b) refl refl refl refl e
  where
    by_tests : (k l m n : Bool) → (b == 0x28) ≡ k → (b == 0x29) ≡ l → (b == 0x22) ≡ m → is_word_byte b ≡ n
        → (if k then found left bytes else if l then found right bytes else if m then quotes bytes else if n then
        whole_word (b ∷ bytes) else none) ≡ found t rest → Begins (b ∷ bytes) t rest
    by_tests true l m n p q r s e =
        let f = found_parts left t bytes rest e in
        let g : Begins (0x28 ∷ rest) left rest =
        record { text = 0x28 ∷ []; split = refl; spelled = a_left; whole = tt } in
        subst (λ u. Begins (b ∷ bytes) u rest) f.0
        (subst (λ x. Begins x left rest)
        (sym (ap (λ c. c ∷ bytes) (eqb-true b 0x28 p) ∙ ap (λ l. 0x28 ∷ l) f.1)) g)
    by_tests false true m n p q r s e =
        let f = found_parts right t bytes rest e in
        let g : Begins (0x29 ∷ rest) right rest =
        record { text = 0x29 ∷ []; split = refl; spelled = a_right; whole = tt } in
        subst (λ u. Begins (b ∷ bytes) u rest) f.0
        (subst (λ x. Begins x right rest)
        (sym (ap (λ c. c ∷ bytes) (eqb-true b 0x29 q) ∙ ap (λ l. 0x29 ∷ l) f.1)) g)
    by_tests false false true n p q r s e =
        let f = quotes_back bytes t rest e in
        let g : Begins (b ∷ bytes) (string f.means) rest =
        record {
          text = 0x22 ∷ f.text ++ 0x22 ∷ [];
          split = ap (λ c. c ∷ bytes) (eqb-true b 0x22 r) ∙ ap
              (λ l. 0x22 ∷ l) (f.split ∙ sym (append_assoc f.text (0x22 ∷ []) rest));
          spelled = a_string f.quoted;
          whole = tt;
        } in
        subst (λ u. Begins (b ∷ bytes) u rest) (sym f.is) g
    by_tests false false false true p q r s e =
        let w = word_back bytes in
        let f = found_parts (word (b ∷ w.0)) t w.1 rest (sym (rw (s, w.2) refl) ∙ e) in
        let g : Begins (b ∷ bytes) (word (b ∷ w.0)) w.1 =
        record {
          text = b ∷ w.0;
          split = ap (λ l. b ∷ l) w.3.split;
          spelled = a_word (λ n. absurd (cc))
              (word_byte_from b s, w.3.each);
          whole = w.3.whole;
        } in
        subst (λ u. Begins (b ∷ bytes) u rest) f.0 (subst (λ r. Begins (b ∷ bytes) (word (b ∷ w.0)) r) f.1 g)
    by_tests false false false false p q r s e = absurd (none_found t rest e)

-- where tokens in turn have come to
pub data At (end : ℕ) : Tokens → List ℕ → Type 0 where
  at_end : At end (stop (end - 0)) []
  at_none : {bytes : List ℕ} → BeginsNone bytes → At end (stop (end - length bytes)) bytes
  at_token : {bytes after : List ℕ} {t : PureToken} {more : Tokens} → Begins bytes t after → At end
      (token (end - length bytes) t more) bytes

pub record Reached (end : ℕ) (bytes : List ℕ) (front : List PureToken) (ts : Tokens) : Type 0 where
  pub left : List ℕ
  pub reads : ReadsTo bytes front left
  pub here : At end ts left

stop_here : {at : ℕ} {xs : List PureToken} {ts : Tokens} (end : ℕ) (l : List ℕ) → At end (stop at) l → Placed
    (stop at) xs ts → Reached end l xs ts
stop_here end l a p_here = record { left = l; reads = so_far; here = a }

found_here : (end : ℕ) (bytes : List ℕ) (t : PureToken) (after : List ℕ) (more : Tokens) → Begins bytes t after
    → ((front : List PureToken) (ts : Tokens) → Placed more front ts → Reached end after front ts)
    → (front : List PureToken) (ts : Tokens) → Placed (token (end - length bytes) t more) front ts
    → Reached end bytes front ts
found_here end bytes t after more g later [] ts p_here = record { left = bytes; reads = so_far; here = at_token g }
found_here end bytes t after more g later (u ∷ front) ts (p_there p) = let r = later front ts p in
    record { left = r.left; reads = behind_token g r.reads; here = r.here }

one_step : (n end : ℕ)
    → ((bytes : List ℕ) → length bytes < n → (front : List PureToken) (ts : Tokens) → Placed
    (tokens_up_to n end bytes) front ts → Reached end bytes front ts)
    → (bytes : List ℕ) → length bytes < suc n → (front : List PureToken) (ts : Tokens) → Placed
    (tokens_up_to (suc n) end bytes) front ts → Reached end bytes front ts
one_step n end later [] q front ts p = stop_here end [] at_end p
one_step n end later (b ∷ bytes) q front ts p = by_blank (is_blank b) refl
    (one_step n end later bytes (omega arith) front ts) p
  where
    no_blank : is_blank b ≡ false → IsBlank b → ⊥
    no_blank e v = false≢true (sym e ∙ blank_is b v)

    by_front : is_blank b ≡ false → (f : Lexeme) → lexing.front (b ∷ bytes) ≡ f → Placed
        (onward (λ rest. tokens_up_to n end rest) (end - length (b ∷ bytes)) f) front ts → Reached end
        (b ∷ bytes) front ts
    by_front e none d p = stop_here end (b ∷ bytes)
        (at_none (no_blank e, λ t after g. absurd (none_found t after (sym d ∙ front_got g)))) p
    by_front e (found t after) d p = let g = front_back (b ∷ bytes) t after d in found_here end (b ∷ bytes) t after
        (tokens_up_to n end after) g (λ front ts p. later after (omega (arith, longer g)) front ts p) front ts p

    by_blank : (t : Bool) → is_blank b ≡ t
        → (Placed (tokens_up_to (suc n) end bytes) front ts → Reached end bytes front ts) → Placed
        (tokens_up_to (suc n) end (b ∷ bytes)) front ts → Reached end (b ∷ bytes) front ts
    by_blank true e more p = let r = more
        (subst (λ x. Placed
        (let l = if x then without_blanks bytes else b ∷ bytes in onward (λ rest. tokens_up_to n end rest)
        (end - length l) (lexing.front l)) front ts) e p) in
        record { left = r.left; reads = behind_blank (blank_from b e) r.reads; here = r.here }
    by_blank false e more p = by_front e (lexing.front (b ∷ bytes)) refl
        (subst (λ x. Placed
        (let l = if x then without_blanks bytes else b ∷ bytes in onward (λ rest. tokens_up_to n end rest)
        (end - length l) (lexing.front l)) front ts) e p)

pub reached : (n end : ℕ) (bytes : List ℕ) → length bytes < n → (front : List PureToken) (ts : Tokens) → Placed
    (tokens_up_to n end bytes) front ts → Reached end bytes front ts
reached zero end bytes q front ts p = absurd (omega arith)
reached (suc n) end bytes q front ts p = one_step n end (reached n end) bytes q front ts p
