-- Tokens taken one after another from the bytes that are left.
use Rattle.std.proofs.Common.{◌≡◌, ◌≢◌, ℕ, zero, suc, ◌+◌, ◌-◌, ◌*◌, ◌<◌, ◌≤◌, ◌==◌, List, [], ◌∷◌, ◌++◌, length, take}
use Rattle.std.proofs.Common.{drop, get_or, drop-cons, add-one, refl, ap, sym, ◌∙◌, arith, Bool, true, false, Option}
use Rattle.std.proofs.Common.{Some, None}
use Rattle.std.specs.Prelude.{if◌then◌else◌, nat_le}
use Rattle.std.proofs.lemmas.Bool.{ne_eqb}
use Rattle.std.proofs.lemmas.List.{append_assoc, append-nil, drop_all, take_all, take_more}
use Rattle.mw_wat.specs.Tokens.{PureToken, word, string, Begins}
use Rattle.mw_wat.specs.Lexing.{stop, token, is_blank, is_word_byte, is_plain, hex_value, Lexeme, none, found, with_byte}
use Rattle.mw_wat.specs.Lexing.{with_digits, quotes, escaped, half_escaped, with_word_byte, whole_word, front}
use Rattle.mw_wat.specs.Lexing.{without_blanks, onward, tokens_up_to, tokens}
use Rattle.mw_wat.specs.Reading.{got, bad, place_of}
use Rattle.mw_wat.specs.Chain.{ends_at}
use Rattle.mw_wat.specs.Cursors.{content, behind, next}
use Rattle.mw_wat.proofs.TokensOfText.{longer}
use Rattle.mw_wat.proofs.TextOfTokens.{front_back}

-- blanks
pub blank_here : (bytes : List ℕ) (n : ℕ) (all : List ℕ) → n < length bytes → is_blank (get_or bytes n 0) ≡ true
    → without_blanks (drop n bytes) ≡ all → without_blanks (drop (n + 1) bytes) ≡ all
blank_here bytes n all p e so_far =
    ap (λ k. without_blanks (drop k bytes)) (add-one n)
    ∙ (sym (ap (λ t. if t then without_blanks (drop (suc n) bytes) else get_or bytes n 0 ∷ drop (suc n) bytes) e)
    ∙ (sym (ap without_blanks (drop-cons bytes n 0 p)) ∙ so_far))

pub no_blank_here : (bytes : List ℕ) (n : ℕ) (all : List ℕ) → n < length bytes → is_blank (get_or bytes n 0) ≡ false
    → without_blanks (drop n bytes) ≡ all → drop n bytes ≡ all
no_blank_here bytes n all p e so_far =
    drop-cons bytes n 0 p
    ∙ (sym (ap (λ t. if t then without_blanks (drop (suc n) bytes) else get_or bytes n 0 ∷ drop (suc n) bytes) e)
    ∙ (sym (ap without_blanks (drop-cons bytes n 0 p)) ∙ so_far))

pub all_blank : (bytes : List ℕ) (n : ℕ) (all : List ℕ) → length bytes ≤ n → without_blanks (drop n bytes) ≡ all
    → drop (length bytes) bytes ≡ all
all_blank bytes n all p so_far =
    let q : length bytes ≤ length bytes = omega arith in
    drop_all (length bytes) bytes q ∙ (sym (ap without_blanks (drop_all n bytes p)) ∙ so_far)

pub ruleset blank_laws = (blank_here, no_blank_here, all_blank)

-- words
abbrev pub with_word_bytes : List ℕ → Lexeme → Lexeme
with_word_bytes [] f = f
with_word_bytes (b ∷ bytes) f = with_word_byte b (with_word_bytes bytes f)

one_byte_more : (bytes : List ℕ) (b : ℕ) (f : Lexeme) → with_word_bytes (bytes ++ b ∷ []) f ≡ with_word_bytes bytes
    (with_word_byte b f)
one_byte_more [] b f = refl
one_byte_more (c ∷ bytes) b f = ap (with_word_byte c) (one_byte_more bytes b f)

word_is : (bytes rest : List ℕ) → with_word_bytes bytes (found (word []) rest) ≡ found (word bytes) rest
word_is [] rest = refl
word_is (b ∷ bytes) rest = ap (with_word_byte b) (word_is bytes rest)

pub word_goes_on : (bytes : List ℕ) (n : ℕ) (all : Lexeme) → n < length bytes → is_word_byte (get_or bytes n 0) ≡ true
    → with_word_bytes (take n bytes) (whole_word (drop n bytes)) ≡ all
    → with_word_bytes (take (n + 1) bytes) (whole_word (drop (n + 1) bytes)) ≡ all
word_goes_on bytes n all p e so_far =
    let b : ℕ = get_or bytes n 0 in
    ap (λ w. with_word_bytes w (whole_word (drop (n + 1) bytes))) (take_more bytes n 0 p)
    ∙ (one_byte_more (take n bytes) (get_or bytes n 0) (whole_word (drop (n + 1) bytes))
    ∙ (ap (λ k. with_word_bytes (take n bytes) (with_word_byte (get_or bytes n 0) (whole_word (drop k bytes))))
    (add-one n)
    ∙ (sym
    (ap
    (λ t. with_word_bytes (take n bytes)
    (if t then with_word_byte (get_or bytes n 0) (whole_word (drop (suc n) bytes)) else found (word [])
    (get_or bytes n 0 ∷ drop (suc n) bytes))) e)
    ∙ (sym (ap (λ l. with_word_bytes (take n bytes) (whole_word l)) (drop-cons bytes n 0 p)) ∙ so_far))))

pub word_ends : (bytes : List ℕ) (n : ℕ) (all : Lexeme) → n < length bytes → is_word_byte (get_or bytes n 0) ≡ false
    → with_word_bytes (take n bytes) (whole_word (drop n bytes)) ≡ all
    → all ≡ found (word (take n bytes)) (drop n bytes)
word_ends bytes n all p e so_far =
    sym so_far
    ∙ (ap (λ l. with_word_bytes (take n bytes) (whole_word l)) (drop-cons bytes n 0 p)
    ∙ (ap
    (λ t. with_word_bytes (take n bytes)
    (if t then with_word_byte (get_or bytes n 0) (whole_word (drop (suc n) bytes)) else found (word [])
    (get_or bytes n 0 ∷ drop (suc n) bytes))) e
    ∙ (word_is (take n bytes) (get_or bytes n 0 ∷ drop (suc n) bytes)
    ∙ ap (λ l. found (word (take n bytes)) l) (sym (drop-cons bytes n 0 p)))))

pub word_is_all : (bytes : List ℕ) (n : ℕ) (all : Lexeme) → length bytes ≤ n
    → with_word_bytes (take n bytes) (whole_word (drop n bytes)) ≡ all
    → all ≡ found (word (take (length bytes) bytes)) (drop (length bytes) bytes)
word_is_all bytes n all p so_far =
    let q : length bytes ≤ length bytes = omega arith in
    sym so_far
    ∙ (ap (λ l. with_word_bytes (take n bytes) (whole_word l)) (drop_all n bytes p)
    ∙ (word_is (take n bytes) []
    ∙ (ap (λ w. found (word w) []) (take_all n bytes p ∙ sym (take_all (length bytes) bytes q))
    ∙ ap (λ l. found (word (take (length bytes) bytes)) l) (sym (drop_all (length bytes) bytes q)))))

pub ruleset word_laws = (word_goes_on, word_ends, word_is_all)

-- strings
abbrev pub content_with : List ℕ → Lexeme → List ℕ
content_with before (found (string bytes) rest) = before ++ bytes
content_with before _ = []

pub content_alone : (f : Lexeme) → content_with [] f ≡ content f
content_alone (found (string w) rest) = refl
content_alone _ = refl

content_more : (before : List ℕ) (b : ℕ) (f : Lexeme) → content_with before (with_byte b f) ≡ content_with
    (before ++ b ∷ []) f
content_more before b (found (string w) rest) = sym (append_assoc before (b ∷ []) w)
content_more before b _ = refl

pub content_goes_on : (list : List ℕ) (b : ℕ) (rest now : List ℕ) (all : List ℕ) → quotes now
    ≡ with_byte b (quotes rest)
    → content_with list (quotes now) ≡ all → content_with (list ++ b ∷ []) (quotes rest) ≡ all
content_goes_on list b rest now all e so_far =
    sym (content_more list b (quotes rest)) ∙ (sym (ap (content_with list) e) ∙ so_far)

pub content_ends : (list rest now : List ℕ) (all : List ℕ) → quotes now ≡ found (string []) rest
    → content_with list (quotes now) ≡ all → list ≡ all
content_ends list rest now all e so_far =
    sym (append-nil list) ∙ (sym (ap (content_with list) e) ∙ so_far)

pub content_none : (list now : List ℕ) (all : List ℕ) → quotes now ≡ none → content_with list (quotes now) ≡ all
    → [] ≡ all
content_none list now all e so_far = sym (ap (content_with list) e) ∙ so_far

behind_more : (b : ℕ) (f : Lexeme) → behind (with_byte b f) ≡ behind f
behind_more b (found (string w) rest) = refl
behind_more b _ = refl

pub behind_goes_on : (b : ℕ) (rest now : List ℕ) (all : Option (List ℕ)) → quotes now ≡ with_byte b (quotes rest)
    → behind (quotes now) ≡ all → behind (quotes rest) ≡ all
behind_goes_on b rest now all e so_far = sym (behind_more b (quotes rest)) ∙ (sym (ap behind e) ∙ so_far)

pub ruleset string_laws = (content_alone, content_goes_on, content_ends, content_none, behind_goes_on)

-- the token at the front
pub string_found : (f : Lexeme) (rest : List ℕ) → behind f ≡ Some rest → f ≡ found (string (content f)) rest
string_found (found (string w) r) rest e = let same : r ≡ rest = cc in ap (found (string w)) same
string_found _ rest e = cc

no_string_with : (b : ℕ) (f : Lexeme) → behind (with_byte b f) ≡ None → with_byte b f ≡ none
no_string_with b (found (string w) r) e = cc
no_string_with b _ e = refl

no_digits : (h : ℕ) (o : Option ℕ) (f : Lexeme) → behind (with_digits h o f) ≡ None → with_digits h o f ≡ none
no_digits h None f e = refl
no_digits h (Some l) f e = no_string_with (16 * h + l) f e

no_half : (o : Option ℕ) (bytes : List ℕ) → behind (half_escaped o bytes) ≡ None → half_escaped o bytes ≡ none
no_half None bytes e = refl
no_half (Some h) [] e = refl
no_half (Some h) (l ∷ rest) e = no_digits h (hex_value l) (quotes rest) e

no_escaped : (bytes : List ℕ) → behind (escaped bytes) ≡ None → escaped bytes ≡ none
no_escaped [] e = refl
no_escaped (h ∷ rest) e = no_half (hex_value h) rest e

pub no_string : (bytes : List ℕ) → behind (quotes bytes) ≡ None → quotes bytes ≡ none
no_string [] e = refl
no_string (b ∷ rest) e = by_first (b == 0x22) (b == 0x5C) (is_plain b) e
  where
    by_first : (k m n : Bool)
        → behind (if k then found (string []) rest else if m then escaped rest else if n then with_byte b
        (quotes rest) else none) ≡ None
        → (if k then found (string []) rest else if m then escaped rest else if n then with_byte b
        (quotes rest) else none) ≡ none
    by_first true m n e = cc
    by_first false true n e = no_escaped rest e
    by_first false false true e = no_string_with b (quotes rest) e
    by_first false false false e = refl

pub front_string : (b : ℕ) (rest after : List ℕ) → b ≡ 0x22 → behind (quotes rest) ≡ Some after
    → front (b ∷ rest) ≡ found (string (content (quotes rest))) after
front_string b rest after e s = rw e (string_found (quotes rest) after s)

pub front_no_string : (b : ℕ) (rest : List ℕ) → b ≡ 0x22 → behind (quotes rest) ≡ None → front (b ∷ rest) ≡ none
front_no_string b rest e s = rw e (no_string rest s)

pub no_string_here : (bytes : List ℕ) → 1 ≤ length bytes → get_or bytes 0 0 ≡ 0x22
    → behind (quotes (take (length bytes - 1) (drop 1 bytes))) ≡ None → front bytes ≡ none
no_string_here [] p e s = absurd (omega arith)
no_string_here (b ∷ rest) p e s =
    let h : take (length (b ∷ rest) - 1) rest ≡ rest = take_all (length (b ∷ rest) - 1) rest (omega arith) in
    front_no_string b rest e (sym (ap (λ l. behind (quotes l)) h) ∙ s)

front_other : (b : ℕ) (rest : List ℕ) → b ≢ 0x28 → b ≢ 0x29 → b ≢ 0x22
    → front (b ∷ rest) ≡ (if is_word_byte b then whole_word (b ∷ rest) else none)
front_other b rest k l m = rw (ne_eqb b 0x28 k, ne_eqb b 0x29 l, ne_eqb b 0x22 m) refl

pub front_word : (b : ℕ) (rest w after bytes : List ℕ) → b ≢ 0x28 → b ≢ 0x29 → b ≢ 0x22 → bytes ≡ b ∷ rest
    → is_word_byte b ≡ true → whole_word bytes ≡ found (word w) after → front bytes ≡ found (word w) after
front_word b rest w after bytes k l m s e h =
    ap front s
    ∙ (front_other b rest k l m
    ∙ (ap (λ t. if t then whole_word (b ∷ rest) else none) e ∙ (sym (ap whole_word s) ∙ h)))

pub front_none : (b : ℕ) (rest : List ℕ) → b ≢ 0x28 → b ≢ 0x29 → b ≢ 0x22 → is_word_byte b ≡ false
    → front (b ∷ rest) ≡ none
front_none b rest k l m e = front_other b rest k l m ∙ ap (λ t. if t then whole_word (b ∷ rest) else none) e

pub ruleset front_laws = (front_string, front_no_string, front_word, front_none)

-- tokens in turn
pub shorter_left : (bytes : List ℕ) → length (without_blanks bytes) ≤ length bytes
shorter_left [] = omega arith
shorter_left (b ∷ rest) = by_test (is_blank b) (shorter_left rest)
  where
    by_test : (t : Bool) → length (without_blanks rest) ≤ length rest
        → length (if t then without_blanks rest else b ∷ rest) ≤ length (b ∷ rest)
    by_test true h = omega (arith, h)
    by_test false h = omega arith

behind_shorter : (bytes : List ℕ) (t : PureToken) (rest : List ℕ) → front (without_blanks bytes) ≡ found t rest
    → length rest < length bytes
behind_shorter bytes t rest e =
    let b : Begins (without_blanks bytes) t rest = front_back (without_blanks bytes) t rest e in
    omega (arith, longer b, shorter_left bytes)

enough : (n m end : ℕ) (bytes : List ℕ) → length bytes < n → length bytes < m
    → tokens_up_to n end bytes ≡ tokens_up_to m end bytes
enough zero m end bytes p q = absurd (omega arith)
enough (suc n) zero end bytes p q = absurd (omega arith)
enough (suc n) (suc m) end bytes k l = by_front (λ rest p q. enough n m end rest p q)
    (front (without_blanks bytes)) refl
  where
    by_front : ((rest : List ℕ) → length rest < n → length rest < m
        → tokens_up_to n end rest ≡ tokens_up_to m end rest) → (f : Lexeme) → front (without_blanks bytes) ≡ f
        → onward (λ rest. tokens_up_to n end rest) (end - length (without_blanks bytes)) f
        ≡ onward (λ rest. tokens_up_to m end rest) (end - length (without_blanks bytes)) f
    by_front more none e = refl
    by_front more (found t rest) e =
        let p : length rest < length bytes = behind_shorter bytes t rest e in
        ap (token (end - length (without_blanks bytes)) t) (more rest (omega (arith, p, k)) (omega (arith, p, l)))

pub tokens_are : (end : ℕ) (bytes : List ℕ) → tokens end bytes
    ≡ onward (λ rest. tokens end rest) (end - length (without_blanks bytes)) (front (without_blanks bytes))
unfolding tokens
tokens_are end bytes = by_front (front (without_blanks bytes)) refl
  where
    by_front : (f : Lexeme) → front (without_blanks bytes) ≡ f
        → onward (λ rest. tokens_up_to (length bytes) end rest) (end - length (without_blanks bytes)) f
        ≡ onward (λ rest. tokens end rest) (end - length (without_blanks bytes)) f
    by_front none e = refl
    by_front (found t rest) e = ap (token (end - length (without_blanks bytes)) t)
        (enough (length bytes) (suc (length rest)) end rest
        (behind_shorter bytes t rest e) (omega arith))

pub next_found : (end : ℕ) (bytes : List ℕ) (t : PureToken) (rest : List ℕ) → front (without_blanks bytes)
    ≡ found t rest
    → next (tokens end bytes) ≡ got t (tokens end rest)
next_found end bytes t rest e =
    ap next
    (tokens_are end bytes ∙ ap (onward (λ rest. tokens end rest) (end - length (without_blanks bytes))) e)

pub next_none : (end : ℕ) (bytes : List ℕ) → front (without_blanks bytes) ≡ none
    → next (tokens end bytes) ≡ bad (tokens end bytes)
next_none end bytes e =
    let s : tokens end bytes ≡ stop (end - length (without_blanks bytes)) =
    tokens_are end bytes ∙ ap (onward (λ rest. tokens end rest) (end - length (without_blanks bytes))) e in
    ap next s ∙ ap bad (sym s)

pub place_is : (end : ℕ) (bytes : List ℕ) → place_of (tokens end bytes) ≡ end - length (without_blanks bytes)
place_is end bytes = ap place_of (tokens_are end bytes) ∙ by_front (front (without_blanks bytes))
  where
    by_front : (f : Lexeme) → place_of
        (onward (λ rest. tokens end rest) (end - length (without_blanks bytes)) f)
        ≡ end - length (without_blanks bytes)
    by_front none = refl
    by_front (found t rest) = refl

pub ruleset next_laws = (next_found, next_none)

-- the end
pub ends_found : (end limit : ℕ) (bytes : List ℕ) (t : PureToken) (rest : List ℕ)
    → front (without_blanks bytes) ≡ found t rest → false ≡ ends_at limit (tokens end bytes)
ends_found end limit bytes t rest e =
    sym
    (ap (ends_at limit)
    (tokens_are end bytes ∙ ap (onward (λ rest. tokens end rest) (end - length (without_blanks bytes))) e))

pub ends_none : (end limit : ℕ) (bytes : List ℕ) → front (without_blanks bytes) ≡ none
    → nat_le limit (place_of (tokens end bytes)) ≡ ends_at limit (tokens end bytes)
ends_none end limit bytes e =
    let s : tokens end bytes ≡ stop (end - length (without_blanks bytes)) =
    tokens_are end bytes ∙ ap (onward (λ rest. tokens end rest) (end - length (without_blanks bytes))) e in
    ap (λ ts. nat_le limit (place_of ts)) s ∙ sym (ap (ends_at limit) s)
