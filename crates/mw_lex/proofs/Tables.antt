-- What holds of each text of the two tables.
use Rattle.std.proofs.Common.{◌≡◌, ◌≢◌, inl, inr, ℕ, ◌≤◌, ◌==◌, nat_le, List, [], ◌∷◌, length, refl, sym, subst, Bool}
use Rattle.std.proofs.Common.{true, false, not, cond, ◌&&◌, Some}
use Rattle.std.proofs.lemmas.Bool.{false≢true, eq-eqb, leb-true, and_parts, not-true}
use Rattle.std.proofs.lemmas.Option.{none-some, same_Some}
use Rattle.std.proofs.lemmas.Slice.Eq.{bytes_eq-Decides}
use Rattle.std.specs.Map.{lookup}
use Rattle.std.specs.Str.{bytes_eq}
use Rattle.mw_lex.specs.Bytes.{IsBlank, IsDigit, IsWordByte}
use Rattle.mw_lex.specs.Texts.{reserved_words, mark_texts, reserved, mark, IsText}
use Rattle.mw_lex.specs.Tokens.{Symbol, number}
use Rattle.mw_lex.specs.InOrder.{IsInRange}
use Rattle.mw_term.specs.Decimals.{is_digit}
use Rattle.mw_lex.specs.Pieces.{is_blank, is_word_byte}
use Rattle.mw_lex.proofs.ByteTests.{denied, true_blank, true_digit, true_word, word_true, word_no_blank, word_no_hash}

abbrev all_pass : (List ℕ × Symbol → Bool) → List (List ℕ × Symbol) → Bool
all_pass test [] = true
all_pass test (entry ∷ entries) = test entry && all_pass test entries

looked_up : (test : List ℕ × Symbol → Bool) (entries : List (List ℕ × Symbol)) (text : List ℕ) (s : Symbol)
    → all_pass test entries ≡ true → lookup (bytes_eq text) entries ≡ Some s → test (text, s) ≡ true
looked_up test [] text s a e = absurd (none-some s e)
looked_up test (entry ∷ entries) text s a e =
    by_text (looked_up test entries text s (and_parts (test entry) (all_pass test entries) a).1) (bytes_eq text entry.0)
    refl e
  where
    by_text : (lookup (bytes_eq text) entries ≡ Some s → test (text, s) ≡ true) → (t : Bool) → bytes_eq text entry.0 ≡ t
        → cond t (Some entry.1) (lookup (bytes_eq text) entries) ≡ Some s → test (text, s) ≡ true
    by_text more true f e =
        let same_text : text ≡ entry.0 = (bytes_eq-Decides text entry.0).0 f in
        let same_symbol : entry.1 ≡ s = same_Some entry.1 s e in
        let here : test (entry.0, entry.1) ≡ true = (and_parts (test entry) (all_pass test entries) a).0 in
        subst (λ t. test (t, s) ≡ true) (sym same_text) (subst (λ s. test (entry.0, s) ≡ true) same_symbol here)
    by_text more false f e = more e

abbrev is_number : Symbol → Bool
is_number (number n) = true
is_number s = false

-- a mark is of one or two bytes, the first of which is no blank, no # and in no word
abbrev starts_mark : List ℕ → Bool
starts_mark [] = false
starts_mark (b ∷ bytes) = not (is_blank b) && (not (b == 35) && not (is_word_byte b))

abbrev mark_test : List ℕ × Symbol → Bool
mark_test entry = starts_mark entry.0 && (nat_le (length entry.0) 2 && not (is_number entry.1))

-- a reserved word is of at most 64 bytes, the first of which is a letter
abbrev starts_word : List ℕ → Bool
starts_word [] = false
starts_word (b ∷ bytes) = is_word_byte b && not (is_digit b)

abbrev reserved_test : List ℕ × Symbol → Bool
reserved_test entry = starts_word entry.0 && (nat_le (length entry.0) 64 && not (is_number entry.1))

three : (a b c : Bool) → (a && (b && c)) ≡ true → (a ≡ true) × (b ≡ true) × (c ≡ true)
three a b c e = let p = and_parts a (b && c) e in let q = and_parts b c p.1 in (p.0, q.0, q.1)

-- a reserved word has 2 to 6 bytes
pub reserved_size : (text : List ℕ) (s : Symbol) → reserved text ≡ Some s → (2 ≤ length text) × (length text ≤ 6)
reserved_size text s e =
    let p = and_parts (nat_le 2 (length text)) (nat_le (length text) 6)
    (looked_up (λ entry. nat_le 2 (length entry.0) && nat_le (length entry.0) 6) reserved_words text s refl e) in
    (leb-true 2 (length text) p.0, leb-true (length text) 6 p.1)

mark_parts : (text : List ℕ) (s : Symbol) → mark text ≡ Some s → (starts_mark text ≡ true)
    × (nat_le (length text) 2 ≡ true) × (not (is_number s) ≡ true)
mark_parts text s e = three (starts_mark text) (nat_le (length text) 2) (not (is_number s))
    (looked_up mark_test mark_texts text s refl e)

reserved_parts : (text : List ℕ) (s : Symbol) → reserved text ≡ Some s → (starts_word text ≡ true)
    × (nat_le (length text) 64 ≡ true) × (not (is_number s) ≡ true)
reserved_parts text s e = three (starts_word text) (nat_le (length text) 64) (not (is_number s))
    (looked_up reserved_test reserved_words text s refl e)

no_number : (a b s : Symbol) → not (is_number s) ≡ true → IsInRange a b s
no_number a b (number n) e = absurd (false≢true e)
no_number a b s e = tt

pub mark_in_range : (a b : Symbol) (text : List ℕ) (s : Symbol) → mark text ≡ Some s → IsInRange a b s
mark_in_range a b text s e = no_number a b s (mark_parts text s e).2

pub reserved_in_range : (a b : Symbol) (text : List ℕ) (s : Symbol) → reserved text ≡ Some s → IsInRange a b s
reserved_in_range a b text s e = no_number a b s (reserved_parts text s e).2

pub mark_short : (text : List ℕ) (s : Symbol) → mark text ≡ Some s → length text ≤ 2
mark_short text s e = leb-true (length text) 2 (mark_parts text s e).1

pub reserved_short : (text : List ℕ) (s : Symbol) → reserved text ≡ Some s → length text ≤ 64
reserved_short text s e = leb-true (length text) 64 (reserved_parts text s e).1

pub mark_nil : (s : Symbol) → mark [] ≡ Some s → ⊥
mark_nil s e = none-some s e

head_parts : (b : ℕ) (text : List ℕ) (s : Symbol) → mark (b ∷ text) ≡ Some s → (not (is_blank b) ≡ true)
    × (not (b == 35) ≡ true) × (not (is_word_byte b) ≡ true)
head_parts b text s e = three (not (is_blank b)) (not (b == 35)) (not (is_word_byte b)) (mark_parts (b ∷ text) s e).0

pub mark_no_word : (b : ℕ) (text : List ℕ) (s : Symbol) → mark (b ∷ text) ≡ Some s → IsWordByte b → ⊥
mark_no_word b text s e = denied (true_word b) (not-true (is_word_byte b) (head_parts b text s e).2)

pub mark_no_blank : (b : ℕ) (text : List ℕ) (s : Symbol) → mark (b ∷ text) ≡ Some s → IsBlank b → ⊥
mark_no_blank b text s e = denied (true_blank b) (not-true (is_blank b) (head_parts b text s e).0)

pub mark_no_hash : (b : ℕ) (text : List ℕ) (s : Symbol) → mark (b ∷ text) ≡ Some s → b ≢ 35
mark_no_hash b text s e = denied (eq-eqb b 35) (not-true (b == 35) (head_parts b text s e).1)

pub reserved_word : (b : ℕ) (text : List ℕ) (s : Symbol) → reserved (b ∷ text) ≡ Some s → IsWordByte b × (IsDigit b → ⊥)
reserved_word b text s e =
    let p = and_parts (is_word_byte b) (not (is_digit b)) (reserved_parts (b ∷ text) s e).0 in
    (word_true b p.0, denied (true_digit b) (not-true (is_digit b) p.1))

-- how a text begins
pub text_nil : IsText [] → ⊥
text_nil (inl w) = w
text_nil (inr (inl n)) = n
text_nil (inr (inr m)) = mark_nil m.0 m.1

pub text_no_blank : (b : ℕ) (text : List ℕ) → IsText (b ∷ text) → IsBlank b → ⊥
text_no_blank b text (inl w) = word_no_blank b w.1.0
text_no_blank b text (inr (inl n)) = word_no_blank b n.1.0
text_no_blank b text (inr (inr m)) = mark_no_blank b text m.0 m.1

pub text_no_hash : (b : ℕ) (text : List ℕ) → IsText (b ∷ text) → b ≢ 35
text_no_hash b text (inl w) = word_no_hash b w.1.0
text_no_hash b text (inr (inl n)) = word_no_hash b n.1.0
text_no_hash b text (inr (inr m)) = mark_no_hash b text m.0 m.1
