-- Bytes are tokens, or have a first fault, in one way.
use Rattle.std.proofs.Common.{◌≡◌, ◌≢◌, ◌⊎◌, inl, inr, ℕ, suc, ◌+◌, ◌<◌, List, [], ◌∷◌, ◌++◌, length, refl, ap, sym}
use Rattle.std.proofs.Common.{◌∙◌, subst, append-nil, arith, Some}
use Rattle.std.proofs.lemmas.Option.{none-some, same_Some}
use Rattle.std.specs.List.{AllByRecursion}
use Rattle.mw_term.specs.declared.refusal.Refusal.{Refusal}
use Rattle.mw_term.specs.declared.refusal.Refusal.TheVariants.{Char}
use Rattle.mw_lex.specs.Bytes.{IsBlank, IsAllowed, IsDigit, IsCommentByte}
use Rattle.mw_lex.specs.Texts.{mark, reserved, IsWord, IsNumeral, IsText, IsLongest, decimal, Spells, a_mark}
use Rattle.mw_lex.specs.Texts.{a_reserved_word, a_name, a_number}
use Rattle.mw_lex.specs.Tokens.{Symbol, PureToken, number}
use Rattle.mw_lex.specs.Reading.{EndsComment, IsFault, no_token, in_comment, no_number, long_name}
use Rattle.mw_lex.proofs.Tables.{mark_nil, mark_no_word, reserved_word, reserved_short, text_nil, text_no_blank}
use Rattle.mw_lex.proofs.Tables.{text_no_hash}

-- texts
same_text_here : (text after more rest : List ℕ) → IsLongest text after → IsText (text ++ more) → after ≡ more ++ rest
    → more ≡ []
same_text_here text after [] rest l t e = refl
same_text_here text after (c ∷ more) rest l t e = absurd (l.1 (c ∷ more) rest e (λ f. absurd (cc)) t)

pub record Split (front back other rest : List ℕ) : Type 0 where
  pub more : List ℕ
  pub longer : other ≡ front ++ more
  pub split : back ≡ more ++ rest

-- of two fronts of the same bytes one goes on with the other
either_front : (front back other rest : List ℕ) → front ++ back ≡ other ++ rest → Split front back other rest
    ⊎ Split other rest front back
either_front [] back other rest e = inl (record { more = other; longer = refl; split = e })
either_front (b ∷ front) back [] rest e = inr (record { more = b ∷ front; longer = refl; split = sym e })
either_front (b ∷ front) back (c ∷ other) rest e = onward (either_front front back other rest cc)
  where
    same : b ≡ c
    same = cc

    onward : Split front back other rest ⊎ Split other rest front back → Split (b ∷ front) back (c ∷ other) rest
        ⊎ Split (c ∷ other) rest (b ∷ front) back
    onward (inl s) =
        inl (record {
          more = s.more;
          longer = ap (λ r. c ∷ r) s.longer ∙ ap (λ h. h ∷ front ++ s.more) (sym same);
          split = s.split;
        })
    onward (inr s) =
        inr (record {
          more = s.more;
          longer = ap (λ r. b ∷ r) s.longer ∙ ap (λ h. h ∷ other ++ s.more) same;
          split =
              s.split;
        })

pub same_text : (all text after other rest : List ℕ) → all ≡ text ++ after → IsLongest text after → all ≡ other ++ rest
    → IsLongest other rest → (text ≡ other) × (after ≡ rest)
same_text all text after other rest e l f m = by_front (either_front text after other rest (sym e ∙ f))
  where
    by_front : Split text after other rest ⊎ Split other rest text after → (text ≡ other) × (after ≡ rest)
    by_front (inl s) =
        let none : s.more ≡ [] = same_text_here text after s.more rest l (subst (λ t. IsText t) s.longer m.0) s.split in
        (sym (s.longer ∙ ap (λ r. text ++ r) none ∙ append-nil text), s.split ∙ ap (λ r. r ++ rest) none)
    by_front (inr s) =
        let none : s.more ≡ [] = same_text_here other rest s.more after m (subst (λ t. IsText t) s.longer l.0)
        s.split in
        (s.longer ∙ ap (λ r. other ++ r) none ∙ append-nil other, sym (s.split ∙ ap (λ r. r ++ after) none))

pub hash_no_text : (all body text after : List ℕ) → all ≡ 35 ∷ body → all ≡ text ++ after → IsText text → ⊥
hash_no_text all body [] after e f t = text_nil t
hash_no_text all body (b ∷ text) after e f t = let same : b ≡ 35 = cc in text_no_hash b text t same

pub blank_no_text : (b : ℕ) (bytes text after : List ℕ) → IsBlank b → b ∷ bytes ≡ text ++ after → IsText text → ⊥
blank_no_text b bytes [] after v e t = text_nil t
blank_no_text b bytes (c ∷ text) after v e t = let same : b ≡ c = cc in
    text_no_blank c text t (subst (λ b. IsBlank b) same v)

pub blank_no_hash : (b : ℕ) → IsBlank b → b ≢ 35
blank_no_hash b v = λ e. grind arith

-- what a text spells
word_numeral : (text : List ℕ) → IsWord text → IsNumeral text → ⊥
word_numeral [] w n = w
word_numeral (b ∷ text) w n = w.0 n.0

mark_word : (text : List ℕ) (s : Symbol) → mark text ≡ Some s → IsWord text → ⊥
mark_word [] s e w = w
mark_word (b ∷ text) s e w = mark_no_word b text s e w.1.0

mark_reserved : (text : List ℕ) (s t : Symbol) → mark text ≡ Some s → reserved text ≡ Some t → ⊥
mark_reserved [] s t e f = mark_nil s e
mark_reserved (b ∷ text) s t e f = mark_no_word b text s e (reserved_word b text t f).0

mark_digits : (text : List ℕ) (s : Symbol) → mark text ≡ Some s → text ≢ [] → AllByRecursion IsDigit text → ⊥
mark_digits [] s e n a = n refl
mark_digits (b ∷ text) s e n a = mark_no_word b text s e (inl a.0)

reserved_digits : (text : List ℕ) (s : Symbol) → reserved text ≡ Some s → text ≢ [] → AllByRecursion IsDigit text → ⊥
reserved_digits [] s e n a = n refl
reserved_digits (b ∷ text) s e n a = (reserved_word b text s e).1 a.0

word_digits : (text : List ℕ) → IsWord text → text ≢ [] → AllByRecursion IsDigit text → ⊥
word_digits [] w n a = w
word_digits (b ∷ text) w n a = w.0 a.0

pub one_symbol : {text : List ℕ} {s t : Symbol} → Spells text s → Spells text t → s ≡ t
one_symbol {s = s} {t = t} (a_mark e) (a_mark f) = same_Some s t (sym e ∙ f)
one_symbol {text = text} {s = s} {t = t} (a_mark e) (a_reserved_word f) = absurd (mark_reserved text s t e f)
one_symbol {text = text} {s = s} (a_mark e) (a_name w n p) = absurd (mark_word text s e w)
one_symbol {text = text} {s = s} (a_mark e) (a_number n a) = absurd (mark_digits text s e n a)
one_symbol {text = text} {s = s} {t = t} (a_reserved_word e) (a_mark f) = absurd (mark_reserved text t s f e)
one_symbol {s = s} {t = t} (a_reserved_word e) (a_reserved_word f) = same_Some s t (sym e ∙ f)
one_symbol {s = s} (a_reserved_word e) (a_name w n p) = absurd (none-some s (sym n ∙ e))
one_symbol {text = text} {s = s} (a_reserved_word e) (a_number n a) = absurd (reserved_digits text s e n a)
one_symbol {text = text} {t = t} (a_name w n p) (a_mark f) = absurd (mark_word text t f w)
one_symbol {t = t} (a_name w n p) (a_reserved_word f) = absurd (none-some t (sym n ∙ f))
one_symbol (a_name w n p) (a_name v m q) = refl
one_symbol {text = text} (a_name w n p) (a_number m a) = absurd (word_digits text w m a)
one_symbol {text = text} {t = t} (a_number n a) (a_mark f) = absurd (mark_digits text t f n a)
one_symbol {text = text} {t = t} (a_number n a) (a_reserved_word f) = absurd (reserved_digits text t f n a)
one_symbol {text = text} (a_number n a) (a_name w m p) = absurd (word_digits text w n a)
one_symbol (a_number n a) (a_number m b) = refl

numeral_mark : (text : List ℕ) (s : Symbol) → mark text ≡ Some s → IsNumeral text → ⊥
numeral_mark [] s e n = n
numeral_mark (b ∷ text) s e n = mark_no_word b text s e n.1.0

numeral_reserved : (text : List ℕ) (s : Symbol) → reserved text ≡ Some s → IsNumeral text → ⊥
numeral_reserved [] s e n = n
numeral_reserved (b ∷ text) s e n = (reserved_word b text s e).1 n.0

pub numeral_spells : {text : List ℕ} {s : Symbol} → IsNumeral text → Spells text s → AllByRecursion IsDigit text
    × (s ≡ number (decimal 0 text))
numeral_spells {text = text} {s = s} n (a_mark e) = absurd (numeral_mark text s e n)
numeral_spells {text = text} {s = s} n (a_reserved_word e) = absurd (numeral_reserved text s e n)
numeral_spells {text = text} n (a_name w e p) = absurd (word_numeral text w n)
numeral_spells n (a_number m a) = (a, refl)

pub long_spells : {text : List ℕ} {s : Symbol} → IsWord text → 64 < length text → Spells text s → ⊥
long_spells {text = text} {s = s} w p (a_mark e) = mark_word text s e w
long_spells {text = text} {s = s} w p (a_reserved_word e) = absurd (omega (arith, p, reserved_short text s e))
long_spells w p (a_name v e q) = absurd (omega (arith, p, q))
long_spells {text = text} w p (a_number n a) = word_digits text w n a

-- comments
abbrev pub Halts : List ℕ → Type 0
Halts [] = Unit {0}
Halts (b ∷ bytes) = IsCommentByte b → ⊥

pub ends_halts : (after : List ℕ) → EndsComment after → Halts after
ends_halts [] e = tt
ends_halts (b ∷ after) e = λ c. c.1 e

same_comment : (body after other rest : List ℕ) → AllByRecursion IsCommentByte body → Halts after
    → AllByRecursion IsCommentByte other → Halts rest → body ++ after ≡ other ++ rest → (body ≡ other) × (after ≡ rest)
same_comment [] after [] rest a h b k e = (refl, e)
same_comment [] after (c ∷ other) rest a h b k e = absurd (subst (λ r. Halts r) e h b.0)
same_comment (c ∷ body) after [] rest a h b k e = absurd (subst (λ r. Halts r) (sym e) k a.0)
same_comment (c ∷ body) after (d ∷ other) rest a h b k e =
    let more = same_comment body after other rest a.1 h b.1 k cc in
    let same : c ≡ d = cc in
    (ap (λ r. c ∷ r) more.0 ∙ ap (λ h. h ∷ other) same, more.1)

module _ (all body after other rest : List ℕ) (e : all ≡ 35 ∷ body ++ after) (a : AllByRecursion IsCommentByte body)
    (h : Halts after) (f : all ≡ 35 ∷ other ++ rest) (b : AllByRecursion IsCommentByte other) (k : Halts rest) where
  pub same_bodies : (body ≡ other) × (after ≡ rest)
  same_bodies = same_comment body after other rest a h b k cc

-- one fault
pub text_some : (text rest : List ℕ) → text ++ rest ≡ [] → IsText text → ⊥
text_some [] rest e t = text_nil t
text_some (b ∷ text) rest e t = absurd (cc)

pub fault_some : {tokens : List PureToken} {at : ℕ} {bytes : List ℕ} {r : Refusal} → IsFault tokens at bytes r
    → bytes ≡ [] → ⊥
fault_some (no_token v h n) e = absurd (cc)
fault_some (in_comment body rest f a n) e = absurd (cc)
fault_some (no_number text rest f n l m) e = text_some text rest (sym f ∙ e) l.0
fault_some (long_name text rest f w l p) e = text_some text rest (sym f ∙ e) l.0

pub no_comment_byte : (b : ℕ) → (IsAllowed b → ⊥) → IsCommentByte b → ⊥
no_comment_byte b n c = n c.0

pub one_fault_here : {tokens : List PureToken} {at : ℕ} {bytes : List ℕ} {r q : Refusal} → IsFault tokens at bytes r
    → IsFault tokens at bytes q → r ≡ q
one_fault_here (no_token v h n) (no_token w k m) = refl
one_fault_here (no_token {b = b} v h n) (in_comment body rest f a m) = let same : b ≡ 35 = cc in absurd (h same)
one_fault_here (no_token v h n) (no_number text rest f m l o) = absurd (n text rest f l.0)
one_fault_here (no_token v h n) (long_name text rest f w l p) = absurd (n text rest f l.0)
one_fault_here (in_comment body rest f a m) (no_token {b = b} v h n) = let same : b ≡ 35 = cc in absurd (h same)
one_fault_here {at = at} (in_comment {b = b} {all = all} body rest f a m) (in_comment {b = c} other more g d n) =
    let same = same_bodies all body (b ∷ rest) other (c ∷ more) f a (no_comment_byte b m) g d (no_comment_byte c n) in
    ap (λ t. Char (at + suc (length t))) same.0
one_fault_here (in_comment {b = b} {all = all} body rest f a m) (no_number text more g n l o) =
    absurd (hash_no_text all (body ++ b ∷ rest) text more f g l.0)
one_fault_here (in_comment {b = b} {all = all} body rest f a m) (long_name text more g w l p) =
    absurd (hash_no_text all (body ++ b ∷ rest) text more f g l.0)
one_fault_here (no_number text rest f m l o) (no_token v h n) = absurd (n text rest f l.0)
one_fault_here (no_number {all = all} text more g n l o) (in_comment {b = b} body rest f a m) =
    absurd (hash_no_text all (body ++ b ∷ rest) text more f g l.0)
one_fault_here (no_number text rest f n l o) (no_number other more g m k p) = refl
one_fault_here (no_number {all = all} text rest f n l o) (long_name other more g w k p) =
    absurd (word_numeral other w (subst (λ t. IsNumeral t) (same_text all text rest other more f l g k).0 n))
one_fault_here (long_name text rest f w l p) (no_token v h n) = absurd (n text rest f l.0)
one_fault_here (long_name {all = all} text more g w l p) (in_comment {b = b} body rest f a m) =
    absurd (hash_no_text all (body ++ b ∷ rest) text more f g l.0)
one_fault_here (long_name {all = all} other more g w k p) (no_number text rest f n l o) =
    absurd (word_numeral other w (subst (λ t. IsNumeral t) (same_text all text rest other more f l g k).0 n))
one_fault_here (long_name text rest f w l p) (long_name other more g v k q) = refl
