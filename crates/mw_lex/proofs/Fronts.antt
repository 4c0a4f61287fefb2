-- What is seen at the front of bytes stands there.
use Rattle.std.proofs.Common.{◌≡◌, ◌≢◌, inl, inr, ℕ, suc, ◌+◌, ◌<◌, ◌≤◌, ◌==◌, List, [], ◌∷◌, ◌++◌, length, take, drop}
use Rattle.std.proofs.Common.{refl, ap, sym, ◌∙◌, subst, add-one, arith, Bool, true, false, if◌then◌else◌, Option, Some}
use Rattle.std.proofs.Common.{None}
use Rattle.std.proofs.lemmas.Bool.{false≢true, eqb-true, eqb-false}
use Rattle.std.proofs.lemmas.List.{take-append-drop, length-take-le, length-drop}
use Rattle.std.proofs.lemmas.Option.{none-some}
use Rattle.std.specs.List.{AllByRecursion}
use Rattle.mw_term.specs.declared.refusal.Refusal.TheVariants.{Char}
use Rattle.mw_lex.specs.Bytes.{IsWordByte, IsCommentByte}
use Rattle.mw_lex.specs.Texts.{mark, IsText, IsLongest}
use Rattle.mw_lex.specs.Tokens.{Symbol, PureToken}
use Rattle.mw_lex.specs.Reading.{EndsComment, Reads, so_far, behind_blank, behind_comment, BeginsNone, IsFault}
use Rattle.mw_lex.specs.Reading.{no_token, in_comment}
use Rattle.mw_lex.specs.declared.piece.Piece.{Piece}
use Rattle.mw_lex.specs.declared.piece.Piece.TheVariants as piece
use Rattle.mw_lex.specs.Pieces.{seen, IsWithin, is_blank, is_word_byte, is_comment_byte, count, Seen, gap, marked, run}
use Rattle.mw_lex.specs.Pieces.{strange, comment_end, comment, short_mark, long_mark, a_mark, front}
use Rattle.mw_lex.proofs.ByteTests.{denied, blank_true, true_blank, word_true, true_word, comment_true, allowed_comment}
use Rattle.mw_lex.proofs.Tables.{mark_short, text_nil}

-- bytes that pass a test, up to one that doesn't
abbrev pub Stops : (ℕ → Bool) → List ℕ → Type 0
Stops test [] = Unit {0}
Stops test (b ∷ bytes) = test b ≡ false

module _ (test : ℕ → Bool) (P : ℕ → Type 0) (holds : (b : ℕ) → test b ≡ true → P b) where
  pub counted_all : (bytes : List ℕ) → AllByRecursion P (take (count test bytes) bytes)
  counted_all [] = tt
  counted_all (b ∷ bytes) = by_test (counted_all bytes) (test b) refl
    where
      by_test : AllByRecursion P (take (count test bytes) bytes) → (t : Bool) → test b ≡ t
          → AllByRecursion P (take (if t then suc (count test bytes) else 0) (b ∷ bytes))
      by_test more true e = (holds b e, more)
      by_test more false e = tt

module _ (test : ℕ → Bool) where
  pub counted_stops : (bytes : List ℕ) → Stops test (drop (count test bytes) bytes)
  counted_stops [] = tt
  counted_stops (b ∷ bytes) = by_test (counted_stops bytes) (test b) refl
    where
      by_test : Stops test (drop (count test bytes) bytes) → (t : Bool) → test b ≡ t
          → Stops test (drop (if t then suc (count test bytes) else 0) (b ∷ bytes))
      by_test more true e = more
      by_test more false e = e

  pub counted_within : (bytes : List ℕ) → count test bytes ≤ length bytes
  counted_within [] = omega arith
  counted_within (b ∷ bytes) = by_test (counted_within bytes) (test b) refl
    where
      by_test : count test bytes ≤ length bytes → (t : Bool) → test b ≡ t → (if t then suc (count test bytes) else 0)
          ≤ suc (length bytes)
      by_test more true e = omega (arith, more)
      by_test more false e = omega arith

  pub counted_some : (b : ℕ) (bytes : List ℕ) → test b ≡ true → 0 < count test (b ∷ bytes)
  counted_some b bytes e = by_test (test b) e
    where
      by_test : (t : Bool) → t ≡ true → 0 < (if t then suc (count test bytes) else 0)
      by_test true e = omega arith
      by_test false e = absurd (false≢true e)

-- which case it is
pub data Front (b : ℕ) (bytes : List ℕ) : Seen → Type 0 where
  at_blank : is_blank b ≡ true → Front b bytes (gap 1)
  at_comment : b ≡ 35 → Front b bytes (comment bytes)
  at_run : is_word_byte b ≡ true → Front b bytes (run (count is_word_byte (b ∷ bytes)))
  at_mark : is_blank b ≡ false → b ≢ 35 → is_word_byte b ≡ false → Front b bytes (a_mark (b ∷ bytes))

front_is : (b : ℕ) (bytes : List ℕ) → Front b bytes (front (b ∷ bytes))
front_is b bytes = by_tests (is_blank b) refl (b == 35) refl (is_word_byte b) refl
  where
    by_tests : (v : Bool) → is_blank b ≡ v → (h : Bool) → (b == 35) ≡ h → (w : Bool) → is_word_byte b ≡ w
        → Front b bytes
        (if v then gap 1 else
        (if h then comment bytes else (if w then run (count is_word_byte (b ∷ bytes)) else a_mark (b ∷ bytes))))
    by_tests true e h f w g = at_blank e
    by_tests false e true f w g = at_comment (eqb-true b 35 f)
    by_tests false e false f true g = at_run g
    by_tests false e false f false g = at_mark e (eqb-false b 35 f) g

pub blank_front : (b : ℕ) (bytes : List ℕ) → is_blank b ≡ true → front (b ∷ bytes) ≡ gap 1
blank_front b bytes e = ap (λ t. if t then gap 1 else
    (if b == 35 then comment bytes else
    (if is_word_byte b then run (count is_word_byte (b ∷ bytes)) else a_mark (b ∷ bytes)))) e

-- what each answer means, at an offset
abbrev pub Means : ℕ → List ℕ → Seen → Type 0
Means at bytes (gap n) = Reads at bytes [] (at + n) (drop n bytes) × (0 < n) × (n ≤ length bytes)
Means at bytes (marked s n) = (mark (take n bytes) ≡ Some s) × IsLongest (take n bytes) (drop n bytes) × (0 < n)
    × (n ≤ length bytes)
Means at bytes (run n) = AllByRecursion IsWordByte (take n bytes) × Stops is_word_byte (drop n bytes) × (0 < n)
    × (n ≤ length bytes)
Means at bytes (strange n) = ((tokens : List PureToken) → IsFault tokens at bytes (Char (at + n))) × (n < length bytes)

-- comments
module _ (at k : ℕ) (bytes : List ℕ) (all : AllByRecursion IsCommentByte (take k bytes)) (within : k ≤ length bytes)
  where
    whole_comment : EndsComment (drop k bytes) → Means at (35 ∷ bytes) (gap (suc k))
    whole_comment e =
        let size : length (take k bytes) ≡ k = length-take-le k bytes within in
        let split : 35 ∷ bytes ≡ 35 ∷ take k bytes ++ drop k bytes =
        ap (λ r. 35 ∷ r) (sym (take-append-drop k bytes)) in
        let reads : Reads at (35 ∷ bytes) [] (at + suc (length (take k bytes))) (drop k bytes) =
        behind_comment (take k bytes) (drop k bytes) split all e so_far in (
          subst (λ n. Reads at (35 ∷ bytes) [] (at + suc n) (drop k bytes)) size reads,
          omega arith,
          omega (arith, within),
        )

    comment_fault : (c : ℕ) (more : List ℕ) → drop k bytes ≡ c ∷ more → is_comment_byte c ≡ false → c ≢ 10
        → Means at (35 ∷ bytes) (strange (suc k))
    comment_fault c more d e n =
        let size : length (take k bytes) ≡ k = length-take-le k bytes within in
        let split : 35 ∷ bytes ≡ 35 ∷ take k bytes ++ c ∷ more =
        ap (λ r. 35 ∷ r) (sym (take-append-drop k bytes) ∙ ap (λ r. take k bytes ++ r) d) in (
          λ tokens. subst (λ n. IsFault tokens at (35 ∷ bytes) (Char (at + suc n))) size
              (in_comment (take k bytes) more split all (allowed_comment c e n)),
          omega (arith, length-drop k bytes, ap length d),
        )

    comment_means : (rest : List ℕ) → drop k bytes ≡ rest → Stops is_comment_byte rest
        → Means at (35 ∷ bytes) (comment_end (suc k) rest)
    comment_means [] d e = whole_comment (subst (λ r. EndsComment r) (sym d) tt)
    comment_means (c ∷ more) d e = by_feed (c == 10) refl
      where
        by_feed : (t : Bool) → (c == 10) ≡ t → Means at (35 ∷ bytes) (if t then gap (suc k) else strange (suc k))
        by_feed true f = whole_comment (subst (λ r. EndsComment r) (sym d) (eqb-true c 10 f))
        by_feed false f = comment_fault c more d e (eqb-false c 10 f)

-- marks
module _ (at b : ℕ) (bytes : List ℕ) (no_blank : is_blank b ≡ false) (no_hash : b ≢ 35)
    (no_word : is_word_byte b ≡ false) where
  no_word_text : (text : List ℕ) → AllByRecursion IsWordByte (b ∷ text) → ⊥
  no_word_text text w = denied (true_word b) no_word w.0

  -- what begins with this byte and is a text is a mark
  only_mark : (text : List ℕ) → IsText (b ∷ text) → (s : Symbol) × (mark (b ∷ text) ≡ Some s)
  only_mark text (inl w) = absurd (no_word_text text w.1)
  only_mark text (inr (inl n)) = absurd (no_word_text text n.1)
  only_mark text (inr (inr m)) = m

  long_means : (c : ℕ) (more : List ℕ) (s : Symbol) → bytes ≡ c ∷ more → mark (b ∷ c ∷ []) ≡ Some s
      → Means at (b ∷ bytes) (marked s 2)
  long_means c more s e m = subst (λ r. Means at (b ∷ r) (marked s 2)) (sym e)
      (m, (inr (inr (s, m)), longest), omega arith, omega arith)
    where
      longest : (further after : List ℕ) → more ≡ further ++ after → further ≢ [] → IsText (b ∷ c ∷ further) → ⊥
      longest [] after f n t = n refl
      longest (d ∷ further) after f n t = let m = only_mark (c ∷ d ∷ further) t in
          absurd (omega (arith, mark_short (b ∷ c ∷ d ∷ further) m.0 m.1))

  -- where no mark of two bytes stands, no longer text does
  no_longer : ((c : ℕ) (more : List ℕ) → bytes ≡ c ∷ more → mark (b ∷ c ∷ []) ≡ None) → (further after : List ℕ)
      → bytes ≡ further ++ after → further ≢ [] → IsText (b ∷ further) → ⊥
  no_longer none [] after e n t = n refl
  no_longer none (c ∷ []) after e n t = let m = only_mark (c ∷ []) t in none-some m.0 (sym (none c after e) ∙ m.1)
  no_longer none (c ∷ d ∷ further) after e n t = let m = only_mark (c ∷ d ∷ further) t in
      absurd (omega (arith, mark_short (b ∷ c ∷ d ∷ further) m.0 m.1))

  short_means : ((c : ℕ) (more : List ℕ) → bytes ≡ c ∷ more → mark (b ∷ c ∷ []) ≡ None) → (o : Option Symbol)
      → mark (b ∷ []) ≡ o → Means at (b ∷ bytes) (short_mark o)
  short_means none (Some s) m = (m, (inr (inr (s, m)), no_longer none), omega arith, omega arith)
  short_means none None m = (
    λ tokens. subst (λ n. IsFault tokens at (b ∷ bytes) (Char n)) (omega arith)
        (no_token (denied (true_blank b) no_blank) no_hash begins_none),
    omega arith,
  )
    where
      begins_none : BeginsNone (b ∷ bytes)
      begins_none [] after e t = text_nil t
      begins_none (a ∷ text) after e t =
          let same : b ≡ a = cc in
          let rest : bytes ≡ text ++ after = cc in
          none_here text after rest (subst (λ a. IsText (a ∷ text)) (sym same) t)
        where
          none_here : (text after : List ℕ) → bytes ≡ text ++ after → IsText (b ∷ text) → ⊥
          none_here [] after e t = let o = only_mark [] t in none-some o.0 (sym m ∙ o.1)
          none_here (c ∷ text) after e t = no_longer none (c ∷ text) after e (λ f. absurd (cc)) t

mark_means : (at b : ℕ) (bytes : List ℕ) → is_blank b ≡ false → b ≢ 35 → is_word_byte b ≡ false
    → Means at (b ∷ bytes) (a_mark (b ∷ bytes))
mark_means at b [] v h w = short_means at b [] v h w (λ c more e. absurd (cc)) (mark (b ∷ [])) refl
mark_means at b (c ∷ more) v h w = by_long (mark (b ∷ c ∷ [])) refl
  where
    by_long : (o : Option Symbol) → mark (b ∷ c ∷ []) ≡ o → Means at (b ∷ c ∷ more) (long_mark o (mark (b ∷ [])))
    by_long (Some s) e = long_means at b (c ∷ more) v h w c more s refl e
    by_long None e = short_means at b (c ∷ more) v h w (λ d further f. let same : c ≡ d = cc in
        subst (λ d. mark (b ∷ d ∷ []) ≡ None) same e) (mark (b ∷ [])) refl

by_front : (at b : ℕ) (bytes : List ℕ) (x : Seen) → Front b bytes x → Means at (b ∷ bytes) x
by_front at b bytes x (at_blank e) = (
  subst (λ n. Reads at (b ∷ bytes) [] n bytes) (sym (add-one at)) (behind_blank (blank_true b e) so_far),
  omega arith,
  omega arith,
)
by_front at b bytes x (at_comment e) =
    let k = count is_comment_byte bytes in
    subst (λ b. Means at (b ∷ bytes) (comment bytes)) (sym e)
    (comment_means at k bytes (counted_all is_comment_byte IsCommentByte comment_true bytes)
    (counted_within is_comment_byte bytes) (drop k bytes) refl (counted_stops is_comment_byte bytes))
by_front at b bytes x (at_run e) = (
  counted_all is_word_byte IsWordByte word_true (b ∷ bytes),
  counted_stops is_word_byte (b ∷ bytes),
  counted_some is_word_byte b bytes e,
  counted_within is_word_byte (b ∷ bytes),
)
by_front at b bytes x (at_mark v h w) = mark_means at b bytes v h w

pub means : (at : ℕ) (bytes : List ℕ) → 0 < length bytes → Means at bytes (front bytes)
means at [] p = absurd (omega arith)
means at (b ∷ bytes) p = by_front at b bytes (front (b ∷ bytes)) (front_is b bytes)

pub piece_within : (bytes : List ℕ) (x : Piece) → 0 < length bytes → seen x ≡ front bytes → IsWithin (length bytes) x
piece_within bytes x p e = by_piece x (subst (λ y. Means 0 bytes y) (sym e) (means 0 bytes p))
  where
    by_piece : (x : Piece) → Means 0 bytes (seen x) → IsWithin (length bytes) x
    by_piece (piece.Gap n) m = (m.1, m.2)
    by_piece (piece.Mark kind n) m = (m.2, m.3)
    by_piece (piece.Run n) m = (m.2, m.3)
    by_piece (piece.Strange n) m = m.1
