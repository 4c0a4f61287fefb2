-- Bytes are tokens, or have a first fault, in one way.
use Rattle.std.proofs.Common.{◌≡◌, inl, inr, ℕ, suc, ◌+◌, List, [], ◌∷◌, ◌++◌, length, refl, ap, sym, ◌∙◌, subst}
use Rattle.std.proofs.Common.{append_assoc, append-nil, Option, Some, None}
use Rattle.std.proofs.lemmas.Option.{none-some, same_Some}
use Rattle.std.specs.List.{AllByRecursion}
use Rattle.mw_term.specs.declared.refusal.Refusal.{Refusal}
use Rattle.mw_lex.specs.Bytes.{IsBlank, IsCommentByte}
use Rattle.mw_lex.specs.Texts.{IsLongest, Spells}
use Rattle.mw_lex.specs.Tokens.{Symbol, PureToken, token, minus}
use Rattle.mw_lex.specs.InOrder.{HaveNumbersInRange}
use Rattle.mw_lex.specs.Reading.{EndsComment, Reads, so_far, behind_blank, behind_comment, behind_token, AreTokens}
use Rattle.mw_lex.specs.Reading.{IsFault, no_token, in_comment, no_number, long_name, IsFirstFault}
use Rattle.mw_lex.proofs.Ranges.{range_front}
use Rattle.mw_lex.proofs.OneReading.{same_text, text_some, hash_no_text, blank_no_text, blank_no_hash, one_symbol}
use Rattle.mw_lex.proofs.OneReading.{numeral_spells, long_spells, ends_halts, no_comment_byte, same_bodies, fault_some}
use Rattle.mw_lex.proofs.OneReading.{one_fault_here}

-- where reading ends: at the end of the bytes, or at a fault
abbrev pub Ends : List PureToken → ℕ → List ℕ → Option Refusal → Type 0
Ends tokens at rest None = rest ≡ []
Ends tokens at rest (Some r) = IsFault tokens at rest r

-- it doesn't end where it goes on
blank_goes : (tokens : List PureToken) (at b : ℕ) (bytes : List ℕ) (o : Option Refusal) → IsBlank b
    → Ends tokens at (b ∷ bytes) o → ⊥
blank_goes tokens at b bytes None v e = absurd (cc)
blank_goes tokens at b bytes (Some r) v e = by_fault e
  where
    by_fault : {q : Refusal} → IsFault tokens at (b ∷ bytes) q → ⊥
    by_fault (no_token w h n) = w v
    by_fault (in_comment body rest f a m) = let same : b ≡ 35 = cc in blank_no_hash b v same
    by_fault (no_number text rest f m l p) = blank_no_text b bytes text rest v f l.0
    by_fault (long_name text rest f w l p) = blank_no_text b bytes text rest v f l.0

comment_goes : (tokens : List PureToken) (at : ℕ) (all body after : List ℕ) (o : Option Refusal) → all ≡ 35 ∷ body
    ++ after → AllByRecursion IsCommentByte body → EndsComment after → Ends tokens at all o → ⊥
comment_goes tokens at all body after None e a h i = absurd (cc)
comment_goes tokens at all body after (Some r) e a h i = by_fault i e
  where
    feed : (b : ℕ) (rest : List ℕ) → after ≡ b ∷ rest → b ≡ 10
    feed b rest f = subst (λ r. EndsComment r) f h

    by_fault : {bytes : List ℕ} {q : Refusal} → IsFault tokens at bytes q → bytes ≡ 35 ∷ body ++ after → ⊥
    by_fault (no_token {b = b} w k n) e = let same : b ≡ 35 = cc in k same
    by_fault (in_comment {b = b} {all = bytes} other rest f c m) e =
        let same = same_bodies bytes body after other (b ∷ rest) e a (ends_halts after h) f c (no_comment_byte b m) in
        m (inl (inr (inl (feed b rest same.1))))
    by_fault (no_number {all = bytes} text rest f m l p) e = hash_no_text bytes (body ++ after) text rest e f l.0
    by_fault (long_name {all = bytes} text rest f w l p) e = hash_no_text bytes (body ++ after) text rest e f l.0

token_goes : (tokens more : List PureToken) (at : ℕ) (all text after : List ℕ) (s : Symbol) (o : Option Refusal)
    → all ≡ text ++ after → IsLongest text after → Spells text s
    → HaveNumbersInRange (tokens ++ token at (at + length text) s ∷ more) → Ends tokens at all o → ⊥
token_goes tokens more at all text after s None e l f r i = text_some text after (sym e ∙ i) l.0
token_goes tokens more at all text after s (Some q) e l f r i = by_fault i e
  where
    by_fault : {bytes : List ℕ} {q : Refusal} → IsFault tokens at bytes q → bytes ≡ text ++ after → ⊥
    by_fault (no_token w k n) e = n text after e l.0
    by_fault (in_comment {b = b} {all = bytes} body rest g a m) e = hash_no_text bytes (body ++ b ∷ rest) text after g e
        l.0
    by_fault (no_number {all = bytes} other rest g m k n) e =
        let same = same_text bytes other rest text after g k e l in
        let spelled = numeral_spells m (subst (λ t. Spells t s) (sym same.0) f) in
        n spelled.0 (subst (λ s. HaveNumbersInRange (tokens ++ token at (at + length other) s ∷ [])) spelled.1
        (subst (λ t. HaveNumbersInRange (tokens ++ token at (at + length t) s ∷ [])) (sym same.0)
        (range_front minus minus tokens (token at (at + length text) s) more r)))
    by_fault (long_name {all = bytes} other rest g w k p) e =
        let same = same_text bytes other rest text after g k e l in
        long_spells w p (subst (λ t. Spells t s) (sym same.0) f)

-- a reading to an end, after these tokens
record Reading (pre : List PureToken) (at : ℕ) (bytes : List ℕ) (tokens : List PureToken) (o : Option Refusal) : Type 0
  where
    stop : ℕ
    rest : List ℕ
    reads : Reads at bytes tokens stop rest
    ends : Ends (pre ++ tokens) stop rest o
    in_range : HaveNumbersInRange (pre ++ tokens)

record Behind (pre : List PureToken) (at : ℕ) (after : List ℕ) (t : PureToken) (length : ℕ) (tokens : List PureToken)
    (o : Option Refusal) : Type 0 where
  more : List PureToken
  split : tokens ≡ t ∷ more
  reading : Reading (pre ++ t ∷ []) (at + length) after more o

-- what every reading does at a blank, a comment, a token and an end
module _ (pre : List PureToken) (o : Option Refusal) where
  at_blank : {at b stop : ℕ} {bytes rest : List ℕ} {tokens : List PureToken} → IsBlank b
      → Reads at (b ∷ bytes) tokens stop rest → Ends (pre ++ tokens) stop rest o → Reads (suc at) bytes tokens stop rest
  at_blank {at = at} {b = b} {bytes = bytes} v so_far e = absurd (blank_goes (pre ++ []) at b bytes o v e)
  at_blank v (behind_blank w r) e = r
  at_blank {b = b} v (behind_comment body after f a h r) e = let same : b ≡ 35 = cc in absurd (blank_no_hash b v same)
  at_blank {b = b} {bytes = bytes} v (behind_token text after f l s r) e =
      absurd (blank_no_text b bytes text after v f l.0)

  at_comment : {at stop : ℕ} {all rest : List ℕ} {tokens : List PureToken} (body after : List ℕ) → all ≡ 35 ∷ body
      ++ after → AllByRecursion IsCommentByte body → EndsComment after → Reads at all tokens stop rest
      → Ends (pre ++ tokens) stop rest o
      → Reads (at + suc (length body)) after tokens stop rest
  at_comment {at = at} {all = all} body after f a h so_far e =
      absurd (comment_goes (pre ++ []) at all body after o f a h e)
  at_comment body after f a h (behind_blank {b = b} w r) e = let same : b ≡ 35 = cc in absurd (blank_no_hash b w same)
  at_comment {at = at} {stop = stop} {all = all} {rest = rest} {tokens = tokens} body after f a h
      (behind_comment other next g b k r) e =
      let same = same_bodies all other next body after g b (ends_halts next k) f a (ends_halts after h) in
      subst (λ n. Reads n after tokens stop rest) (ap (λ t. at + suc (length t)) same.0)
      (subst (λ t. Reads (at + suc (length other)) t tokens stop rest) same.1 r)
  at_comment {all = all} body after f a h (behind_token text next g l s r) e =
      absurd (hash_no_text all (body ++ after) text next f g l.0)

  at_token : {at stop : ℕ} {all rest : List ℕ} {s : Symbol} {tokens : List PureToken} (more : List PureToken)
      (text after : List ℕ) → all ≡ text ++ after → IsLongest text after → Spells text s
      → HaveNumbersInRange (pre ++ token at (at + length text) s ∷ more)
      → Reads at all tokens stop rest → Ends (pre ++ tokens) stop rest o → HaveNumbersInRange (pre ++ tokens)
      → Behind pre at after (token at (at + length text) s) (length text) tokens o
  at_token {at = at} {all = all} {s = s} more text after f l i n so_far e r =
      absurd (token_goes (pre ++ []) more at all text after s o f l i
      (subst (λ p. HaveNumbersInRange (p ++ token at (at + length text) s ∷ more)) (sym (append-nil pre)) n) e)
  at_token more text after f l i n (behind_blank {b = b} {bytes = bytes} w h) e r =
      absurd (blank_no_text b bytes text after w f l.0)
  at_token {all = all} more text after f l i n (behind_comment body next g a k h) e r =
      absurd (hash_no_text all (body ++ next) text after g f l.0)
  at_token {at = at} {stop = stop} {all = all} {rest = rest} {s = s} more text after f l i n
      (behind_token {s = t} {tokens = tokens} other next g m j h) e r =
      let same = same_text all other next text after g m f l in
      let symbol : t ≡ s = one_symbol (subst (λ x. Spells x t) same.0 j) i in
      let first : token at (at + length other) t ≡ token at (at + length text) s = ap (λ x. token at (at + length x) t)
      same.0 ∙ ap (λ x. token at (at + length text) x) symbol in
      let reads : Reads (at + length text) after tokens stop rest =
      subst (λ x. Reads (at + length x) after tokens stop rest) same.0
      (subst (λ x. Reads (at + length other) x tokens stop rest) same.1 h) in
      let split : (pre ++ token at (at + length other) t ∷ tokens)
      ≡ ((pre ++ token at (at + length text) s ∷ []) ++ tokens) = ap (λ x. pre ++ x ∷ tokens) first
      ∙ sym (append_assoc pre (token at (at + length text) s ∷ []) tokens) in
      record {
        more = tokens;
        split = ap (λ x. x ∷ tokens) first;
        reading = record {
          stop = stop;
          rest = rest;
          reads = reads;
          ends = subst (λ x. Ends x stop rest o) split e;
          in_range = subst (λ x. HaveNumbersInRange x) split r;
        };
      }

one_end : (tokens : List PureToken) (at : ℕ) (bytes : List ℕ) (o q : Option Refusal) → Ends tokens at bytes o
    → Ends tokens at bytes q → o ≡ q
one_end tokens at bytes None None e f = refl
one_end tokens at bytes None (Some r) e f = absurd (fault_some f e)
one_end tokens at bytes (Some r) None e f = absurd (fault_some e f)
one_end tokens at bytes (Some r) (Some q) e f = ap (λ r. Some r) (one_fault_here e f)

at_end : (pre : List PureToken) (o q : Option Refusal) {at stop : ℕ} {bytes rest : List ℕ} {tokens : List PureToken}
    → Ends (pre ++ []) at bytes o → Reads at bytes tokens stop rest → Ends (pre ++ tokens) stop rest q
    → HaveNumbersInRange (pre ++ tokens) → ([] ≡ tokens) × (o ≡ q)
at_end pre o q {at = at} {bytes = bytes} e so_far f r = (refl, one_end (pre ++ []) at bytes o q e f)
at_end pre o q {at = at} e (behind_blank {b = b} {bytes = bytes} v h) f r =
    absurd (blank_goes (pre ++ []) at b bytes o v e)
at_end pre o q {at = at} {bytes = all} e (behind_comment body after g a k h) f r =
    absurd (comment_goes (pre ++ []) at all body after o g a k e)
at_end pre o q {at = at} {bytes = all} e (behind_token {s = s} {tokens = tokens} text after g l i h) f r =
    absurd (token_goes (pre ++ []) tokens at all text after s o g l i
    (subst (λ p. HaveNumbersInRange (p ++ token at (at + length text) s ∷ tokens)) (sym (append-nil pre)) r) e)

one_reading : (pre : List PureToken) (o q : Option Refusal) {at stop end : ℕ} {bytes rest last : List ℕ}
    {tokens others : List PureToken} → Reads at bytes tokens stop rest → Ends (pre ++ tokens) stop rest o
    → HaveNumbersInRange (pre ++ tokens)
    → Reads at bytes others end last → Ends (pre ++ others) end last q → HaveNumbersInRange (pre ++ others)
    → (tokens ≡ others) × (o ≡ q)
one_reading pre o q so_far e r g f s = at_end pre o q e g f s
one_reading pre o q (behind_blank v h) e r g f s = one_reading pre o q h e r (at_blank pre q v g f) f s
one_reading pre o q (behind_comment body after i a k h) e r g f s =
    one_reading pre o q h e r (at_comment pre q body after i a k g f) f s
one_reading pre o q {at = at} {stop = stop} {rest = rest} (behind_token {s = t} {tokens = tokens} text after i l j h) e
    r g f s =
    let b = at_token pre q tokens text after i l j r g f s in
    let split : (pre ++ token at (at + length text) t ∷ tokens)
    ≡ ((pre ++ token at (at + length text) t ∷ []) ++ tokens) =
    sym (append_assoc pre (token at (at + length text) t ∷ []) tokens) in
    let more = one_reading (pre ++ token at (at + length text) t ∷ []) o q h (subst (λ x. Ends x stop rest o) split e)
    (subst (λ x. HaveNumbersInRange x) split r) b.reading.reads b.reading.ends b.reading.in_range in
    (ap (λ x. token at (at + length text) t ∷ x) more.0 ∙ sym b.split, more.1)

pub one_list : (bytes : List ℕ) (tokens others : List PureToken) → AreTokens bytes tokens → AreTokens bytes others
    → tokens ≡ others
one_list bytes tokens others a b = (one_reading [] None None a.reads refl a.in_range b.reads refl b.in_range).0

pub one_first_fault : (bytes : List ℕ) (r q : Refusal) → IsFirstFault bytes r → IsFirstFault bytes q → r ≡ q
one_first_fault bytes r q a b =
    same_Some r q (one_reading [] (Some r) (Some q) a.reads a.fault a.in_range b.reads b.fault b.in_range).1

pub tokens_or_fault : (bytes : List ℕ) (tokens : List PureToken) (r : Refusal) → AreTokens bytes tokens
    → IsFirstFault bytes r → ⊥
tokens_or_fault bytes tokens r a b =
    none-some r (one_reading [] None (Some r) a.reads refl a.in_range b.reads b.fault b.in_range).1
