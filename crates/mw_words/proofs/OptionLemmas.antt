-- Names of options, and words that are split at a `=`.
use Rattle.std.proofs.Common.{◌≡◌, ℕ, zero, suc, Bool, true, false, not, cond, ◌&&◌, List, [], ◌∷◌, ◌++◌}
use Rattle.std.proofs.Common.{Option, Some, None, length, codes, refl, sym, ◌∙◌, ap, subst, append_assoc}
use Rattle.std.proofs.Common.{length-append, arith}
use Rattle.std.proofs.lemmas.Bool.{and_parts}
use Rattle.std.proofs.lemmas.List.{append_cancel_left}
use Rattle.std.proofs.lemmas.Option.{none-some}
use Rattle.std.proofs.lemmas.Slice.Eq.{bytes_eq-Decides}
use Rattle.std.specs.Map.{lookup}
use Rattle.std.specs.Str.{bytes_eq}
use Rattle.std.specs.Prelude.{nat_eq}
use Rattle.mw_words.specs.Words.{options, takes_value, IsOption, apart, joined}
use Rattle.mw_words.specs.Gathered.{HasNoEqual, IsSplit}

-- the name of each option of a table passes a test that they all pass
abbrev all_pass : (List ℕ → Bool) → List (List ℕ × Bool) → Bool
all_pass test [] = true
all_pass test (entry ∷ entries) = test entry.0 && all_pass test entries

looked_up : (test : List ℕ → Bool) (entries : List (List ℕ × Bool)) (name : List ℕ) (b : Bool)
    → all_pass test entries ≡ true
    → lookup (bytes_eq name) entries ≡ Some b → test name ≡ true
looked_up test [] name b a e = absurd (none-some b e)
looked_up test (entry ∷ entries) name b a e =
    by_name (looked_up test entries name b (and_parts (test entry.0) (all_pass test entries) a).1)
    (bytes_eq name entry.0) refl e
  where
    by_name : (lookup (bytes_eq name) entries ≡ Some b → test name ≡ true) → (t : Bool) → bytes_eq name entry.0 ≡ t
        → cond t (Some entry.1) (lookup (bytes_eq name) entries) ≡ Some b → test name ≡ true
    by_name more true f e =
        subst (λ n. test n ≡ true) (sym ((bytes_eq-Decides name entry.0).0 f)) (and_parts (test entry.0)
        (all_pass test entries) a).0
    by_name more false f e = more e

-- a name begins with `-` and has no `=`
abbrev begins_with_dash : List ℕ → Bool
begins_with_dash [] = false
begins_with_dash (byte ∷ bytes) = nat_eq byte 45

abbrev has_no_equal : List ℕ → Bool
has_no_equal [] = true
has_no_equal (byte ∷ bytes) = not (nat_eq byte 61) && has_no_equal bytes

pub no_equal : (bytes : List ℕ) → has_no_equal bytes ≡ true → HasNoEqual bytes
no_equal [] h i low = absurd (omega arith)
no_equal (byte ∷ bytes) h zero low = λ e. let first = (and_parts (not (nat_eq byte 61)) (has_no_equal bytes) h).0 in
    grind (arith, e, first)
no_equal (byte ∷ bytes) h (suc i) low = no_equal bytes (and_parts (not (nat_eq byte 61)) (has_no_equal bytes) h).1 i
    (omega arith)

pub name_no_equal : (name : List ℕ) {b : Bool} → takes_value name ≡ Some b → HasNoEqual name
name_no_equal name {b = b} e = no_equal name (looked_up has_no_equal options name b refl e)

pub name_with_dash : (name : List ℕ) {b : Bool} → takes_value name ≡ Some b → (left : List ℕ) × (name ≡ 45 ∷ left)
name_with_dash name {b = b} e = left_of name (looked_up begins_with_dash options name b refl e)
  where
    left_of : (name : List ℕ) → begins_with_dash name ≡ true → (left : List ℕ) × (name ≡ 45 ∷ left)
    left_of [] h = cc
    left_of (byte ∷ bytes) h = let first : byte ≡ 45 = grind (arith, h) in (bytes, ap (λ b. b ∷ bytes) first)

-- no `=` further on
later : (byte : ℕ) (bytes : List ℕ) → HasNoEqual (byte ∷ bytes) → HasNoEqual bytes
later byte bytes h i low = h (suc i) (omega arith)

-- a text is cut at its first `=` in one way
cut : (a b x y : List ℕ) → HasNoEqual a → HasNoEqual b → a ++ 61 ∷ x ≡ b ++ 61 ∷ y → (a ≡ b) × (x ≡ y)
cut [] [] x y h k e = (refl, cc)
cut [] (c ∷ b) x y h k e = let same : c ≡ 61 = cc in absurd (k zero (omega arith) same)
cut (c ∷ a) [] x y h k e = let same : c ≡ 61 = cc in absurd (h zero (omega arith) same)
cut (c ∷ a) (d ∷ b) x y h k e =
    let first : c ≡ d = cc in
    let more = cut a b x y (later c a h) (later d b k) (cc) in
    let front = more.0 in
    (cc, more.1)

uncut : (a b y : List ℕ) → HasNoEqual a → a ≡ b ++ 61 ∷ y → ⊥
uncut [] [] y h e = cc
uncut [] (d ∷ b) y h e = cc
uncut (c ∷ a) [] y h e = let same : c ≡ 61 = cc in h zero (omega arith) same
uncut (c ∷ a) (d ∷ b) y h e = uncut a b y (later c a h) (cc)

-- a word that is a name alone, or a name with a value, is split so
pub split_name : (own word name : List ℕ) (value : Option (List ℕ)) → HasNoEqual own → word ≡ own
    → IsSplit word name value → (name ≡ own) × (value ≡ None)
split_name own word name None h e s = (sym s.0 ∙ e, refl)
split_name own word name (Some value) h e s = absurd (uncut own name value h (sym e ∙ s.0))

pub split_valued : (own word name v : List ℕ) (value : Option (List ℕ)) → HasNoEqual own
    → word ≡ own ++ codes "=" ++ v → IsSplit word name value
    → (name ≡ own) × (value ≡ Some v)
split_valued own word name v None h e s = absurd (uncut name own v s.1 (sym s.0 ∙ (e ∙ append_assoc own (codes "=") v)))
split_valued own word name v (Some value) h e s =
    let same = cut name own value v s.1 h (sym s.0 ∙ (e ∙ append_assoc own (codes "=") v)) in
    (same.0, ap (λ w. Some w) same.1)

-- each word is split
pub some_split : (word : List ℕ) → (name : List ℕ) × (value : Option (List ℕ)) × IsSplit word name value
some_split [] = ([], None, (refl, λ i low. absurd (omega arith)))
some_split (byte ∷ bytes) = by_byte (nat_eq byte 61) refl (some_split bytes)
  where
    one_more : (name : List ℕ) → nat_eq byte 61 ≡ false → HasNoEqual name → HasNoEqual (byte ∷ name)
    one_more name other h zero low = λ e. grind (arith, e, other)
    one_more name other h (suc i) low = h i (omega arith)

    with_byte : (value : Option (List ℕ)) (name : List ℕ) → nat_eq byte 61 ≡ false → IsSplit bytes name value
        → IsSplit (byte ∷ bytes) (byte ∷ name) value
    with_byte None name other s = (ap (λ l. byte ∷ l) s.0, one_more name other s.1)
    with_byte (Some value) name other s = (ap (λ l. byte ∷ l) s.0, one_more name other s.1)

    by_byte : (t : Bool) → nat_eq byte 61 ≡ t → (name : List ℕ) × (value : Option (List ℕ)) × IsSplit bytes name value
        → (name : List ℕ) × (value : Option (List ℕ)) × IsSplit (byte ∷ bytes) name value
    by_byte true e s = let same : byte ≡ 61 = grind (arith, e) in (
      [],
      Some bytes,
      (
        ap
            (λ b. b ∷ bytes) same,
        λ i low. absurd (omega arith),
      ),
    )
    by_byte false e s = (byte ∷ s.0, s.1, with_byte s.1 s.0 e s.2)

-- a name is no name with a value
not_both : (name word value : List ℕ) → word ≡ name → word ≡ name ++ codes "=" ++ value → ⊥
not_both name word value e f =
    let same = ap (λ (t : List ℕ). length t) (sym e ∙ f) in
    omega (arith, same, length-append (name ++ codes "=") value, length-append name (codes "="))

same_value : (name word v w : List ℕ) → word ≡ name ++ codes "=" ++ v → word ≡ name ++ codes "=" ++ w → v ≡ w
same_value name word v w e f = append_cancel_left (name ++ codes "=") v w (sym e ∙ f)

-- an option has one value, and one rest
pub one_value : {name v w : List ℕ} {words r s : List (List ℕ)} → IsOption name words v r → IsOption name words w s
    → (v ≡ w) × (r ≡ s)
one_value (apart e) (apart f) = (refl, refl)
one_value (apart e) (joined f) = absurd (not_both _ _ _ e f)
one_value (joined e) (apart f) = absurd (not_both _ _ _ f e)
one_value (joined e) (joined f) = (same_value _ _ _ _ e f, refl)
