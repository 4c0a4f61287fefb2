-- The part that stands first among the words.
use Rattle.std.proofs.Common.{◌≡◌, ◌⊎◌, inl, inr, ℕ, ◌<◌, Bool, true, false, List, [], ◌∷◌, ◌++◌, Option, Some, None}
use Rattle.std.proofs.Common.{length, map, codes, refl, sym, ◌∙◌, ap, subst, append_assoc, arith}
use Rattle.std.proofs.lemmas.List.{length-map}
use Rattle.std.proofs.lemmas.Option.{none-some, same_Some}
use Rattle.mw_words.specs.Words.{apart, joined, IsNumber, IsFileWord, PurePart, option, file, takes_value}
use Rattle.mw_words.specs.Words.{Begins, valued, alone, filed}
use Rattle.mw_words.specs.Gathered.{IsSplit, option_of_kind, option_part}
use Rattle.mw_words.proofs.OptionLemmas.{name_no_equal, name_with_dash, split_name, split_valued, some_split}

pub same_number : {most m n : ℕ} {v w : List ℕ} → v ≡ w → IsNumber most v m → IsNumber most w n → m ≡ n
same_number e h k = let p = h.value in let q = k.value in cc

-- a word that begins with `-` names no file
pub no_file : (word rest : List ℕ) → word ≡ 45 ∷ rest → IsFileWord word → ⊥
no_file [] rest e h = h
no_file (b ∷ bytes) rest e h = let same : b ≡ 45 = cc in h same

name_no_file : (word name : List ℕ) {b : Bool} → takes_value name ≡ Some b → word ≡ name → IsFileWord word → ⊥
name_no_file word name t e h = let left = name_with_dash name t in no_file word left.0 (e ∙ left.1) h

valued_no_file : (word name v : List ℕ) {b : Bool} → takes_value name ≡ Some b → word ≡ name ++ codes "=" ++ v
    → IsFileWord word → ⊥
valued_no_file word name v t e h =
    let left = name_with_dash name t in
    no_file word (left.0 ++ codes "=" ++ v) (e ∙ ap (λ n. n ++ codes "=" ++ v) left.1) h

-- what an option that stands first is read as
read_as : (name own : List ℕ) (value other : Option (List ℕ)) (kind : Bool) (rest : List (List ℕ))
    → takes_value own ≡ Some kind
    → name ≡ own → value ≡ other → option_part name value rest ≡ option_of_kind (Some kind) own other rest
read_as name own value other kind rest t e f = rw (e, f, t) refl

-- the words begin with a file, or with what the option of the first word is read as
abbrev IsRead : List ℕ → List ℕ → Option (List ℕ) → List (List ℕ) → PurePart → List (List ℕ) → Type 0
IsRead word name value rest part after = (IsFileWord word × ((part ≡ file word) × (after ≡ rest)))
    ⊎ ((IsFileWord word → ⊥) × (option_part name value rest ≡ Some (part, after)))

first_read : (word name : List ℕ) (value : Option (List ℕ)) (rest after : List (List ℕ)) (part : PurePart)
    → IsSplit word name value → Begins (word ∷ rest) part after
    → IsRead word name value rest part after
first_read word name value rest after part s (valued {name = own} t (apart e)) =
    let same = split_name own word name value (name_no_equal own t) e s in
    inr (name_no_file word own t e, read_as name own value None true rest t same.0 same.1)
first_read word name value rest after part s (valued {name = own} {value = v} t (joined e)) =
    let same = split_valued own word name v value (name_no_equal own t) e s in
    inr (valued_no_file word own v t e, read_as name own value (Some v) true rest t same.0 same.1)
first_read word name value rest after part s (alone t) =
    let same = split_name word word name value (name_no_equal word t) refl s in
    inr (name_no_file word word t refl, read_as name word value None false rest t same.0 same.1)
first_read word name value rest after part s (filed h) = inl (h, (refl, refl))

-- the words begin with one part at most
both_read : (word : List ℕ) (p q : PurePart) (rest r s : List (List ℕ)) (o : Option (PurePart × List (List ℕ)))
    → (IsFileWord word × ((p ≡ file word) × (r ≡ rest))) ⊎ ((IsFileWord word → ⊥) × (o ≡ Some (p, r)))
    → (IsFileWord word × ((q ≡ file word) × (s ≡ rest))) ⊎ ((IsFileWord word → ⊥) × (o ≡ Some (q, s)))
    → (p ≡ q) × (r ≡ s)
both_read word p q rest r s o (inl f) (inl g) = (f.1.0 ∙ sym g.1.0, f.1.1 ∙ sym g.1.1)
both_read word p q rest r s o (inl f) (inr g) = absurd (g.0 f.0)
both_read word p q rest r s o (inr f) (inl g) = absurd (f.0 g.0)
both_read word p q rest r s o (inr f) (inr g) = let same = same_Some (p, r) (q, s) (sym f.1 ∙ g.1) in (
  ap
      (λ x. x.0) same,
  ap (λ x. x.1) same,
)

one_first : {word : List ℕ} {p q : PurePart} {rest r s : List (List ℕ)} → Begins (word ∷ rest) p r
    → Begins (word ∷ rest) q s → (p ≡ q) × (r ≡ s)
one_first {word = word} {p = p} {q = q} {rest = rest} {r = r} {s = s} b c =
    let split = some_split word in
    both_read word p q rest r s (option_part split.0 split.1 rest) (first_read word split.0 split.1 rest r p split.2 b)
    (first_read word split.0 split.1 rest s q split.2 c)

-- no words, no part
pub nothing_begins : {rest : List (List ℕ)} {part : PurePart} → Begins [] part rest → ⊥
nothing_begins (valued t o) = elim o [ ]

pub one_part : {words r s : List (List ℕ)} {p q : PurePart} → Begins words p r → Begins words q s → (p ≡ q) × (r ≡ s)
one_part {words = []} b c = absurd (nothing_begins b)
one_part {words = word ∷ rest} b c = one_first b c

-- fewer words follow a part
fewer : {words r : List (List ℕ)} {p : PurePart} → Begins words p r → length r < length words
fewer (valued t (apart e)) = omega arith
fewer (valued t (joined e)) = omega arith
fewer (alone t) = omega arith
fewer (filed h) = omega arith

-- fewer items of a list of which these are the texts
pub fewer_items : {A : Type 0} (text : A → List ℕ) (xs ys : List A) {p : PurePart}
    → Begins (map text xs) p (map text ys) → length ys < length xs
fewer_items text xs ys b = omega (arith, fewer b, length-map xs text, length-map ys text)

-- what an option is read as stands first
option_first : (kind : Option Bool) (word name : List ℕ) (value : Option (List ℕ)) (rest after : List (List ℕ))
    (part : PurePart) → takes_value name ≡ kind → IsSplit word name value
    → option_of_kind kind name value rest ≡ Some (part, after)
    → Begins (word ∷ rest) part after
option_first (Some true) word name (Some value) rest after part t s e =
    let same = same_Some _ _ e in
    let spelt = s.0 ∙ sym (append_assoc name (codes "=") value) in
    subst (λ (x : PurePart × List (List ℕ)). Begins (word ∷ rest) x.0 x.1) same (valued t (joined spelt))
option_first (Some true) word name None [] after part t s e = absurd (none-some _ e)
option_first (Some true) word name None (value ∷ rest) after part t s e =
    let same = same_Some _ _ e in
    subst (λ (x : PurePart × List (List ℕ)). Begins (word ∷ value ∷ rest) x.0 x.1) same (valued t (apart s.0))
option_first (Some false) word name None rest after part t s e =
    let same = same_Some _ _ e in
    let first = subst (λ w. Begins (w ∷ rest) (option name None) rest) (sym s.0) (alone t) in
    subst (λ (x : PurePart × List (List ℕ)). Begins (word ∷ rest) x.0 x.1) same first
option_first (Some false) word name (Some value) rest after part t s e = absurd (none-some _ e)
option_first None word name value rest after part t s e = absurd (none-some _ e)

-- words of which the first is split
pub option_begins : (words rest after : List (List ℕ)) (word name : List ℕ) (value : Option (List ℕ)) (part : PurePart)
    → words ≡ word ∷ rest → IsSplit word name value → option_part name value rest ≡ Some (part, after)
    → Begins words part after
option_begins words rest after word name value part e s o = rw e (option_first
    (takes_value name) word name value rest after part refl s o)

pub no_option_begins : (words rest : List (List ℕ)) (word name : List ℕ) (value : Option (List ℕ))
    → words ≡ word ∷ rest → (IsFileWord word → ⊥)
    → IsSplit word name value → option_part name value rest ≡ None → (part : PurePart) (after : List (List ℕ))
    → Begins words part after → ⊥
no_option_begins words rest word name value e other s none part after b = by_read
    (first_read word name value rest after part s (rw e at b))
  where
    by_read : IsRead word name value rest part after → ⊥
    by_read (inl f) = other f.0
    by_read (inr f) = none-some _ (sym none ∙ f.1)
