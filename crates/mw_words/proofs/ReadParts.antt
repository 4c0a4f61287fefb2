-- Parts that have been read, and those that are left.
use Rattle.std.proofs.Common.{◌≡◌, ℕ, List, [], ◌∷◌, ◌++◌, refl, sym, ◌∙◌, ap, subst}
use Rattle.mw_words.specs.Words.{PurePart, Begins, AreParts, no_part, one_more}
use Rattle.mw_words.proofs.PartLemmas.{one_part, nothing_begins}

-- the words are the parts, and then the rest
pub data Passes : List (List ℕ) → List PurePart → List (List ℕ) → Type 0 where
  here : {words : List (List ℕ)} → Passes words [] words
  further : {words rest last : List (List ℕ)} {part : PurePart} {parts : List PurePart} → Begins words part rest
      → Passes rest parts last
      → Passes words (part ∷ parts) last

-- one part more
pub passes_more : {words rest last : List (List ℕ)} {part : PurePart} {parts : List PurePart}
    → Passes words parts rest → Begins rest part last
    → Passes words (parts ++ part ∷ []) last
passes_more here b = further b here
passes_more (further f h) b = further f (passes_more h b)

-- all parts
pub passes_all : {words : List (List ℕ)} {parts : List PurePart} → Passes words parts [] → AreParts words parts
passes_all here = no_part
passes_all (further f h) = one_more f (passes_all h)

-- all parts of the words begin with those that were read
pub parts_left : {words rest : List (List ℕ)} {read all : List PurePart} → Passes words read rest → AreParts words all
    → (later : List PurePart) × (AreParts rest later × (all ≡ read ++ later))
parts_left {all = all} here whole = (all, (whole, refl))
parts_left (further f h) no_part = absurd (nothing_begins f)
parts_left (further f h) (one_more {parts = all} g whole) =
    let same = one_part f g in
    let left = parts_left h (subst (λ (r : List (List ℕ)). AreParts r all) (sym same.1) whole) in
    let begins = same.0 in
    let others = left.1.1 in
    (left.0, (left.1.0, cc))

-- words are one list of parts at most
pub same_parts : {words : List (List ℕ)} {ps qs : List PurePart} → AreParts words ps → AreParts words qs → ps ≡ qs
same_parts no_part no_part = refl
same_parts no_part (one_more b h) = absurd (nothing_begins b)
same_parts (one_more b h) no_part = absurd (nothing_begins b)
same_parts (one_more b h) (one_more {parts = qs} c k) =
    let same = one_part b c in
    let first = same.0 in
    let later = same_parts h (subst (λ (r : List (List ℕ)). AreParts r qs) (sym same.1) k) in
    cc

-- words that begin with no part are no parts
stuck : {words : List (List ℕ)} {parts : List PurePart} → (words ≡ [] → ⊥)
    → ((part : PurePart) (rest : List (List ℕ)) → Begins words part rest → ⊥)
    → AreParts words parts → ⊥
stuck some none no_part = some refl
stuck some none (one_more b h) = none _ _ b

-- all parts of the words begin with the one that stands first
first_is : {words rest : List (List ℕ)} {part : PurePart} {parts : List PurePart} → AreParts words parts
    → Begins words part rest
    → (later : List PurePart) × (parts ≡ part ∷ later)
first_is no_part b = absurd (nothing_begins b)
first_is (one_more {parts = later} c h) b = let same = (one_part c b).0 in (later, cc)

-- where the rest begins with no part, the words are no parts
pub stuck_is_none : {words rest : List (List ℕ)} {read : List PurePart} → Passes words read rest → (rest ≡ [] → ⊥)
    → ((part : PurePart) (after : List (List ℕ)) → Begins rest part after → ⊥)
    → (parts : List PurePart) → AreParts words parts → ⊥
stuck_is_none h some none parts whole = stuck some none (parts_left h whole).1.0

-- where the rest begins with a part, all parts of the words go on with it
pub next_is : {words rest after : List (List ℕ)} {read : List PurePart} {part : PurePart} → Passes words read rest
    → Begins rest part after
    → (parts : List PurePart) → AreParts words parts → (later : List PurePart) × (parts ≡ read ++ part ∷ later)
next_is {read = read} h b parts whole =
    let left = parts_left h whole in
    let next = first_is left.1.0 b in
    (next.0, left.1.1 ∙ ap (λ l. read ++ l) next.1)
