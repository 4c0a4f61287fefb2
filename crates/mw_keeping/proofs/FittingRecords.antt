-- Records for which there is room, and the first for which there is none.
use Rattle.std.proofs.Common.{◌≡◌, ◌⊎◌, inl, inr, ℕ, zero, suc, ◌+◌, ◌-◌, ◌<◌, ◌≤◌, List, [], ◌∷◌, ◌++◌, length, map}
use Rattle.std.proofs.Common.{Bool, if◌then◌else◌, Contains, true≢false, refl, sym, ap, subst, ◌∙◌, arith}
use Rattle.std.proofs.Common.{le-ltb, lt-ltb}
use Rattle.std.specs.Cmp.Lexicographic.{slice_cmp}
use Rattle.std.specs.Ordering.{nat_cmp, is_eq, is_lt}
use Rattle.std.specs.declared.cmp.Ordering.TheVariants.{Less, Greater}
use Rattle.std.specs.List.{AllByRecursion}
use Rattle.std.specs.List.Sorted.{IsStrictlySortedBy}
use Rattle.std.proofs.lemmas.Bool.{cases_lt}
use Rattle.std.proofs.lemmas.List.{length-append}
use Rattle.std.proofs.lemmas.Map.Text.{is_eq-slice_cmp}
use Rattle.std.proofs.lemmas.Slice.Eq.{bytes_eq-Decides}
use Rattle.mw_store.specs.Records.{Kept, record_bytes, file_of}
use Rattle.mw_keeping.specs.KeptFiles.{fitting}

abbrev texts : List Kept → List (List ℕ)
texts ks = map (λ (k : Kept). k.text) ks

abbrev size : Kept → ℕ
size k = length (record_bytes k)

module _ (room : ℕ) (k : Kept) (ks : List Kept) where
  abbrev by_test : Bool → List Kept
  by_test full = if full then [] else k ∷ fitting (room - size k) ks

  pub fitting_more : size k ≤ room → fitting room (k ∷ ks) ≡ k ∷ fitting (room - size k) ks
  fitting_more enough = ap by_test (le-ltb room (size k) enough)

  pub fitting_none : room < size k → fitting room (k ∷ ks) ≡ []
  fitting_none full = ap by_test (lt-ltb room (size k) full)

file_longer : (k : Kept) (ks : List Kept) → length (file_of (k ∷ ks)) ≡ size k + length (file_of ks)
file_longer k ks = length-append (record_bytes k) (file_of ks)

-- they take no more than the room
pub fits : (room : ℕ) (ks : List Kept) → length (file_of (fitting room ks)) ≤ room
fits room [] = omega arith
fits room (k ∷ ks) = elim (cases_lt room (size k)) [
  | inl full ↦ rw (fitting_none room k ks full) (omega arith)
  | inr enough ↦
      let rest = fitting (room - size k) ks in
      let both = file_longer k rest in
      let less = fits (room - size k) ks in
      rw (fitting_more room k ks enough) (omega (arith, both, less, enough))
]

-- what holds of all holds of those that fit
all_fitting : (P : List ℕ → Type 0) (room : ℕ) (ks : List Kept) → AllByRecursion P (texts ks)
    → AllByRecursion P (texts (fitting room ks))
all_fitting P room [] all = tt
all_fitting P room (k ∷ ks) all = elim (cases_lt room (size k)) [
  | inl full ↦ rw (fitting_none room k ks full) tt
  | inr enough ↦ rw (fitting_more room k ks enough) (all.0, all_fitting P (room - size k) ks all.1)
]

pub fitting_rise : (room : ℕ) (ks : List Kept) → IsStrictlySortedBy (slice_cmp nat_cmp) (texts ks)
    → IsStrictlySortedBy (slice_cmp nat_cmp) (texts (fitting room ks))
unfolding IsStrictlySortedBy
fitting_rise room [] rise = tt
fitting_rise room (k ∷ ks) rise = elim (cases_lt room (size k)) [
  | inl full ↦ rw (fitting_none room k ks full) tt
  | inr enough ↦
      rw (fitting_more room k ks enough) (
        all_fitting (λ t. slice_cmp nat_cmp k.text t ≡ Less) (room - size k) ks rise.0,
        fitting_rise (room - size k) ks rise.1,
      )
]

contains_later : {X : Type 0} (x y : X) (xs : List X) → Contains xs y → Contains (x ∷ xs) y
contains_later x y xs (n, less, is) = (suc n, omega (arith, less), is)

contains_first : {X : Type 0} (x : X) (xs : List X) → Contains (x ∷ xs) x
contains_first x xs = (zero, omega arith, refl)

contains_case : {X : Type 0} (x y : X) (xs : List X) → Contains (x ∷ xs) y → (x ≡ y) ⊎ Contains xs y
contains_case x y xs (zero, less, is) = inl is
contains_case x y xs (suc n, less, is) = inr (n, omega (arith, less), is)

contains_none : {X : Type 0} (x : X) → Contains [] x → ⊥
contains_none x h = let less = h.1 in absurd (omega (arith, less))

-- they are among all
pub fitting_among : (room : ℕ) (ks : List Kept) (j : Kept) → Contains (fitting room ks) j → Contains ks j
fitting_among room [] j h = h
fitting_among room (k ∷ ks) j h = elim (cases_lt room (size k)) [
  | inl full ↦ absurd (contains_none j (subst (λ js. Contains js j) (fitting_none room k ks full) h))
  | inr enough ↦
      elim (contains_case k j (fitting (room - size k) ks)
      (subst (λ js. Contains js j) (fitting_more room k ks enough) h)) [
        | inl is ↦ (zero, omega arith, is)
        | inr later ↦ contains_later k j ks (fitting_among (room - size k) ks j later)
      ]
]

-- The first for which there is no room: its text isn't above that of any that doesn't fit.
pub record HasNext (room : ℕ) (ks : List Kept) : Type 0 where
  pub next : Kept
  pub among : Contains ks next
  pub above : (j : Kept) → Contains (fitting room ks) j → slice_cmp nat_cmp j.text next.text ≡ Less
  pub least : (text : List ℕ) → Contains (texts ks) text
      → Contains (texts (fitting room ks)) text ⊎ (slice_cmp nat_cmp next.text text ≡ Greater → ⊥)
  pub past : room < length (file_of (fitting room ks ++ next ∷ []))

not_above : (t : List ℕ) → slice_cmp nat_cmp t t ≡ Greater → ⊥
not_above t e =
    true≢false (sym ((bytes_eq-Decides t t).1 refl) ∙ (sym (is_eq-slice_cmp t t) ∙ ap is_eq e))

text_below : (t : List ℕ) (P : List ℕ → Type 0) (ks : List Kept) → AllByRecursion P (texts ks) → Contains (texts ks) t
    → P t
text_below t P [] all h = absurd (contains_none t h)
text_below t P (k ∷ ks) all (zero, less, is) = subst P is all.0
text_below t P (k ∷ ks) all (suc n, less, is) = text_below t P ks all.1 (n, omega (arith, less), is)

kept_below : (P : List ℕ → Type 0) (ks : List Kept) (j : Kept) → AllByRecursion P (texts ks) → Contains ks j → P j.text
kept_below P [] j all h = absurd (contains_none j h)
kept_below P (k ∷ ks) j all (zero, less, is) = subst (λ (i : Kept). P i.text) is all.0
kept_below P (k ∷ ks) j all (suc n, less, is) = kept_below P ks j all.1 (n, omega (arith, less), is)

less_not_above : (a b : List ℕ) → slice_cmp nat_cmp a b ≡ Less → slice_cmp nat_cmp a b ≡ Greater → ⊥
less_not_above a b e f = absurd (true≢false (ap is_lt (sym e ∙ f)))

-- all of them fit, or one is the first for which there is no room
pub all_or_next : (room : ℕ) (ks : List Kept) → IsStrictlySortedBy (slice_cmp nat_cmp) (texts ks)
    → (fitting room ks ≡ ks) ⊎ HasNext room ks
unfolding IsStrictlySortedBy
all_or_next room [] rise = inl refl
all_or_next room (k ∷ ks) rise = elim (cases_lt room (size k)) [
  | inl full ↦
      let none = fitting_none room k ks full in
      let one : length (file_of (fitting room (k ∷ ks) ++ k ∷ [])) ≡ size k =
      rw none (length-append (record_bytes k) [] ∙ omega arith) in
      inr record {
        next = k;
        among = contains_first k ks;
        above = λ j in_none. absurd (contains_none j (subst (λ js. Contains js j) none in_none));
        least = λ text h.
            elim (contains_case k.text text (texts ks) h) [
              | inl is ↦ inr (subst (λ t. slice_cmp nat_cmp k.text t ≡ Greater → ⊥) is (not_above k.text))
              | inr later ↦
                  inr (less_not_above k.text text
                  (text_below text (λ t. slice_cmp nat_cmp k.text t ≡ Less) ks rise.0 later))
            ];
        past = omega (arith, one, full);
      }
  | inr enough ↦
      let more = fitting_more room k ks enough in
      let rest = fitting (room - size k) ks in
      elim (all_or_next (room - size k) ks rise.1) [
        | inl all ↦ inl (more ∙ ap (λ js. k ∷ js) all)
        | inr n ↦
            let size_is = file_longer k (rest ++ n.next ∷ []) in
            let past = n.past in
            inr record {
              next = n.next;
              among = contains_later k n.next ks n.among;
              above = λ j inside.
                  elim (contains_case k j rest (subst (λ js. Contains js j) more inside)) [
                    | inl is ↦
                        subst (λ (i : Kept). slice_cmp nat_cmp i.text n.next.text ≡ Less) is
                        (kept_below (λ t. slice_cmp nat_cmp k.text t ≡ Less) ks n.next rise.0 n.among)
                    | inr below ↦ n.above j below
                  ];
              least = λ text h.
                  elim (contains_case k.text text (texts ks) h) [
                    | inl is ↦ inl (subst (λ js. Contains (texts js) text) (sym more) (zero, omega arith, is))
                    | inr later ↦
                        elim (n.least text later) [
                          | inl kept ↦
                              inl (subst (λ js. Contains (texts js) text) (sym more)
                              (contains_later k.text text (texts rest) kept))
                          | inr up ↦ inr up
                        ]
                  ];
              past =
                  subst (λ js. room < length (file_of (js ++ n.next ∷ []))) (sym more)
                  (omega (arith, size_is, past, enough));
            }
      ]
]
