-- Loaded records as the entries of a map.
use Rattle.std.proofs.Common.{◌≡◌, inl, inr, ℕ, ◌+◌, List, [], ◌∷◌, map, position, Vec, Global, Some, None, Result, Ok}
use Rattle.std.proofs.Common.{Err, length, true, false, ◌||◌, ◌++◌, refl, sym, ap, ◌∙◌, subst, true≢false}
use Rattle.std.proofs.Common.{if◌then◌else◌}
use Rattle.std.proofs.lemmas.Bool.{cases_Bool}
use Rattle.indexmap.specs.IndexMap.{insert_entry}
use Rattle.std.specs.Prelude.{slice_get, option_map, OnOk}
use Rattle.std.specs.List.{position_from}
use Rattle.std.specs.Map.{keys_of}
use Rattle.std.specs.Str.{bytes_eq}
use Rattle.std.proofs.lemmas.Iterator.Adapters.{position_from-zero}
use Rattle.std.proofs.lemmas.Option.{slice_get-map, slice_get_within, get_or_from_slice_get}
use Rattle.std.specs.List.{All}
use Rattle.mw_store.specs.Entries.{record_in}
use Rattle.mw_store.specs.Records.{Kept, record_bytes, IsWhole}
use Rattle.mw_store.specs.Loading.{TakesFound}
use Rattle.std.proofs.lemmas.List.{map-append}
use Rattle.mw_wasm.specs.Profile.{IsWithinFileLimit}
use Rattle.mw_store.specs.Loads.{LoadState, Loaded, IsLoaded, kept_of, is_among, with_record}
use Rattle.mw_store.specs.declared.loaded.LoadedModule.{LoadedModule}

-- a record is at its entry's place
pub at_place : (es : List (Vec ℕ Global × LoadedModule)) (at : ℕ) (e : Vec ℕ Global × LoadedModule)
    → Some e ≡ slice_get es at
    → slice_get (map record_in es) at ≡ Some (record_in e)
at_place es at e here = slice_get-map record_in es at ∙ ap (λ found. option_map record_in found) (sym here)

same_from : (i : ℕ) (t : List ℕ) (es : List (Vec ℕ Global × LoadedModule))
    → position_from (λ k. bytes_eq t k.items) i (keys_of es) ≡ position_from (λ l. bytes_eq t l.text) i
    (map record_in es)
same_from i t [] = refl
same_from i t (e ∷ es) = ap (λ rest. if bytes_eq t e.0.items then Some i else rest) (same_from (i + 1) t es)

-- a text is at the place of its key
pub same_place : (t : List ℕ) (es : List (Vec ℕ Global × LoadedModule))
    → position (λ k. bytes_eq t k.items) (keys_of es) ≡ position (λ l. bytes_eq t l.text) (map record_in es)
same_place t es = position_from-zero (λ k. bytes_eq t k.items) (keys_of es) ∙ same_from 0 t es
    ∙ sym (position_from-zero (λ l. bytes_eq t l.text) (map record_in es))

some_none : {X : Type 0} (x : X) → Some x ≡ None → ⊥
some_none x h = absurd (cc h)

-- a text without a place is among no records, and one with a place is among them
nowhere_from : (i : ℕ) (t : List ℕ) (ls : List Loaded) → position_from (λ l. bytes_eq t l.text) i ls ≡ None
    → is_among t (map kept_of ls) ≡ false
nowhere_from i t [] h = refl
nowhere_from i t (l ∷ ls) h = elim (cases_Bool (bytes_eq t l.text)) [
  | inl same ↦ absurd
      (some_none i (sym (ap (λ b. if b then Some i else position_from (λ x. bytes_eq t x.text) (i + 1) ls) same) ∙ h))
  | inr other ↦
      let later : position_from (λ x. bytes_eq t x.text) (i + 1) ls ≡ None =
      sym (ap (λ b. if b then Some i else position_from (λ x. bytes_eq t x.text) (i + 1) ls) other) ∙ h in
      ap (λ b. b || is_among t (map kept_of ls)) other ∙ nowhere_from (i + 1) t ls later
]

somewhere_from : (i at : ℕ) (t : List ℕ) (ls : List Loaded) → position_from (λ l. bytes_eq t l.text) i ls ≡ Some at
    → is_among t (map kept_of ls) ≡ true
somewhere_from i at t [] h = absurd (some_none at (sym h))
somewhere_from i at t (l ∷ ls) h = elim (cases_Bool (bytes_eq t l.text)) [
  | inl same ↦ ap (λ b. b || is_among t (map kept_of ls)) same
  | inr other ↦
      let later : position_from (λ x. bytes_eq t x.text) (i + 1) ls ≡ Some at =
      sym (ap (λ b. if b then Some i else position_from (λ x. bytes_eq t x.text) (i + 1) ls) other) ∙ h in
      ap (λ b. b || is_among t (map kept_of ls)) other ∙ somewhere_from (i + 1) at t ls later
]

pub nowhere : (t : List ℕ) (ls : List Loaded) → position (λ l. bytes_eq t l.text) ls ≡ None → is_among t
    (map kept_of ls) ≡ false
nowhere t ls h = nowhere_from 0 t ls (sym (position_from-zero (λ l. bytes_eq t l.text) ls) ∙ h)

pub somewhere : (at : ℕ) (t : List ℕ) (ls : List Loaded) → position (λ l. bytes_eq t l.text) ls ≡ Some at → is_among t
    (map kept_of ls) ≡ true
somewhere at t ls h = somewhere_from 0 at t ls (sym (position_from-zero (λ l. bytes_eq t l.text) ls) ∙ h)

-- a record of a new text goes last, and else the records stay
pub with_new : (ls : List Loaded) (r : Kept) → position (λ l. bytes_eq r.text l.text) ls ≡ None → with_record
    (map kept_of ls) r ≡ map kept_of ls ++ r ∷ []
with_new ls r h = ap (λ b. if b then map kept_of ls else map kept_of ls ++ r ∷ []) (nowhere r.text ls h)

pub with_old : (at : ℕ) (ls : List Loaded) (r : Kept) → position (λ l. bytes_eq r.text l.text) ls ≡ Some at
    → with_record (map kept_of ls) r ≡ map kept_of ls
with_old at ls r h = ap (λ b. if b then map kept_of ls else map kept_of ls ++ r ∷ []) (somewhere at r.text ls h)

-- a new key goes last
insert_last : (k : Vec ℕ Global) (v : LoadedModule) (es : List (Vec ℕ Global × LoadedModule)) → is_among k.items
    (map kept_of (map record_in es)) ≡ false
    → insert_entry (λ x y. bytes_eq x.items y.items) es k v ≡ es ++ (k, v) ∷ []
insert_last k v [] h = refl
insert_last k v (e ∷ es) h = elim (cases_Bool (bytes_eq k.items e.0.items)) [
  | inl same ↦ absurd (true≢false (sym (ap (λ b. b || is_among k.items (map kept_of (map record_in es))) same) ∙ h))
  | inr other ↦
      let later : is_among k.items (map kept_of (map record_in es)) ≡ false = sym
      (ap (λ b. b || is_among k.items (map kept_of (map record_in es))) other) ∙ h in
      ap (λ b. if b then (e.0, v) ∷ es else e ∷ insert_entry (λ x y. bytes_eq x.items y.items) es k v) other ∙ ap
      (λ xs. e ∷ xs) (insert_last k v es later)
]

pub inserted : (k : Vec ℕ Global) (v : LoadedModule) (es : List (Vec ℕ Global × LoadedModule))
    → position (λ l. bytes_eq k.items l.text) (map record_in es) ≡ None
    → insert_entry (λ x y. bytes_eq x.items y.items) es k v ≡ es ++ (k, v) ∷ []
inserted k v es h = insert_last k v es (nowhere k.items (map record_in es) h)

-- the entries after a new text
pub inserted_as : (k : Vec ℕ Global) (v : LoadedModule) (es : List (Vec ℕ Global × LoadedModule)) (rs : List Loaded)
    (text : List ℕ) → k.items ≡ text
    → map record_in es ≡ rs → position (λ l. bytes_eq text l.text) rs ≡ None
    → insert_entry (λ x y. bytes_eq x.items y.items) es k v ≡ es ++ (k, v) ∷ []
inserted_as k v es rs text is are h =
    inserted k v es
    (ap (λ ls. position (λ l. bytes_eq k.items l.text) ls) are ∙ ap (λ t. position (λ l. bytes_eq t l.text) rs) is
    ∙ h)

pub one_more : (es : List (Vec ℕ Global × LoadedModule)) (e : Vec ℕ Global × LoadedModule) (rs : List Loaded)
    (r : Kept) → map record_in es ≡ rs
    → kept_of (record_in e) ≡ r → map kept_of (map record_in (es ++ e ∷ [])) ≡ map kept_of rs ++ r ∷ []
one_more es e rs r are is =
    ap (λ ls. map kept_of ls) (map-append record_in es (e ∷ [])) ∙ map-append kept_of (map record_in es)
    (record_in e ∷ [])
    ∙ ap (λ ls. map kept_of ls ++ kept_of (record_in e) ∷ []) are ∙ ap (λ k. map kept_of rs ++ k ∷ []) is

pub loaded_is : (l : Loaded) (text bytes : List ℕ) → l.text ≡ text → l.bytes ≡ bytes
    → IsWhole (record { text = text; bytes = bytes }) → IsWithinFileLimit bytes → IsLoaded l
loaded_is l text bytes t b whole within = record {
  whole = subst (λ r. IsWhole r) (λ i. record { text = sym t i; bytes = sym b i }) whole;
  within = subst (λ bs. IsWithinFileLimit bs) (sym b) within;
}

-- each entry's record is loaded
pub loaded_at : (es : List (Vec ℕ Global × LoadedModule)) (at : ℕ) (e : Vec ℕ Global × LoadedModule)
    → All (λ x. IsLoaded (record_in x)) es → Some e ≡ slice_get es at → IsLoaded (record_in e)
loaded_at es at e all here =
    subst (λ x. IsLoaded (record_in x)) (get_or_from_slice_get es at e e (sym here))
    (all at e (slice_get_within es at e (sym here)))

-- a record of an old text is counted, and one of a new text is kept as well
pub takes_old : (old new : LoadState) (r : Kept) (at : ℕ) → new.good ≡ old.good + length (record_bytes r)
    → new.records ≡ old.records
    → Some at ≡ position (λ l. bytes_eq r.text l.text) new.records → TakesFound r old new
takes_old old new r at good same there = record {
  good_is = good;
  records_are = sym (with_old at new.records r (sym there)) ∙ ap (λ ls. with_record (map kept_of ls) r) same;
}

pub takes_new : {E : Type 0} (result : Result (Unit {0}) E) (old new : LoadState) (between : List Loaded) (r : Kept)
    → new.good ≡ old.good + length (record_bytes r) → between ≡ old.records → None ≡ position
    (λ l. bytes_eq r.text l.text) between
    → OnOk result (map kept_of new.records ≡ map kept_of between ++ r ∷ []) → OnOk result (TakesFound r old new)
takes_new (Err e) old new between r good same none records = tt
takes_new (Ok u) old new between r good same none records = record {
  good_is = good;
  records_are = records ∙ sym (with_new between r (sym none)) ∙ ap (λ ls. with_record (map kept_of ls) r) same;
}
