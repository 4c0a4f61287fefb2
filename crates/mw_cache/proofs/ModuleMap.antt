-- Modules are gathered in a map, one of each text.
use Rattle.std.proofs.Common.{◌≡◌, ◌⊎◌, inl, inr, ℕ, zero, suc, ◌+◌, ◌<◌, ◌^◌, List, [], ◌∷◌, ◌++◌, length, map, take}
use Rattle.std.proofs.Common.{get_or, refl, sym, ap, ◌∙◌, subst, arith}
use Rattle.std.specs.Prelude.{Contains, Result, Ok, Err, IfOk}
use Rattle.std.specs.List.{AllByRecursion}
use Rattle.std.specs.List.Sorted.{IsStrictlySortedBy}
use Rattle.std.specs.Ordering.{nat_cmp, match_ordering}
use Rattle.std.specs.Cmp.Lexicographic.{slice_cmp}
use Rattle.std.specs.declared.cmp.Ordering.{Ordering}
use Rattle.std.specs.declared.cmp.Ordering.TheVariants.{Less, Equal, Greater}
use Rattle.std.specs.BTreeMap.{insert_entry}
use Rattle.std.specs.Map.{keys_of}
use Rattle.std.proofs.lemmas.List.{take_more, map-append}
use Rattle.std.proofs.lemmas.List.Elements.{All-contains, All-from_recursion, Contains-append_left, Contains-push}
use Rattle.std.proofs.lemmas.List.Elements.{Contains-push_cases}
use Rattle.std.proofs.lemmas.Map.Lookups.{exact_bytes}
use denote.Ref.{Bor}
use Rattle.mw_key.proofs.Lengths.{short_text}
use Rattle.mw_store.specs.Records.{Kept, record_bytes}
use Rattle.mw_store.specs.Loads.{LoadState}
use Rattle.mw_compile.specs.Emission.{IsEmissionOf}
use Rattle.mw_compile.proofs.EmittedEntries.{each_emission}
use Rattle.mw_cache.specs.Gots.{IsLoadedText}
use Rattle.mw_cache.specs.Keeping.{AreToKeep, AreRecordsOf}
use Rattle.mw_cache.specs.Gathering.{kept_at, IsShort, IsToKeep, IsGathered}

abbrev Pair : Type 0
Pair = Bor (List ℕ) × Bor (List ℕ)

-- the order of the map
abbrev pub by_text : Bor (List ℕ) → Bor (List ℕ) → Ordering
by_text a b = slice_cmp nat_cmp a.now b.now

-- one of the texts, found one after another
abbrev Among : List (List ℕ) → List ℕ → Type 0
Among [] t = ⊥
Among (x ∷ xs) t = (x ≡ t) ⊎ Among xs t

among_from : (xs : List (List ℕ)) (t : List ℕ) → Contains xs t → Among xs t
among_from [] t h = let less = h.1 in absurd (omega (arith, less))
among_from (x ∷ xs) t (zero, less, is) = inl is
among_from (x ∷ xs) t (suc k, less, is) = inr (among_from xs t (k, omega (arith, less), is))

contains_from : (xs : List (List ℕ)) (t : List ℕ) → Among xs t → Contains xs t
contains_from [] t h = absurd h
contains_from (x ∷ xs) t (inl is) = (0, omega arith, is)
contains_from (x ∷ xs) t (inr later) =
    let r = contains_from xs t later in
    let less = r.1 in (suc r.0, omega (arith, less), r.2)

abbrev texts_in : List Pair → List (List ℕ)
texts_in es = map (λ k. k.text) (map kept_at es)

module _ (k v : Bor (List ℕ)) where
  abbrev with_pair : List Pair → List Pair
  with_pair es = insert_entry by_text es k v

  -- what the map holds after an entry is put before, at or behind the first
  abbrev placed : Ordering → Pair → List Pair → List Pair
  placed o e es = match_ordering o ((k, v) ∷ e ∷ es) ((e.0, v) ∷ es) (e ∷ with_pair es)

  module _ (P : Kept → Type 0) (same : (t : List ℕ) → t ≡ k.now → P record { text = t; bytes = v.now }) where
    each_placed : (o : Ordering) (e : Pair) (es : List Pair) → by_text k e.0 ≡ o → P (kept_at e)
        → AllByRecursion P (map kept_at es)
        → AllByRecursion P (map kept_at (with_pair es)) → AllByRecursion P (map kept_at (placed o e es))
    each_placed Less e es is one all rest = (same k.now refl, (one, all))
    each_placed Equal e es is one all rest = (same e.0.now (sym (exact_bytes k.now e.0.now is)), all)
    each_placed Greater e es is one all rest = (one, rest)

    each_with : (es : List Pair) → AllByRecursion P (map kept_at es) → AllByRecursion P (map kept_at (with_pair es))
    each_with [] all = (same k.now refl, tt)
    each_with (e ∷ es) all = each_placed (by_text k e.0) e es refl all.0 all.1 (each_with es all.1)

  stays_placed : (o : Ordering) (e : Pair) (es : List Pair) (t : List ℕ) → Among (texts_in (e ∷ es)) t
      → (Among (texts_in es) t → Among (texts_in (with_pair es)) t) → Among (texts_in (placed o e es)) t
  stays_placed Less e es t a rest = inr a
  stays_placed Equal e es t (inl is) rest = inl is
  stays_placed Equal e es t (inr a) rest = inr a
  stays_placed Greater e es t (inl is) rest = inl is
  stays_placed Greater e es t (inr a) rest = inr (rest a)

  stays : (es : List Pair) (t : List ℕ) → Among (texts_in es) t → Among (texts_in (with_pair es)) t
  stays [] t a = absurd a
  stays (e ∷ es) t a = stays_placed (by_text k e.0) e es t a (stays es t)

  here_placed : (o : Ordering) (e : Pair) (es : List Pair) → by_text k e.0 ≡ o → Among (texts_in (with_pair es)) k.now
      → Among (texts_in (placed o e es)) k.now
  here_placed Less e es is rest = inl refl
  here_placed Equal e es is rest = inl (sym (exact_bytes k.now e.0.now is))
  here_placed Greater e es is rest = inr rest

  here : (es : List Pair) → Among (texts_in (with_pair es)) k.now
  here [] = inl refl
  here (e ∷ es) = here_placed (by_text k e.0) e es refl (here es)

-- a text more
more_texts : (load : LoadState) (texts : List (List ℕ)) (t : List ℕ) (ks : List Kept)
    → AllByRecursion (IsToKeep load texts) ks
    → AllByRecursion (IsToKeep load (texts ++ t ∷ [])) ks
more_texts load texts t [] all = tt
more_texts load texts t (k ∷ ks) all = (
  record {
    among = Contains-append_left texts
        (t ∷ []) k.text all.0.among;
    unloaded = all.0.unloaded;
    emission = all.0.emission;
  },
  more_texts load texts
      t ks all.1,
)

-- a loaded text more
pub gathered_loaded : (load : LoadState) (texts : List (List ℕ)) (t : List ℕ) (ks : List Kept) → IsLoadedText load t
    → IsGathered load texts ks → IsGathered load (texts ++ t ∷ []) ks
gathered_loaded load texts t ks loaded g = record {
  each = more_texts load texts t ks g.each;
  all = λ text c. elim (Contains-push_cases texts t text c) [
    | inl old ↦ g.all text old
    | inr is ↦ inl (subst (λ x. IsLoadedText load x) is loaded)
  ];
}

-- and one that wasn't loaded, with its emission
pub gathered_with : (load : LoadState) (texts : List (List ℕ)) (t bytes : List ℕ) (k v : Bor (List ℕ))
    (es : List Pair) → k.now ≡ t → v.now ≡ bytes
    → (IsLoadedText load t → ⊥) → IsEmissionOf bytes t
    → IsGathered load texts (map kept_at es)
    → IsGathered load (texts ++ t ∷ []) (map kept_at (insert_entry by_text es k v))
gathered_with load texts t bytes k v es kt vb none emission g = record {
  each = each_with k v (IsToKeep load (texts ++ t ∷ [])) one es (more_texts load texts t (map kept_at es) g.each);
  all = λ text c. elim (Contains-push_cases texts t text c) [
    | inl old ↦ elim (g.all text old) [
      | inl l ↦ inl l
      | inr h ↦ inr (contains_from _ text (stays k v es text (among_from _ text h)))
    ]
    | inr is ↦ inr (subst (λ x. Contains (texts_in (insert_entry by_text es k v)) x) (kt
        ∙ is) (contains_from _ k.now (here k v es)))
  ];
}
  where
    keep : IsToKeep load (texts ++ t ∷ []) record { text = t; bytes = v.now }
    keep = record {
      among = Contains-push texts t;
      unloaded = none;
      emission = subst (λ bs. IsEmissionOf bs t)
          (sym vb) emission;
    }

    one : (s : List ℕ) → s ≡ k.now → IsToKeep load (texts ++ t ∷ []) record { text = s; bytes = v.now }
    one s is = subst (λ x. IsToKeep load (texts ++ t ∷ []) record { text = x; bytes = v.now }) (sym (is ∙ kt)) keep

-- texts and emissions are short
pub all_short : (load : LoadState) (texts : List (List ℕ)) (ks : List Kept)
    → AllByRecursion (IsToKeep load texts) ks → AllByRecursion IsShort ks
all_short load texts [] all = tt
all_short load texts (k ∷ ks) all =
    let e = all.0.emission in (
      (
        short_text k.text e.version e.code e.kind e.is_text,
        subst (λ bs. length bs < 2 ^ 32) (sym e.is_emission)
            (each_emission k.text e.version e.code e.kind e.is_text).short,
      ),
      all_short load texts ks all.1,
    )

-- what is gathered in the order of the texts is what is to be kept
pub to_keep : (load : LoadState) (texts : List (List ℕ)) (ks : List Kept) → IsGathered load texts ks
    → IsStrictlySortedBy (slice_cmp nat_cmp) (map (λ k. k.text) ks) → AreToKeep load texts ks
to_keep load texts ks g rise = record {
  rise = rise;
  among = λ k h. (one k h).among;
  unloaded = λ k h. (one k h).unloaded;
  emission = λ k h. (one k h).emission;
  all = g.all;
}
  where
    one : (k : Kept) → Contains ks k → IsToKeep load texts k
    one k h = All-contains (IsToKeep load texts) ks k (All-from_recursion (IsToKeep load texts) ks g.each) h

below : (k : Bor (List ℕ)) (es : List Pair) → AllByRecursion (λ q. by_text k q ≡ Less) (keys_of es)
    → AllByRecursion (λ t. slice_cmp nat_cmp k.now t ≡ Less) (texts_in es)
below k [] all = tt
below k (e ∷ es) all = (all.0, below k es all.1)

-- the keys ascend
pub rising : (es : List Pair) → IsStrictlySortedBy by_text (keys_of es)
    → IsStrictlySortedBy (slice_cmp nat_cmp) (map (λ k. k.text) (map kept_at es))
unfolding IsStrictlySortedBy
rising [] s = tt
rising (e ∷ es) s = (below e.0 es s.0, rising es s.1)

-- one item more
pub map_more : {X Y : Type 0} (f : X → Y) (xs : List X) (n : ℕ) (x : X) → n < length xs → x ≡ get_or xs n x
    → map f (take (n + 1) xs) ≡ map f (take n xs) ++ f x ∷ []
map_more f xs n x less is =
    ap (λ ys. map f ys) (take_more xs n x less) ∙ map-append f (take n xs) (get_or xs n x ∷ [])
    ∙ ap (λ y. map f (take n xs) ++ f y ∷ []) (sym is)

pub records_are : {E : Type 0} (load : LoadState) (texts : List (List ℕ)) (ks : List Kept) (result : Result (List
    (List ℕ)) E)
    → IfOk result (λ records. records ≡ map record_bytes ks)
    → IfOk result (λ _. IsStrictlySortedBy (slice_cmp nat_cmp) (map (λ k. k.text) ks))
    → IsGathered load texts ks → IfOk result (λ records. AreRecordsOf load texts records)
records_are load texts ks (Ok records) written rise g = (ks, to_keep load texts ks g rise, written)
records_are load texts ks (Err e) written rise g = tt
