-- Loaded records are migrated one after another.
use Rattle.std.proofs.Common.{◌≡◌, inl, inr, ℕ, suc, ◌+◌, Bool, true, false, List, [], ◌∷◌, ◌++◌, length, take}
use Rattle.std.proofs.Common.{position, Option, Some, Result, Ok, Err, refl, sym, ap, ◌∙◌, subst, arith}
use Rattle.std.specs.Prelude.{slice_get, is_some, OnOk}
use Rattle.std.specs.Str.{bytes_eq}
use Rattle.std.specs.List.{AllByRecursion}
use Rattle.std.proofs.lemmas.List.Elements.{All-contains, All-from_recursion}
use Rattle.std.proofs.lemmas.List.{append-nil, length-append, map-append, take_more}
use Rattle.std.proofs.lemmas.Option.{slice_get_within, get_or_from_slice_get}
use Rattle.mw_term.specs.Terms.{Expression, KernelType}
use Rattle.mw_key.specs.CanonicalText.{IsTextOf, canonical_text}
use Rattle.mw_key.proofs.FoundTexts.{one_text}
use Rattle.mw_key.specs.declared.version.Version.TheVariants.{One, Two}
use Rattle.mw_store.specs.Records.{Kept, record_bytes}
use Rattle.mw_store.specs.Loads.{Loaded, LoadState}
use Rattle.mw_compile.specs.Emission.{IsEmissionOf}
use Rattle.mw_compile.specs.Entries.{Emitted, IsEntryOf}
use Rattle.mw_cache.specs.Gots.{IsLoadedText}
use Rattle.mw_cache.proofs.LoadedTexts.{loaded, unloaded}
use Rattle.mw_cache.specs.MigrationLaws.{OneMigration, MigratedAreNew}
use Rattle.mw_cache.specs.Migrating.{Migrate, no_record, of_two, of_one_known, of_one_anew, anew, AreMigrated, AddsAnew}

-- some records, and then others
migrate_after : {load : LoadState} {ls more : List Loaded} {m n : ℕ} {js ks : List Kept} → Migrate load ls m js
    → Migrate load more n ks → Migrate load (ls ++ more) (m + n) (js ++ ks)
migrate_after {load = load} {more = more} {n = n} {ks = ks} no_record h =
    subst (λ i. Migrate load more i ks) (omega arith) h
migrate_after (of_two c k is g) h = of_two c k is (migrate_after g h)
migrate_after {load = load} {more = more} {n = n} {ks = ks}
    (of_one_known {l = l} {ls = ls} {n = m} {ks = js} c k is known g) h =
    let sum : suc (m + n) ≡ suc m + n = omega arith in
    subst (λ i. Migrate load (l ∷ ls ++ more) i (js ++ ks)) sum (of_one_known {l = l} c k is known (migrate_after g h))
migrate_after {load = load} {more = more} {n = n} {ks = ks}
    (of_one_anew {l = l} {ls = ls} {n = m} {ks = js} c k is new g) h =
    let sum : suc (m + n) ≡ suc m + n = omega arith in
    subst (λ i. Migrate load (l ∷ ls ++ more) i (anew c k ∷ js ++ ks)) sum
    (of_one_anew {l = l} c k is new (migrate_after g h))

-- the first loaded records, and one more
taken : (ls : List Loaded) (at : ℕ) (l : Loaded) → slice_get ls at ≡ Some l → take (at + 1) ls ≡ take at ls ++ l ∷ []
taken ls at l here = take_more ls at l (slice_get_within ls at l here)
    ∙ ap (λ x. take at ls ++ x ∷ []) (get_or_from_slice_get ls at l l here)

-- one of version Two adds nothing
pub two_migrated : (load : LoadState) (at old : ℕ) (records : List (List ℕ)) (l : Loaded) (c : Expression)
    (k : KernelType) → slice_get load.records at ≡ Some l → IsTextOf l.text Two c k
    → AreMigrated load (take at load.records) old records → AreMigrated load (take (at + 1) load.records) old records
two_migrated load at old records l c k here is h =
    let ls = take at load.records in
    let more : Migrate load (ls ++ l ∷ []) (old + 0) (h.0 ++ []) = migrate_after h.1 (of_two c k is no_record) in
    let counted : Migrate load (ls ++ l ∷ []) old (h.0 ++ []) =
    subst (λ i. Migrate load (ls ++ l ∷ []) i (h.0 ++ [])) (omega arith) more in
    let kept : Migrate load (ls ++ l ∷ []) old h.0 =
    subst (λ ks. Migrate load (ls ++ l ∷ []) old ks) (append-nil h.0) counted in
    (h.0, subst (λ xs. Migrate load xs old h.0) (sym (taken load.records at l here)) kept, h.2)

-- one of version One is counted, and may add a record
one_known : (load : LoadState) (ls : List Loaded) (old : ℕ) (before after : List (List ℕ)) (l : Loaded) (c : Expression)
    (k : KernelType) → IsTextOf l.text One c k → AddsAnew load c k before after → AreMigrated load ls old before
    → AreMigrated load (ls ++ l ∷ []) (old + 1) after
one_known load ls old before after l c k is (inl (known, same)) h =
    let more : Migrate load (ls ++ l ∷ []) (old + 1) (h.0 ++ []) =
    migrate_after h.1 (of_one_known c k is known no_record) in
    (h.0, subst (λ ks. Migrate load (ls ++ l ∷ []) (old + 1) ks) (append-nil h.0) more, same ∙ h.2)
one_known load ls old before after l c k is (inr (new, added)) h =
    let more : Migrate load (ls ++ l ∷ []) (old + 1) (h.0 ++ anew c k ∷ []) =
    migrate_after h.1 (of_one_anew c k is new no_record) in (
      h.0 ++ anew c k ∷ [],
      more,
      added ∙ ap (λ rs. rs ++ record_bytes (anew c k) ∷ []) h.2 ∙ sym (map-append record_bytes h.0 (anew c k ∷ [])),
    )

pub one_migrated : (load : LoadState) (at old : ℕ) (before after : List (List ℕ)) (l : Loaded) (c : Expression)
    (k : KernelType) → slice_get load.records at ≡ Some l → IsTextOf l.text One c k → AddsAnew load c k before after
    → AreMigrated load (take at load.records) old before
    → AreMigrated load (take (at + 1) load.records) (old + 1) after
one_migrated load at old before after l c k here is adds h =
    subst (λ xs. AreMigrated load xs (old + 1) after) (sym (taken load.records at l here))
    (one_known load (take at load.records) old before after l c k is adds h)

-- nothing is added where the text was loaded
pub adds_none : (load : LoadState) (c : Expression) (k : KernelType) (t : List ℕ) (records : List (List ℕ))
    (o : Option ℕ) (b : Bool) → t ≡ canonical_text Two c k → o ≡ position (λ l. bytes_eq t l.text) load.records
    → b ≡ is_some o → b ≡ true → AddsAnew load c k records records
adds_none load c k t records o b text there test is =
    inl (subst (λ x. IsLoadedText load x) text (loaded load t o false there (sym test ∙ is) refl), refl)

-- and else the record of the entry
pub adds_one : {E : Type 0} (load : LoadState) (c : Expression) (k : KernelType) (t : List ℕ) (o : Option ℕ) (b : Bool)
    → t ≡ canonical_text Two c k → o ≡ position (λ l. bytes_eq t l.text) load.records → b ≡ is_some o → b ≡ false
    → (e : Emitted) → IsEntryOf e c k → (r : Kept) → r.text ≡ e.text → r.bytes ≡ e.bytes
    → (before after : List (List ℕ)) (items : List ℕ) (result : Result (Unit {0}) E) → items ≡ record_bytes r
    → OnOk result (after ≡ before ++ items ∷ []) → OnOk result (AddsAnew load c k before after)
adds_one load c k t o b text there test is e entry r rt rb before after items (Err x) written added = tt
adds_one load c k t o b text there test is e entry r rt rb before after items (Ok u) written added =
    let none = unloaded load t o true there (sym test ∙ is) refl in
    let kept : r ≡ anew c k =
    λ i. record { text = (rt ∙ entry.is_text.text) i; bytes = (rb ∙ entry.emission_is) i } in
    inr (
      (λ h. none (subst (λ x. IsLoadedText load x) (sym text) h)),
      added ∙ ap (λ xs. before ++ xs ∷ []) (written ∙ ap (λ x. record_bytes x) kept),
    )

-- one step for one record
pub spends : {E : Type 0} (result : Result (Unit {0}) E) (m n : ℕ) (before after : List (List ℕ)) (items : List ℕ)
    → n ≡ m + 1 → OnOk result (after ≡ before ++ items ∷ []) → OnOk result (n + length before ≡ m + length after)
spends (Err x) m n before after items one added = tt
spends (Ok u) m n before after items one added =
    let size : length after ≡ length before + 1 =
    ap (λ xs. length xs) added ∙ length-append before (items ∷ []) in
    omega (arith, one, size)

-- a text is of one version
two_and_one : (t : List ℕ) (c d : Expression) (k j : KernelType) → IsTextOf t Two c k → IsTextOf t One d j → ⊥
two_and_one t c d k j two one = differ (one_text t Two One c d k j two one).0
  where
    differ : Two ≡ One → ⊥
    differ h = cc

known_same : (load : LoadState) (t : List ℕ) (c d : Expression) (k j : KernelType) → IsTextOf t One c k
    → IsTextOf t One d j → IsLoadedText load (canonical_text Two c k) → IsLoadedText load (canonical_text Two d j)
known_same load t c d k j x y known =
    let same = one_text t One One c d k j x y in
    subst (λ e. IsLoadedText load (canonical_text Two e j)) same.1
    (subst (λ i. IsLoadedText load (canonical_text Two c i)) same.2 known)

anew_same : (t : List ℕ) (c d : Expression) (k j : KernelType) → IsTextOf t One c k → IsTextOf t One d j
    → anew c k ≡ anew d j
anew_same t c d k j x y = let same = one_text t One One c d k j x y in λ i. anew (same.1 i) (same.2 i)

migrations_same : {load : LoadState} {ls : List Loaded} {m n : ℕ} {js ks : List Kept} → Migrate load ls m js
    → Migrate load ls n ks → (m ≡ n) × (js ≡ ks)
migrations_same no_record no_record = (refl, refl)
migrations_same (of_two c k x g) (of_two d j y h) = migrations_same g h
migrations_same (of_two c k x g) (of_one_known d j y known h) = absurd (two_and_one _ c d k j x y)
migrations_same (of_two c k x g) (of_one_anew d j y new h) = absurd (two_and_one _ c d k j x y)
migrations_same (of_one_known c k x known g) (of_two d j y h) = absurd (two_and_one _ d c j k y x)
migrations_same (of_one_anew c k x new g) (of_two d j y h) = absurd (two_and_one _ d c j k y x)
migrations_same (of_one_known c k x known g) (of_one_known d j y other h) =
    let same = migrations_same g h in (ap suc same.0, same.1)
migrations_same {load = load} (of_one_known c k x known g) (of_one_anew d j y new h) =
    absurd (new (known_same load _ c d k j x y known))
migrations_same {load = load} (of_one_anew c k x new g) (of_one_known d j y known h) =
    absurd (new (known_same load _ d c j k y x known))
migrations_same (of_one_anew c k x new g) (of_one_anew d j y other h) =
    let same = migrations_same g h in let first = anew_same _ c d k j x y in
    (ap suc same.0, λ i. first i ∷ same.1 i)

pub one_migration : OneMigration
one_migration load ls m n js ks g h = migrations_same g h

-- it has the emission of its text, which wasn't loaded
abbrev IsNew : LoadState → Kept → Type 0
IsNew load k = IsEmissionOf k.bytes k.text × (IsLoadedText load k.text → ⊥)

anew_emission : (t : List ℕ) (c : Expression) (k : KernelType) → IsTextOf t One c k
    → IsEmissionOf (anew c k).bytes (anew c k).text
anew_emission t c k x = record {
  version = Two;
  code = c;
  kind = k;
  is_text = record { kernel = x.kernel; text = refl };
  is_emission = refl;
}

each_new : {load : LoadState} {ls : List Loaded} {n : ℕ} {ks : List Kept} → Migrate load ls n ks
    → AllByRecursion (IsNew load) ks
each_new no_record = tt
each_new (of_two c k x g) = each_new g
each_new (of_one_known c k x known g) = each_new g
each_new (of_one_anew c k x new g) = ((anew_emission _ c k x, new), each_new g)

pub migrated_new : MigratedAreNew
migrated_new load ls n ks g k h =
    All-contains (IsNew load) ks k (All-from_recursion (IsNew load) ks (each_new g)) h
