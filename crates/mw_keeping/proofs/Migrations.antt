-- Migrations of cache files: each load has one, and a file has no other.
use Rattle.std.proofs.Common.{◌≡◌, ◌⊎◌, inl, inr, ℕ, zero, suc, ◌+◌, ◌-◌, ◌≤◌, Bool, true, false, if◌then◌else◌, List}
use Rattle.std.proofs.Common.{[], ◌∷◌, ◌++◌, length, map, take, position, Option, Some, None, refl, sym, ap, ◌∙◌, subst}
use Rattle.std.proofs.Common.{arith}
use Rattle.std.specs.Prelude.{slice_get, fold}
use Rattle.std.specs.Str.{bytes_eq}
use Rattle.std.specs.List.{AllByRecursion}
use Rattle.std.proofs.lemmas.Bool.{cases_lt}
use Rattle.std.proofs.lemmas.List.{length-map, length-take}
use Rattle.std.proofs.lemmas.Option.{none-some, same_Some}
use Rattle.mw_key.specs.CanonicalText.{IsTextOf, canonical_text}
use Rattle.mw_key.specs.declared.version.Version.{Version}
use Rattle.mw_key.specs.declared.version.Version.TheVariants.{One, Two}
use Rattle.mw_store.specs.Records.{Kept, record_bytes, file_of, IsWhole}
use Rattle.mw_store.specs.Loads.{Loaded, LoadState, Counts, IsLoadOf, is_among, with_record, firsts, kept_of}
use Rattle.mw_store.specs.Loads.{file_limit}
use Rattle.mw_store.proofs.Files.{load_same, record_length}
use Rattle.mw_cache.specs.Gots.{IsLoadedText}
use Rattle.mw_cache.specs.Migrating.{Migrate, no_record, of_two, of_one_known, of_one_anew, anew, IsMigrationOf}
use Rattle.mw_cache.proofs.LoadedTexts.{is_loaded, nowhere}
use Rattle.mw_cache.proofs.MigratedRecords.{one_migration as loaded_migration}
use Rattle.mw_keeping.specs.KeptFiles.{fitting}
use Rattle.mw_keeping.specs.Migrations.{IsMigration, IsMigratedFile, IsMigrationHere}
use Rattle.mw_keeping.specs.declared.migrating.FileMigration.{FileMigration}
use Rattle.mw_keeping.proofs.FittingRecords.{fitting_more, fitting_none}

-- each record is for a text of version One
few_records : {load : LoadState} {ls : List Loaded} {n : ℕ} {ks : List Kept} → Migrate load ls n ks → length ks ≤ n
few_records no_record = omega arith
few_records (of_two c k is g) = few_records g
few_records (of_one_known c k is known g) = let few = few_records g in omega (arith, few)
few_records (of_one_anew c k is new g) = let few = few_records g in omega (arith, few)

pub few_migrated : (load : LoadState) (old : ℕ) (records : List (List ℕ)) → IsMigrationOf load old records
    → length records ≤ old
few_migrated load old records h =
    let few = few_records h.1 in
    let count = ap (λ (rs : List (List ℕ)). length rs) h.2 ∙ length-map h.0 record_bytes in
    omega (arith, few, count)

-- no more records than bytes fit, since none is empty
pub few_fit : (room : ℕ) (ks : List Kept) → length (fitting room ks) ≤ room
few_fit room [] = omega arith
few_fit room (k ∷ ks) = elim (cases_lt room (length (record_bytes k))) [
  | inl full ↦ rw (fitting_none room k ks full) (omega arith)
  | inr enough ↦
      let size = record_length k in
      let rest = few_fit (room - length (record_bytes k)) ks in
      rw (fitting_more room k ks enough) (omega (arith, size, rest, enough))
]

-- so many of them fit, where those before a place do
pub count_taken : (room at : ℕ) (ks : List Kept) (records : List (List ℕ)) → records ≡ map record_bytes ks
    → at ≤ length records → fitting room ks ≡ take at ks → at ≡ length (fitting room ks)
count_taken room at ks records are within fit =
    let count = ap (λ (rs : List (List ℕ)). length rs) are ∙ length-map ks record_bytes in
    let size = ap (λ (xs : List Kept). length xs) fit ∙ length-take at ks in
    omega (arith, within, count, size)

-- what was found of a file is its migration
migration_found : (held : List ℕ) (m : FileMigration) (here : IsMigrationHere held m)
    → IsMigration held m.old (fitting (file_limit - m.load.good) here.records)
migration_found held m here = record {
  load = m.load;
  is_load = here.read.is_load;
  records = here.records;
  are = here.are;
  fit = refl;
}

pub migration_here : (held : List ℕ) (m : FileMigration) → IsMigrationHere held m
    → (added : List Kept) × IsMigration held m.old added × (m.added ≡ length added)
migration_here held m here =
    (fitting (file_limit - m.load.good) here.records, migration_found held m here, here.added)

-- the file, once it was cut and the records that fit were added
pub migrated_file : (held mid after : List ℕ) (m : FileMigration) (here : IsMigrationHere held m)
    → mid ≡ take m.load.good held → after ≡ mid ++ file_of (fitting (file_limit - m.load.good) here.records)
    → IsMigratedFile held after
unfolding migration_found
migrated_file held mid after m here cut more =
    let added = fitting (file_limit - m.load.good) here.records in
    record {
      old = m.old;
      added = added;
      is = migration_found held m here;
      file = more ∙ ap (λ bs. bs ++ file_of added) cut;
    }

-- loads of the same texts and bytes
abbrev AreSame : List Loaded → List Loaded → Type 0
AreSame ls ms = map kept_of ls ≡ map kept_of ms

first_same : (l m : Loaded) (ls ms : List Loaded) → AreSame (l ∷ ls) (m ∷ ms) → (l.text ≡ m.text) × AreSame ls ms
first_same l m ls ms same =
    let head : kept_of l ≡ kept_of m = cc in let tail : map kept_of ls ≡ map kept_of ms = cc in
    (ap (λ (k : Kept). k.text) head, tail)

none_same : (l : Loaded) (ls : List Loaded) → AreSame (l ∷ ls) [] → ⊥
none_same l ls same = cc

at_place : (ls ms : List Loaded) → AreSame ls ms → (at : ℕ) (l : Loaded) → slice_get ls at ≡ Some l
    → (m : Loaded) × (slice_get ms at ≡ Some m) × (l.text ≡ m.text)
at_place [] ms same at l here = absurd (none-some l here)
at_place (x ∷ ls) [] same at l here = absurd (none_same x ls same)
at_place (x ∷ ls) (m ∷ ms) same zero l here =
    (m, refl, ap (λ (y : Loaded). y.text) (sym (same_Some x l here)) ∙ (first_same x m ls ms same).0)
at_place (x ∷ ls) (m ∷ ms) same (suc at) l here = at_place ls ms (first_same x m ls ms same).1 at l here

loaded_same : (load other : LoadState) → AreSame load.records other.records → (t : List ℕ) → IsLoadedText load t
    → IsLoadedText other t
loaded_same load other same t h =
    let there = at_place load.records other.records same h.0 h.1 h.2 in
    (h.0, there.0, there.1, sym there.2 ∙ h.3)

-- they have one migration
migrated_same : {load : LoadState} (other : LoadState) → AreSame load.records other.records
    → {ls : List Loaded} {n : ℕ} {ks : List Kept} → Migrate load ls n ks → (ms : List Loaded) → AreSame ls ms
    → Migrate other ms n ks
migrated_same other loads no_record [] same = no_record
migrated_same other loads no_record (m ∷ ms) same = absurd (none_same m ms (sym same))
migrated_same other loads (of_two {l = l} {ls = ls} c k is g) [] same = absurd (none_same l ls same)
migrated_same other loads (of_two {l = l} {ls = ls} c k is g) (m ∷ ms) same =
    let first = first_same l m ls ms same in
    of_two c k (subst (λ t. IsTextOf t Two c k) first.0 is) (migrated_same other loads g ms first.1)
migrated_same other loads (of_one_known {l = l} {ls = ls} c k is known g) [] same = absurd (none_same l ls same)
migrated_same {load = load} other loads (of_one_known {l = l} {ls = ls} c k is known g) (m ∷ ms) same =
    let first = first_same l m ls ms same in
    of_one_known c k (subst (λ t. IsTextOf t One c k) first.0 is)
    (loaded_same load other loads (canonical_text Two c k) known) (migrated_same other loads g ms first.1)
migrated_same other loads (of_one_anew {l = l} {ls = ls} c k is new g) [] same = absurd (none_same l ls same)
migrated_same {load = load} other loads (of_one_anew {l = l} {ls = ls} c k is new g) (m ∷ ms) same =
    let first = first_same l m ls ms same in
    of_one_anew c k (subst (λ t. IsTextOf t One c k) first.0 is)
    (λ known. new (loaded_same other load (sym loads) (canonical_text Two c k) known))
    (migrated_same other loads g ms first.1)

-- a file has one migration
pub one_migration : (held : List ℕ) (m n : ℕ) (js ks : List Kept) → IsMigration held m js → IsMigration held n ks
    → (m ≡ n) × (js ≡ ks)
one_migration held m n js ks a b =
    let loads = load_same held a.is_load.0 b.is_load.0 a.load.good b.load.good a.is_load.1 b.is_load.1 in
    let same : AreSame a.load.records b.load.records =
    a.is_load.2 ∙ ap (λ rs. firsts rs) loads.0 ∙ sym b.is_load.2 in
    let one = loaded_migration b.load b.load.records m n a.records b.records
    (migrated_same b.load same a.are b.load.records same) b.are in (
      one.0,
      a.fit
          ∙ ap (λ good. fitting (file_limit - good) a.records) loads.1
          ∙ ap (λ records. fitting (file_limit - b.load.good) records) one.1
          ∙ sym b.fit,
    )

-- each record that counts is whole, and so is the first of each text
counted_whole : (past : ℕ) (bytes : List ℕ) (rs : List Kept) → Counts past bytes rs → AllByRecursion IsWhole rs
counted_whole past bytes [] h = tt
counted_whole past bytes (r ∷ rs) h = (h.0, counted_whole (past + length (record_bytes r)) h.2.0 rs h.2.2)

whole_with : (first : List Kept) (r : Kept) (b : Bool) → AllByRecursion IsWhole first → IsWhole r
    → AllByRecursion IsWhole (if b then first else first ++ r ∷ [])
whole_with first r true all one = all
whole_with [] r false all one = (one, tt)
whole_with (f ∷ first) r false all one = (all.0, whole_with first r false all.1 one)

whole_firsts : (first rs : List Kept) → AllByRecursion IsWhole first → AllByRecursion IsWhole rs
    → AllByRecursion IsWhole (fold with_record first rs)
whole_firsts first [] all more = all
whole_firsts first (r ∷ rs) all more =
    whole_firsts (with_record first r) rs (whole_with first r (is_among r.text first) all more.0) more.1

-- a text was loaded or it wasn't
either_loaded : (load : LoadState) (t : List ℕ) (o : Option ℕ) → o ≡ position (λ l. bytes_eq t l.text) load.records
    → IsLoadedText load t ⊎ (IsLoadedText load t → ⊥)
either_loaded load t None h = inr (nowhere load t h)
either_loaded load t (Some at) h = inl (is_loaded load t at h)

abbrev HasMigration : LoadState → List Loaded → Type 0
HasMigration load ls = (n : ℕ) × (ks : List Kept) × Migrate load ls n ks

one_more : (load : LoadState) (l : Loaded) (ls : List Loaded) (w : IsWhole (kept_of l)) (v : Version)
    → IsTextOf l.text v w.code w.kind → HasMigration load ls → HasMigration load (l ∷ ls)
one_more load l ls w Two is h = (h.0, h.1, of_two w.code w.kind is h.2)
one_more load l ls w One is h =
    let t = canonical_text Two w.code w.kind in
    elim (either_loaded load t (position (λ x. bytes_eq t x.text) load.records) refl) [
      | inl known ↦ (suc h.0, h.1, of_one_known w.code w.kind is known h.2)
      | inr new ↦ (suc h.0, anew w.code w.kind ∷ h.1, of_one_anew w.code w.kind is new h.2)
    ]

some_migrated : (load : LoadState) (ls : List Loaded) → AllByRecursion IsWhole (map kept_of ls) → HasMigration load ls
some_migrated load [] all = (0, [], no_record)
some_migrated load (l ∷ ls) all =
    one_more load l ls all.0 all.0.version all.0.is_text (some_migrated load ls all.1)

-- a file that has a load has a migration
pub some_migration : (held : List ℕ) (load : LoadState) → IsLoadOf held load
    → (old : ℕ) × (added : List Kept) × IsMigration held old added
some_migration held load is =
    let all = whole_firsts [] is.0 tt (counted_whole 0 held is.0 is.1.counts) in
    let some = some_migrated load load.records (subst (λ rs. AllByRecursion IsWhole rs) (sym is.2) all) in (
      some.0,
      fitting (file_limit - load.good) some.1,
      record {
        load = load;
        is_load = is;
        records = some.1;
        are = some.2;
        fit = refl;
      },
    )
