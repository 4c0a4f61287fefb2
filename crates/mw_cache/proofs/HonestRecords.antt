-- Records with the emissions of their texts, in files and loaded.
use Rattle.std.proofs.Common.{◌≡◌, ℕ, ◌+◌, ◌<◌, ◌^◌, List, [], ◌∷◌, ◌++◌, Bool, true, false, length, map, take, Some}
use Rattle.std.proofs.Common.{refl, sym, ap, ◌∙◌, subst, if◌then◌else◌, append_assoc, arith}
use Rattle.std.specs.Prelude.{Contains, slice_get, fold}
use Rattle.std.specs.Option.{option_map}
use Rattle.std.specs.List.{All, AllByRecursion}
use Rattle.std.proofs.lemmas.List.{length-append}
use Rattle.std.proofs.Math.Seq.{take-append_seam}
use Rattle.std.proofs.lemmas.List.Elements.{All-push, All-contains, All-contains_itself, All-from_recursion}
use Rattle.std.proofs.lemmas.List.Elements.{recursion_from_All}
use Rattle.std.proofs.lemmas.Option.{slice_get-map, slice_get_within, get_or_from_slice_get}
use Rattle.mw_term.specs.Terms.{Expression, KernelType}
use Rattle.mw_key.proofs.Lengths.{short_text}
use Rattle.mw_key.specs.CanonicalText.{IsTextOf}
use Rattle.mw_key.specs.declared.version.Version.{Version}
use Rattle.mw_wasm.specs.BinaryModules.{Spells}
use Rattle.mw_wasm.specs.Syntax.{PureModule}
use Rattle.mw_store.specs.Records.{Kept, record_bytes, file_of, IsWhole}
use Rattle.mw_store.specs.Loads.{Counts, kept_of, is_among, with_record}
use Rattle.mw_store.proofs.Files.{record_same, record_length, front_loaded, all_loaded}
use Rattle.mw_store.proofs.RecordSequences.{file_of-append}
use Rattle.mw_compile.specs.Emission.{IsEmissionOf}
use Rattle.mw_compile.specs.EmissionLaws.{IsEmission}
use Rattle.mw_compile.proofs.EmittedEntries.{each_emission}
use Rattle.mw_cache.specs.HonestLaws.{HonestBytesLoadHonestly, HonestFront, KeptIsWhole, FrontsAreHonest}
use Rattle.mw_cache.specs.HonestLaws.{HonestFilesGrow}

-- what holds of each record holds of the first record of each text
module _ (P : Kept → Type 0) where
  all_with : (first : List Kept) (r : Kept) (b : Bool) → All P first → P r
      → All P (if b then first else first ++ r ∷ [])
  all_with first r true all one = all
  all_with first r false all one = All-push P first r all one

  all_firsts : (first rs : List Kept) → All P first → AllByRecursion P rs → All P (fold with_record first rs)
  all_firsts first [] all more = all
  all_firsts first (r ∷ rs) all more =
      all_firsts (with_record first r) rs (all_with first r (is_among r.text first) all more.0) more.1

  of_none : All P []
  of_none k d less = absurd (omega (arith, less))

  each_one : (rs : List Kept) → ((r : Kept) → Contains rs r → P r) → AllByRecursion P rs
  each_one rs each = recursion_from_All P rs (λ k d less. each _ (All-contains_itself rs k d less))

  each_of : (rs : List Kept) → AllByRecursion P rs → (r : Kept) → Contains rs r → P r
  each_of rs all r h = All-contains P rs r (All-from_recursion P rs all) h

  of_both : (rs ks : List Kept) → AllByRecursion P rs → AllByRecursion P ks → AllByRecursion P (rs ++ ks)
  of_both [] ks all more = more
  of_both (r ∷ rs) ks all more = (all.0, of_both rs ks all.1 more)

  one_at : (rs : List Kept) (k : ℕ) (r : Kept) → slice_get rs k ≡ Some r → All P rs → P r
  one_at rs k r here all = subst P (get_or_from_slice_get rs k r r here) (all k r (slice_get_within rs k r here))

abbrev HasEmission : Kept → Type 0
HasEmission r = IsEmissionOf r.bytes r.text

pub honest_load : HonestBytesLoadHonestly
honest_load bytes load honest loaded at l here =
    let rs = loaded.0 in let ks = map kept_of load.records in
    let firsts = all_firsts HasEmission [] rs (of_none HasEmission)
    (each_one HasEmission rs (honest rs load.good loaded.1)) in
    let all : All HasEmission ks = subst (λ xs. All HasEmission xs) (sym loaded.2) firsts in
    let there : slice_get ks at ≡ Some (kept_of l) =
    slice_get-map kept_of load.records at ∙ ap (λ o. option_map kept_of o) here in
    one_at HasEmission ks at (kept_of l) there all

pub honest_front : HonestFront
honest_front bytes = (
  (λ h rs good is. h rs good (front_loaded bytes rs good is)),
  (λ h rs good is. h rs good (all_loaded bytes rs good is)),
)

-- a record of a text is whole with an emission's bytes
whole_with : (r : Kept) (v : Version) (c : Expression) (k : KernelType) (bytes : List ℕ) (m : PureModule)
    → IsTextOf r.text v c k → r.bytes ≡ bytes → IsEmission bytes m c k → IsWhole r
whole_with r v c k bytes m is_text same e = record {
  short = subst (λ bs. length bs < 2 ^ 32) (sym same) e.short;
  version = v;
  code = c;
  kind = k;
  is_text = is_text;
  wasm = m;
  has_module = record {
    spelled = subst (λ bs. Spells bs m) (sym same) e.spelled;
    profile = e.profile;
    valid = e.valid;
    shape = e.shape;
  };
}

pub kept_whole : KeptIsWhole
kept_whole r is =
    whole_with r is.version is.code is.kind _ _ is.is_text is.is_emission
    (each_emission r.text is.version is.code is.kind is.is_text)

short_of : (r : Kept) → IsWhole r → length r.text < 2 ^ 32
short_of r w = short_text r.text w.version w.code w.kind w.is_text

-- what counts in a front of these records are some of them
counted_have : (past : ℕ) (bytes rest : List ℕ) (ks ss : List Kept) → AllByRecursion HasEmission ks
    → bytes ++ rest ≡ file_of ks → Counts past bytes ss → AllByRecursion HasEmission ss
counted_have past bytes rest ks [] all e h = tt
counted_have past bytes rest [] (s ∷ ss) all e h =
    let size = record_length s in
    let none : length bytes + length rest ≡ 0 = sym (length-append bytes rest) ∙ ap (λ xs. length xs) e in
    let some : length bytes ≡ length (record_bytes s) + length h.2.0 =
    ap (λ xs. length xs) h.2.1 ∙ length-append (record_bytes s) h.2.0 in
    absurd (omega (arith, size, none, some))
counted_have past bytes rest (k ∷ ks) (s ∷ ss) all e h =
    let whole = kept_whole k all.0 in
    let both : record_bytes s ++ (h.2.0 ++ rest) ≡ record_bytes k ++ file_of ks =
    sym (append_assoc (record_bytes s) h.2.0 rest) ∙ ap (λ xs. xs ++ rest) (sym h.2.1) ∙ e in
    let same = record_same s k (h.2.0 ++ rest) (file_of ks) (short_of s h.0) h.0.short (short_of k whole) whole.short
    both in (
      subst HasEmission (sym same.0) all.0,
      counted_have (past + length (record_bytes s)) h.2.0 rest ks ss all.1 same.1 h.2.2,
    )

pub fronts_honest : FrontsAreHonest
fronts_honest ks bytes rest have e rs good is =
    each_of HasEmission rs
    (counted_have 0 bytes rest ks rs (each_one HasEmission ks have) e is.counts)

-- the records that count begin the file
counted_front : (past : ℕ) (bytes : List ℕ) (rs : List Kept) → Counts past bytes rs
    → (rest : List ℕ) × (bytes ≡ file_of rs ++ rest)
counted_front past bytes [] h = (bytes, refl)
counted_front past bytes (r ∷ rs) h =
    let later = counted_front (past + length (record_bytes r)) h.2.0 rs h.2.2 in (
      later.0,
      h.2.1 ∙ ap (λ xs. record_bytes r ++ xs) later.1 ∙ sym (append_assoc (record_bytes r) (file_of rs) later.0),
    )

pub files_grow : HonestFilesGrow
files_grow bytes rs ks good honest is have held rest e =
    let front = counted_front 0 bytes rs is.counts in
    let first : take good bytes ≡ file_of rs =
    ap (λ xs. take good xs) front.1 ∙ ap (λ n. take n (file_of rs ++ front.0)) is.good_is
    ∙ take-append_seam (file_of rs) front.0 in
    let all = of_both HasEmission rs ks (each_one HasEmission rs (honest rs good is)) (each_one HasEmission ks have) in
    fronts_honest (rs ++ ks) held rest (each_of HasEmission (rs ++ ks) all)
    (e ∙ ap (λ xs. xs ++ file_of ks) first ∙ sym (file_of-append rs ks))
