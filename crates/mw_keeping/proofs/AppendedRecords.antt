-- Records that are added one after another.
use Rattle.std.proofs.Common.{◌≡◌, ℕ, zero, suc, ◌+◌, ◌-◌, ◌<◌, ◌≤◌, List, [], ◌∷◌, ◌++◌, length, map, take, drop, Some}
use Rattle.std.proofs.Common.{refl, sym, ap, ◌∙◌, arith}
use Rattle.std.specs.Prelude.{slice_get}
use Rattle.std.proofs.lemmas.List.{append-nil, append_assoc, length-map}
use Rattle.std.proofs.lemmas.Option.{none-some, same_Some}
use Rattle.mw_store.specs.Records.{Kept, record_bytes, file_of}
use Rattle.mw_keeping.specs.KeptFiles.{fitting}
use Rattle.mw_keeping.proofs.FittingRecords.{fitting_more, fitting_none}

-- the record at a place, after those before it, and before the others
pub record IsAt (ks : List Kept) (at : ℕ) (bytes : List ℕ) : Type 0 where
  pub kept : Kept
  pub bytes_are : bytes ≡ record_bytes kept
  pub before : take (at + 1) ks ≡ take at ks ++ kept ∷ []
  pub after : drop at ks ≡ kept ∷ drop (at + 1) ks

pub record_at : (ks : List Kept) (at : ℕ) (bytes : List ℕ) → slice_get (map record_bytes ks) at ≡ Some bytes
    → IsAt ks at bytes
record_at [] at bytes here = absurd (none-some bytes here)
record_at (k ∷ ks) zero bytes here =
    record { kept = k; bytes_are = sym (same_Some (record_bytes k) bytes here); before = refl; after = refl }
record_at (k ∷ ks) (suc at) bytes here =
    let r = record_at ks at bytes here in
    let take_is : take (at + 1) ks ≡ take at ks ++ r.kept ∷ [] = r.before in
    let drop_is : drop at ks ≡ r.kept ∷ drop (at + 1) ks = r.after in
    let more : suc at + 1 ≡ suc (at + 1) = omega arith in
    record {
      kept = r.kept;
      bytes_are = r.bytes_are;
      before = ap (λ n. take n (k ∷ ks)) more ∙ ap (λ xs. k ∷ xs) take_is;
      after = drop_is ∙ ap (λ n. r.kept ∷ drop n (k ∷ ks)) (sym more);
    }

file_more : (xs : List Kept) (k : Kept) → file_of (xs ++ k ∷ []) ≡ file_of xs ++ record_bytes k
file_more [] k = append-nil (record_bytes k)
file_more (x ∷ xs) k =
    ap (λ bs. record_bytes x ++ bs) (file_more xs k) ∙ sym (append_assoc (record_bytes x) (file_of xs) (record_bytes k))

module _ (whole room at : ℕ) (ks : List Kept) (bytes : List ℕ) (here : IsAt ks at bytes)
    (so_far : fitting whole ks ≡ take at ks ++ fitting room (drop at ks)) where
  -- there is room for the record
  pub fitting_next : length bytes ≤ room
      → fitting whole ks ≡ take (at + 1) ks ++ fitting (room - length bytes) (drop (at + 1) ks)
  fitting_next enough =
      let rest = drop (at + 1) ks in
      let size = ap (λ (bs : List ℕ). length bs) here.bytes_are in
      so_far
      ∙ ap (λ xs. take at ks ++ fitting room xs) here.after
      ∙ ap (λ xs. take at ks ++ xs) (fitting_more room here.kept rest (omega (arith, size, enough)))
      ∙ sym (append_assoc (take at ks) (here.kept ∷ []) (fitting (room - length (record_bytes here.kept)) rest))
      ∙ ap (λ xs. xs ++ fitting (room - length (record_bytes here.kept)) rest) (sym here.before)
      ∙ ap (λ n. take (at + 1) ks ++ fitting (room - n) rest) (sym size)

  -- or none
  pub fitting_ends : room < length bytes → fitting whole ks ≡ take at ks
  fitting_ends full =
      let size = ap (λ (bs : List ℕ). length bs) here.bytes_are in
      so_far
      ∙ ap (λ xs. take at ks ++ fitting room xs) here.after
      ∙ ap (λ xs. take at ks ++ xs)
      (fitting_none room here.kept (drop (at + 1) ks) (omega (arith, size, full)))
      ∙ append-nil (take at ks)

-- a record was added
pub added : (ks : List Kept) (at : ℕ) (bytes old mid new : List ℕ) → IsAt ks at bytes
    → mid ≡ old ++ file_of (take at ks) → new ≡ mid ++ bytes → new ≡ old ++ file_of (take (at + 1) ks)
added ks at bytes old mid new here before more =
    more
    ∙ ap (λ bs. bs ++ bytes) before
    ∙ append_assoc old (file_of (take at ks)) bytes
    ∙ ap (λ bs. old ++ (file_of (take at ks) ++ bs)) here.bytes_are
    ∙ ap (λ bs. old ++ bs) (sym (file_more (take at ks) here.kept))
    ∙ ap (λ xs. old ++ file_of xs) (sym here.before)

drop_all : (ks : List Kept) (n : ℕ) → length ks ≤ n → drop n ks ≡ []
drop_all [] zero le = refl
drop_all [] (suc n) le = refl
drop_all (k ∷ ks) zero le = absurd (omega (arith, le))
drop_all (k ∷ ks) (suc n) le = drop_all ks n (omega (arith, le))

-- after the last record
pub all_fitted : (whole room at : ℕ) (ks : List Kept) (records : List (List ℕ)) → records ≡ map record_bytes ks
    → length records ≤ at → fitting whole ks ≡ take at ks ++ fitting room (drop at ks) → fitting whole ks ≡ take at ks
all_fitted whole room at ks records are past so_far =
    let count = ap (λ (rs : List (List ℕ)). length rs) are ∙ length-map ks record_bytes in
    so_far
    ∙ ap (λ xs. take at ks ++ fitting room xs) (drop_all ks at (omega (arith, count, past)))
    ∙ append-nil (take at ks)
