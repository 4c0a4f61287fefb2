-- Records that are taken one after another.
use Rattle.std.proofs.Common.{◌≡◌, ℕ, ◌+◌, ◌-◌, ◌≤◌, List, [], ◌∷◌, ◌++◌, length, drop, refl, sym, ap, ◌∙◌, subst}
use Rattle.std.proofs.Common.{append_assoc, arith}
use Rattle.std.proofs.lemmas.List.{append-nil, length-append}
use Rattle.std.proofs.lemmas.List.Sums.{fold-append}
use Rattle.std.proofs.Math.Seq.{drop-append_seam}
use Rattle.std.specs.List.{AllByRecursion}
use Rattle.mw_store.specs.Records.{Kept, record_bytes, file_of, IsWhole}
use Rattle.mw_store.specs.Loads.{Begins, Counts, IsLoadOf, LoadState, with_record, file_limit}
use Rattle.mw_store.specs.Loading.{IsLoadedTo, NoneBegins, TakesFound}
use Rattle.mw_store.proofs.Files.{counts_after}

pub file_of-append : (rs ss : List Kept) → file_of (rs ++ ss) ≡ file_of rs ++ file_of ss
file_of-append [] ss = refl
file_of-append (r ∷ rs) ss = ap (λ xs. record_bytes r ++ xs) (file_of-append rs ss) ∙ sym
    (append_assoc (record_bytes r) (file_of rs) (file_of ss))

all_with : (rs : List Kept) (r : Kept) → AllByRecursion IsWhole rs → IsWhole r → AllByRecursion IsWhole (rs ++ r ∷ [])
all_with [] r all whole = (whole, all)
all_with (s ∷ rs) r all whole = (all.0, all_with rs r all.1 whole)

-- nothing is taken yet
pub nothing_taken : (bytes : List ℕ) → IsLoadedTo bytes (record { records = []; good = 0 })
nothing_taken bytes =
    record {
      taken = [];
      whole = tt;
      rest = bytes;
      begins = refl;
      good_is = refl;
      within = omega arith;
      firsts_are =
          refl;
    }

-- what is left of the bytes
pub rest_is : (bytes : List ℕ) (load : LoadState) (h : IsLoadedTo bytes load) → drop load.good bytes ≡ h.rest
rest_is bytes load h = ap (λ xs. drop load.good xs) h.begins ∙ ap (λ n. drop n (file_of h.taken ++ h.rest)) h.good_is
    ∙ drop-append_seam (file_of h.taken) h.rest

-- one record more
pub one_taken : (bytes : List ℕ) (old new : LoadState) (r : Kept) → IsLoadedTo bytes old → Begins
    (drop old.good bytes) r
    → length (record_bytes r) ≤ file_limit - old.good → TakesFound r old new → IsLoadedTo bytes new
one_taken bytes old new r h begun small takes =
    let old_within = h.within in let good = takes.good_is in
    let rest : h.rest ≡ record_bytes r ++ begun.1.0 = sym (rest_is bytes old h) ∙ begun.1.1 in
    let file : file_of (h.taken ++ r ∷ []) ≡ file_of h.taken ++ record_bytes r =
    file_of-append h.taken (r ∷ []) ∙ ap (λ xs. file_of h.taken ++ xs) (append-nil (record_bytes r)) in
    record {
      taken = h.taken ++ r ∷ [];
      whole = all_with h.taken r h.whole begun.0;
      rest = begun.1.0;
      begins = h.begins ∙ ap (λ xs. file_of h.taken ++ xs) rest ∙ sym
          (append_assoc (file_of h.taken) (record_bytes r) begun.1.0)
          ∙ ap (λ xs. xs ++ begun.1.0) (sym file);
      good_is = takes.good_is ∙ ap (λ n. n + length (record_bytes r)) h.good_is ∙ sym
          (length-append (file_of h.taken) (record_bytes r)) ∙ ap (λ xs. length xs) (sym file);
      within = omega (arith, old_within, small, good);
      firsts_are = takes.records_are ∙ ap (λ rs. with_record rs r) h.firsts_are ∙ sym
          (fold-append with_record [] h.taken (r ∷ []));
    }

-- none counts any more
pub all_taken : (bytes : List ℕ) (load : LoadState) → IsLoadedTo bytes load → NoneBegins bytes load.good
    → IsLoadOf bytes load
all_taken bytes load h none =
    let last : Counts (length (file_of h.taken)) h.rest [] =
    subst (λ n. Counts n h.rest []) h.good_is (subst (λ xs. Counts load.good xs []) (rest_is bytes load h) none) in
    let zero_more : length (file_of h.taken) ≡ 0 + length (file_of h.taken) = omega arith in
    let within : length (file_of h.taken) ≤ file_limit = subst (λ n. n ≤ file_limit) h.good_is h.within in
    let all = counts_after 0 h.taken [] h.rest h.whole (omega (arith, within))
    (subst (λ n. Counts n h.rest []) zero_more last) in (
      h.taken,
      record {
        counts = subst (λ xs. Counts 0 xs h.taken) (sym h.begins)
            (subst (λ rs. Counts 0 (file_of h.taken ++ h.rest) rs) (append-nil h.taken) all);
        good_is = h.good_is;
      },
      h.firsts_are,
    )
