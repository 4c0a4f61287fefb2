-- Bytes have one load; a file of whole records is loaded whole; and what lies past the limit doesn't count.
use Rattle.std.proofs.Common.{◌≡◌, inl, inr, ℕ, ◌+◌, ◌-◌, ◌^◌, ◌<◌, ◌≤◌, List, [], ◌∷◌, ◌++◌, length, take, drop, refl}
use Rattle.std.proofs.Common.{sym, ap, ◌∙◌, subst, append_assoc, arith}
use Rattle.std.proofs.lemmas.Nat.{from_le_bytes-to_le_bytes_4}
use Rattle.std.proofs.lemmas.Bool.{cases_lt}
use Rattle.std.proofs.lemmas.List.{append-nil, length-append, take-append-drop}
use Rattle.std.proofs.Math.Seq.{take-append-add}
use Rattle.std.specs.Int.{from_le_bytes, w32}
use Rattle.std.specs.List.{AllByRecursion}
use Rattle.sha2.specs.Sha256.{sha256}
use Rattle.sha2.proofs.Facts256.{length-sha256}
use Rattle.mw_key.proofs.Lengths.{short_text}
use Rattle.mw_store.specs.Records.{Kept, four, body_of, record_bytes, file_of, IsWhole}
use Rattle.mw_store.specs.Loads.{Counts, IsLoad, file_limit}
use Rattle.mw_store.specs.LoadLaws.{OneLoad, WholeFilesAreLoaded, FrontIsLoaded, OnlyTheFrontIsRead}

-- fronts of one length are one
pub front_same : (xs ys us vs : List ℕ) → length xs ≡ length ys → xs ++ us ≡ ys ++ vs → (xs ≡ ys) × (us ≡ vs)
front_same [] [] us vs n h = (refl, h)
front_same [] (y ∷ ys) us vs n h = absurd (omega arith)
front_same (x ∷ xs) [] us vs n h = absurd (omega arith)
front_same (x ∷ xs) (y ∷ ys) us vs n h =
    let head : x ≡ y = cc in let tail : xs ++ us ≡ ys ++ vs = cc in
    let rest = front_same xs ys us vs (omega arith) tail in (λ i. head i ∷ rest.0 i, rest.1)

-- a number below 2^32 is that of its four bytes
pub four_same : (m n : ℕ) → m < 2 ^ 32 → n < 2 ^ 32 → four m ≡ four n → m ≡ n
four_same m n a b h = sym (from_le_bytes-to_le_bytes_4 m a) ∙ ap (from_le_bytes w32) h
    ∙ from_le_bytes-to_le_bytes_4 n b

pub short_of : (r : Kept) → IsWhole r → length r.text < 2 ^ 32
short_of r w = short_text r.text w.version w.code w.kind w.is_text

-- the parts of a record, one behind the other
pub flat : (r : Kept) (u : List ℕ) → record_bytes r ++ u
    ≡ four (length r.text) ++ (four (length r.bytes) ++ (r.text ++ (r.bytes ++ (sha256 (body_of r) ++ u))))
flat r u =
    let end = sha256 (body_of r) ++ u in
    append_assoc (body_of r) (sha256 (body_of r)) u
    ∙ ap (λ xs. four (length r.text) ++ (four (length r.bytes) ++ xs)) (append_assoc r.text r.bytes end)

pub record_same : (r s : Kept) (u v : List ℕ) → length r.text < 2 ^ 32 → length r.bytes < 2 ^ 32
    → length s.text < 2 ^ 32 → length s.bytes < 2 ^ 32
    → record_bytes r ++ u ≡ record_bytes s ++ v → (r ≡ s) × (u ≡ v)
record_same r s u v rt rb st sb h =
    let e = sym (flat r u) ∙ h ∙ flat s v in
    let a = front_same (four (length r.text)) (four (length s.text)) _ _ refl e in
    let b = front_same (four (length r.bytes)) (four (length s.bytes)) _ _ refl a.1 in
    let c = front_same r.text s.text _ _ (four_same (length r.text) (length s.text) rt st a.0) b.1 in
    let d = front_same r.bytes s.bytes _ _ (four_same (length r.bytes) (length s.bytes) rb sb b.0) c.1 in
    let f = front_same (sha256 (body_of r)) (sha256 (body_of s)) u v
    (length-sha256 (body_of r) ∙ sym (length-sha256 (body_of s))) d.1 in
    (λ i. record { text = c.0 i; bytes = d.0 i }, f.1)

counts_same : (past : ℕ) (bytes : List ℕ) (rs ss : List Kept) → Counts past bytes rs → Counts past bytes ss → rs ≡ ss
counts_same past bytes [] [] h g = refl
counts_same past bytes [] (s ∷ ss) h g = let more = h s (g.0, (g.2.0, g.2.1)) in let less = g.1 in absurd
    (omega arith)
counts_same past bytes (r ∷ rs) [] h g = let more = g r (h.0, (h.2.0, h.2.1)) in let less = h.1 in absurd
    (omega arith)
counts_same past bytes (r ∷ rs) (s ∷ ss) h g =
    let one = record_same r s h.2.0 g.2.0 (short_of r h.0) h.0.short (short_of s g.0) g.0.short (sym h.2.1 ∙ g.2.1) in
    let later : Counts (past + length (record_bytes r)) h.2.0 ss =
    subst (λ (k : Kept). Counts (past + length (record_bytes k)) h.2.0 ss) (sym one.0)
    (subst (λ (bs : List ℕ). Counts (past + length (record_bytes s)) bs ss) (sym one.1) g.2.2) in
    let rest = counts_same (past + length (record_bytes r)) h.2.0 rs ss h.2.2 later in
    λ i. one.0 i ∷ rest i

pub load_same : OneLoad
load_same bytes rs ss m n h g =
    let same = counts_same 0 bytes rs ss h.counts g.counts in
    (same, h.good_is ∙ ap (λ ks. length (file_of ks)) same ∙ sym g.good_is)

-- whole records that begin bytes count, and with them those that count after them
pub counts_after : (past : ℕ) (rs ss : List Kept) (rest : List ℕ) → AllByRecursion IsWhole rs → past + length
    (file_of rs) ≤ file_limit
    → Counts (past + length (file_of rs)) rest ss → Counts past (file_of rs ++ rest) (rs ++ ss)
counts_after past [] ss rest all small h = subst (λ n. Counts n rest ss) (omega arith) h
counts_after past (r ∷ rs) ss rest all small h =
    let longer : length (file_of (r ∷ rs)) ≡ length (record_bytes r) + length (file_of rs) = length-append
    (record_bytes r) (file_of rs) in
    let sum : past + length (file_of (r ∷ rs)) ≡ past + length (record_bytes r) + length (file_of rs) = omega
    (arith, longer) in (
      all.0,
      omega (arith, longer, small),
      (
        file_of rs ++ rest,
        append_assoc (record_bytes r) (file_of rs) rest,
        counts_after (past + length (record_bytes r)) rs ss rest all.1 (omega (arith, longer, small))
            (subst (λ n. Counts n rest ss) sum h),
      ),
    )

-- a record isn't empty
pub record_length : (r : Kept) → length (record_bytes r) ≡ 40 + length r.text + length r.bytes
record_length r =
    let digest = length-sha256 (body_of r) in
    let whole = length-append (body_of r) (sha256 (body_of r)) in
    let both = length-append r.text r.bytes in
    let body : length (body_of r) ≡ 8 + length (r.text ++ r.bytes) =
    length-append (four (length r.text)) (four (length r.bytes) ++ (r.text ++ r.bytes))
    ∙ ap (λ n. 4 + n) (length-append (four (length r.bytes)) (r.text ++ r.bytes)) ∙ omega arith in
    omega (arith, digest, whole, both, body)

none_begins : (past : ℕ) → Counts past [] []
none_begins past r h =
    let sum : length (record_bytes r ++ h.1.0) ≡ 0 = ap (λ xs. length xs) (sym h.1.1) in
    let whole = length-append (record_bytes r) h.1.0 in let size = record_length r in absurd
    (omega (arith, sum, whole, size))

pub whole_files : WholeFilesAreLoaded
whole_files rs all small =
    record {
      counts = subst (λ bytes. Counts 0 bytes rs) (append-nil (file_of rs))
          (subst (λ ss. Counts 0 (file_of rs ++ []) ss) (append-nil rs)
          (counts_after 0 rs [] [] all (omega (arith, small)) (none_begins (0 + length (file_of rs)))));
      good_is = refl;
    }

-- n bytes go up to the limit, where so many lie before
front_counts : (past n : ℕ) (bytes : List ℕ) (rs : List Kept) → past + n ≡ file_limit → Counts past bytes rs
    → Counts past (take n bytes) rs
front_counts past n bytes [] e h = λ r begun.
    h r (
      begun.0,
      (
        begun.1.0 ++ drop n bytes,
        sym (take-append-drop n bytes) ∙ ap (λ xs. xs ++ drop n bytes) begun.1.1
            ∙ append_assoc (record_bytes r) begun.1.0 (drop n bytes),
      ),
    )
front_counts past n bytes (r ∷ rs) e h =
    let size = length (record_bytes r) in
    let within = h.1 in
    let later = front_counts (past + size) (n - size) h.2.0 rs (omega arith) h.2.2 in
    let sum : size + (n - size) ≡ n = omega arith in
    let cut : take n bytes ≡ record_bytes r ++ take (n - size) h.2.0 =
    ap (λ xs. take n xs) h.2.1 ∙ sym (ap (λ k. take k (record_bytes r ++ h.2.0)) sum) ∙ take-append-add
    (record_bytes r) h.2.0 (n - size) in
    (h.0, within, (take (n - size) h.2.0, cut, later))

pub front_loaded : FrontIsLoaded
front_loaded bytes rs good h =
    record { counts = front_counts 0 file_limit bytes rs refl h.counts; good_is = h.good_is }

-- a record that ends within the first bytes begins these too
begins_front : (n : ℕ) (r : Kept) (bytes rest : List ℕ) → length (record_bytes r) ≤ n → bytes ≡ record_bytes r ++ rest
    → take n bytes ≡ record_bytes r ++ take (n - length (record_bytes r)) rest
begins_front n r bytes rest within h =
    let size = length (record_bytes r) in let sum : size + (n - size) ≡ n = omega arith in
    ap (λ xs. take n xs) h ∙ sym (ap (λ k. take k (record_bytes r ++ rest)) sum) ∙ take-append-add (record_bytes r) rest
    (n - size)

-- what counts in the first bytes counts in all of them
all_counts : (past n : ℕ) (bytes : List ℕ) (rs : List Kept) → past + n ≡ file_limit → Counts past (take n bytes) rs
    → Counts past bytes rs
all_counts past n bytes [] e h = λ r begun.
    let size = length (record_bytes r) in
    elim (cases_lt file_limit (past + size)) [
      | inl l ↦ l
      | inr g ↦
          let within : size ≤ n = omega (arith, g, e) in
          h r (begun.0, (take (n - size) begun.1.0, begins_front n r bytes begun.1.0 within begun.1.1))
    ]
all_counts past n bytes (r ∷ rs) e h =
    let size = length (record_bytes r) in let ends = h.1 in
    let within : size ≤ n = omega (arith, ends, e) in
    let later = h.2.0 ++ drop n bytes in
    let whole : bytes ≡ record_bytes r ++ later =
    sym (take-append-drop n bytes) ∙ ap (λ xs. xs ++ drop n bytes) h.2.1
    ∙ append_assoc (record_bytes r) h.2.0 (drop n bytes) in
    let same = front_same (record_bytes r) (record_bytes r) h.2.0 (take (n - size) later) refl
    (sym h.2.1 ∙ begins_front n r bytes later within whole) in
    let left : past + size + (n - size) ≡ file_limit = omega (arith, within, e) in (
      h.0,
      ends,
      (
        later,
        whole,
        all_counts (past + size) (n - size) later rs left
            (subst (λ xs. Counts (past + size) xs rs) same.1 h.2.2),
      ),
    )

pub all_loaded : (bytes : List ℕ) (rs : List Kept) (good : ℕ) → IsLoad (take file_limit bytes) rs good
    → IsLoad bytes rs good
all_loaded bytes rs good h =
    record { counts = all_counts 0 file_limit bytes rs refl h.counts; good_is = h.good_is }

pub only_the_front : OnlyTheFrontIsRead
only_the_front bytes load = (
  (λ h. (h.0, all_loaded bytes h.0 load.good h.1, h.2)),
  (λ h. (h.0, front_loaded bytes h.0 load.good h.1, h.2)),
)
