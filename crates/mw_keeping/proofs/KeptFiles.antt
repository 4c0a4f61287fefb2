-- What a cache file holds once it was cut and records were added.
use Rattle.std.proofs.Common.{◌≡◌, inl, inr, ℕ, ◌+◌, ◌-◌, ◌≤◌, List, [], ◌∷◌, ◌++◌, length, take, drop, Contains}
use Rattle.std.proofs.Common.{Result, Ok, Err, OnOk, map, refl, sym, ap, ◌∙◌, subst, arith}
use Rattle.std.proofs.lemmas.List.{length-append, length-take, take_all, take-append-drop}
use Rattle.mw_store.specs.Records.{Kept, record_bytes, file_of}
use Rattle.mw_store.specs.Loads.{LoadState, Counts, IsLoadOf, file_limit}
use Rattle.mw_store.proofs.Files.{load_same}
use Rattle.mw_cache.specs.Keeping.{AreToKeep}
use Rattle.mw_keeping.specs.CacheFiles.{IsReadFile}
use Rattle.mw_keeping.specs.KeptFiles.{HasNoRoom, IsKeptFile, IsKept, HasGoodFront, fitting}
use Rattle.mw_keeping.proofs.FittingRecords.{fits, fitting_rise, fitting_among, all_or_next}

-- the records that count are a front of the bytes
records_within : (past : ℕ) (bytes : List ℕ) (rs : List Kept) → Counts past bytes rs → length (file_of rs)
    ≤ length bytes
records_within past bytes [] h = omega arith
records_within past bytes (r ∷ rs) h =
    let rest = records_within (past + length (record_bytes r)) h.2.0 rs h.2.2 in
    let whole = ap (λ bs. length bs) h.2.1 ∙ length-append (record_bytes r) h.2.0 in
    let file = length-append (record_bytes r) (file_of rs) in
    omega (arith, rest, whole, file)

pub good_within : (held : List ℕ) (load : LoadState) → IsLoadOf held load → load.good ≤ length held
good_within held load h =
    let within = records_within 0 held h.0 h.1.counts in let good = h.1.good_is in omega (arith, within, good)

-- all loads of the bytes have one length
pub good_same : (held : List ℕ) (a b : LoadState) → IsLoadOf held a → IsLoadOf held b → a.good ≡ b.good
good_same held a b h g = (load_same held h.0 g.0 a.good b.good h.1 g.1).1

-- a file that stayed, or that was cut to what counted, begins with that
pub front_stays : (held after : List ℕ) → after ≡ held → HasGoodFront held after
front_stays held after same = λ load is. (
  drop load.good held,
  same ∙ sym (take-append-drop load.good held),
)

pub front_then : (held mid after rest : List ℕ) (load : LoadState) → IsLoadOf held load → mid ≡ take load.good held
    → after ≡ mid ++ rest → HasGoodFront held after
front_then held mid after rest load is cut more = λ other also. (
  rest,
  more ∙ ap (λ bs. bs ++ rest) (cut ∙ ap (λ n. take n held) (good_same held load other is also)),
)

-- where no more was read than what counted, and less than the limit, that is all
pub all_counted : (held : List ℕ) (count : ℕ) (load : LoadState) → IsReadFile held count load → count ≤ load.good
    → (count ≡ file_limit → ⊥) → held ≡ take load.good held
all_counted held count load read most other =
    let size = length-take file_limit held in
    let count_is = read.count_is in
    let within = good_within held load read.is_load in
    sym (take_all load.good held (omega (arith, size, count_is, within, most, other)))

module _ (held mid after : List ℕ) (load : LoadState) (texts : List (List ℕ)) (ks : List Kept) where
  -- the records that fit are kept, and each text is covered
  pub kept_file : IsLoadOf held load → load.good ≤ file_limit → mid ≡ take load.good held → AreToKeep load texts ks
      → after ≡ mid ++ file_of (fitting (file_limit - load.good) ks) → IsKeptFile held after texts
  kept_file is within cut keep more =
      let room = file_limit - load.good in
      let records = fitting room ks in
      let fit = fits room ks in
      record {
        load = load;
        is_load = is;
        records = records;
        are = record {
          rise = fitting_rise room ks keep.rise;
          among = λ k inside. keep.among k (fitting_among room ks k inside);
          unloaded = λ k inside. keep.unloaded k (fitting_among room ks k inside);
          emission = λ k inside. keep.emission k (fitting_among room ks k inside);
          within = omega (arith, fit, within);
        };
        file = more ∙ ap (λ bs. bs ++ file_of records) cut;
        covered = λ text inside. elim (keep.all text inside) [
          | inl loaded ↦ inl loaded
          | inr there ↦
              elim (all_or_next room ks keep.rise) [
                | inl all ↦
                    let has_text = λ (js : List Kept). Contains (map (λ (k : Kept). k.text) js) text in
                    inr (inl (subst has_text (sym all) there))
                | inr n ↦
                    let past = n.past in
                    let no_room : HasNoRoom load texts records = record {
                      next = n.next;
                      among = keep.among n.next n.among;
                      unloaded = keep.unloaded n.next n.among;
                      emission = keep.emission n.next n.among;
                      above = n.above;
                      least = λ t wanted. elim (keep.all t wanted) [
                        | inl loaded ↦ inl loaded
                        | inr here ↦ inr (n.least t here)
                      ];
                      past = omega (arith, past, within);
                    } in
                    inr (inr no_room)
              ]
        ];
      }

-- what an answer says, it says in other words
pub answer_says : {A E P Q : Type 0} (r : Result A E) → OnOk r P → (P → Q) → OnOk r Q
answer_says (Ok x) p f = f p
answer_says (Err e) p f = p

-- it is kept for the same texts in any order and number
pub kept_same : {held after : List ℕ} {texts : List (List ℕ)} (others : List (List ℕ)) → IsKeptFile held after texts
    → ((text : List ℕ) → Contains others text → Contains texts text)
    → ((text : List ℕ) → Contains texts text → Contains others text) → IsKeptFile held after others
kept_same {texts = texts} others h to from = record {
  load = h.load;
  is_load = h.is_load;
  records = h.records;
  are = record {
    rise = h.are.rise;
    among = λ k inside. from k.text (h.are.among k inside);
    unloaded = h.are.unloaded;
    emission = h.are.emission;
    within = h.are.within;
  };
  file = h.file;
  covered = λ text inside. elim (h.covered text (to text inside)) [
    | inl loaded ↦ inl loaded
    | inr other ↦
        elim other [
          | inl kept ↦ inr (inl kept)
          | inr n ↦
              let no_room : HasNoRoom h.load others h.records = record {
                next = n.next;
                among = from n.next.text n.among;
                unloaded = n.unloaded;
                emission = n.emission;
                above = n.above;
                least = λ t wanted. n.least t (to t wanted);
                past = n.past;
              } in
              inr (inr no_room)
        ]
  ];
}

pub kept_some : {held after : List ℕ} {texts : List (List ℕ)} → IsKeptFile held after texts → IsKept held after
kept_some {texts = texts} h = (texts, h)

-- a file with what is kept begins with what counted
pub kept_front : {held after : List ℕ} {texts : List (List ℕ)} → IsKeptFile held after texts → HasGoodFront held after
kept_front {held} {after} h = front_then held (take h.load.good held) after (file_of h.records) h.load h.is_load refl
    h.file
