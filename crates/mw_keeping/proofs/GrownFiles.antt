-- Files that grow by records with the emissions of their texts, or by a part of these.
use Rattle.std.proofs.Common.{◌≡◌, inl, inr, ℕ, ◌+◌, List, [], ◌++◌, take, drop}
use Rattle.std.proofs.Common.{refl, sym, ap, ◌∙◌, subst, append_assoc, arith}
use Rattle.std.proofs.lemmas.List.{append-nil, take-append-drop}
use Rattle.mw_outside.specs.Count.{GrowsByFront}
use Rattle.mw_store.specs.Records.{Kept, file_of}
use Rattle.mw_store.specs.Loads.{Loaded, LoadState, IsLoadOf}
use Rattle.mw_store.proofs.RecordSequences.{file_of-append}
use Rattle.mw_cache.specs.HonestFiles.{AreHonestBytes}
use Rattle.mw_cache.specs.HonestLaws.{HaveEmissions}
use Rattle.mw_cache.specs.Migrating.{Migrate}
use Rattle.mw_cache.proofs.HonestRecords.{files_grow}
use Rattle.mw_cache.proofs.MigratedRecords.{migrated_new}
use Rattle.mw_keeping.specs.GrownFiles.{GrowsRight, HasPartOf}
use Rattle.mw_keeping.specs.KeptFiles.{HasGoodFront}
use Rattle.mw_keeping.proofs.AppendedRecords.{IsAt}
use Rattle.mw_keeping.proofs.KeptFiles.{good_same, front_then}

-- a file that stayed
pub grown_stays : (held after : List ℕ) → after ≡ held → GrowsRight held after
grown_stays held after same = record { grown = inl same; honest = λ h. subst AreHonestBytes (sym same) h }

module _ (held mid after : List ℕ) (load : LoadState) (is : IsLoadOf held load) (cut : mid ≡ take load.good held) where
  -- a file that was cut to what counted, and then grew by a front of such records
  pub grown_then : (ks : List Kept) → HaveEmissions ks → HasPartOf ks mid after → GrowsRight held after
  grown_then ks right added = record {
    grown = inr (λ other also. record {
      records = ks;
      right = right;
      part = added.part;
      rest = added.rest;
      front = added.front;
      is = added.is
          ∙ ap (λ bs. bs ++ added.part) (cut ∙ ap (λ n. take n held) (good_same held load other is also));
    });
    honest = λ honest.
        files_grow held is.0 ks load.good honest is.1 right after added.rest
        (ap (λ bs. bs ++ added.rest) added.is
        ∙ append_assoc mid added.part added.rest
        ∙ ap (λ bs. mid ++ bs) added.front
        ∙ ap (λ bs. bs ++ file_of ks) cut);
  }

  pub front_of : (ks : List Kept) → HasPartOf ks mid after → HasGoodFront held after
  front_of ks added = front_then held mid after added.part load is cut added.is

-- nothing was added
pub no_part : (held : List ℕ) → HasPartOf [] held held
no_part held = record { part = []; rest = []; front = refl; is = sym (append-nil held) }

pub no_emissions : HaveEmissions []
no_emissions = λ k inside. let less = inside.1 in absurd (omega (arith, less))

pub migrated_emissions : (load : LoadState) (ls : List Loaded) (n : ℕ) (ks : List Kept) → Migrate load ls n ks
    → HaveEmissions ks
migrated_emissions load ls n ks are = λ k inside. (migrated_new load ls n ks are k inside).0

-- the whole records before a place
pub part_taken : (ks : List Kept) (at : ℕ) (old new : List ℕ) → new ≡ old ++ file_of (take at ks)
    → HasPartOf ks old new
part_taken ks at old new is = record {
  part = file_of (take at ks);
  rest = file_of (drop at ks);
  front = sym (file_of-append (take at ks) (drop at ks)) ∙ ap file_of (take-append-drop at ks);
  is = is;
}

-- and a front of the one at the place
pub part_cut : (ks : List Kept) (at : ℕ) (bytes old mid new : List ℕ) → IsAt ks at bytes
    → mid ≡ old ++ file_of (take at ks) → GrowsByFront mid new bytes → HasPartOf ks old new
part_cut ks at bytes old mid new here before grown =
    let whole = file_of (take at ks) in
    let later = file_of (drop (at + 1) ks) in
    let first = take grown.0 bytes in
    let second = drop grown.0 bytes in
    record {
      part = whole ++ first;
      rest = second ++ later;
      front =
          append_assoc whole first (second ++ later)
          ∙ ap (λ bs. whole ++ bs) (sym (append_assoc first second later))
          ∙ ap (λ bs. whole ++ (bs ++ later)) (take-append-drop grown.0 bytes ∙ here.bytes_are)
          ∙ ap (λ js. whole ++ file_of js) (sym here.after)
          ∙ sym (file_of-append (take at ks) (drop at ks))
          ∙ ap file_of (take-append-drop at ks);
      is = grown.2 ∙ ap (λ bs. bs ++ first) before ∙ append_assoc old whole first;
    }
