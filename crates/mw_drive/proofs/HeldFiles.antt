-- What the cache file of a run holds, from what was opened and kept.
use Rattle.std.proofs.Common.{◌≡◌, ◌⊎◌, inl, inr, ℕ, List, [], ◌∷◌, map, take, Option, Some, None, IsSome, IsNone, Bool}
use Rattle.std.proofs.Common.{IsTrue, Result, Ok, IsErr, IfOk, refl, sym, ap, ◌∙◌, subst, arith}
use Rattle.std.specs.List.{AllByRecursion}
use Rattle.std.specs.Result.{IsErrAnd}
use Rattle.mw_term.specs.declared.refusal.Refusal.{Refusal}
use denote.Ref.{Bor}
use Rattle.mw_outside.specs.declared.errors.WriteFault.TheVariants as fault
use Rattle.mw_meaning.specs.declared.mode.Mode.{Mode}
use Rattle.mw_store.specs.Loads.{LoadState}
use Rattle.mw_cache.specs.Gots.{CacheState}
use Rattle.mw_console.specs.Texts.{Ending, answered, trapped, bounded, ending_status}
use Rattle.mw_console.specs.declared.status.Status.{Status}
use Rattle.mw_console.specs.declared.status.Status.TheVariants.{Answer, Trap, Bound, Refused, Write}
use Rattle.mw_console.specs.declared.status.Status.TheVariants.{Cache, Memory}
use Rattle.mw_keeping.specs.CacheFiles.{IsReadFile, IsOpened}
use Rattle.mw_keeping.specs.KeptFiles.{IsKept, HasGoodFront}
use Rattle.mw_keeping.specs.GrownFiles.{GrowsRight}
use Rattle.mw_keeping.proofs.GrownFiles.{grown_stays}
use Rattle.mw_keeping.specs.declared.opening.CacheFile.{CacheFile}
use Rattle.mw_keeping.specs.declared.opening.CacheFile.TheVariants.{Absent, Unread, Read}
use Rattle.mw_keeping.proofs.KeptFiles.{front_stays, front_then, kept_some, kept_front}
use Rattle.mw_keeping.specs.Migrations.{IsMigratedFile}
use Rattle.mw_store.specs.Records.{file_of}
use Rattle.mw_drive.specs.declared.fault.RunFault.{RunFault}
use Rattle.mw_drive.specs.declared.fault.RunFault.TheVariants.{Unwritten}
use Rattle.mw_drive.specs.declared.items.Built.{Built}
use Rattle.mw_drive.specs.Extents.{Kind, on_a_file, over_a_cache, on_a_number, on_a_cache}
use Rattle.mw_drive.specs.HeldFiles.{IsHeldBy, IsHeldWith, IsHeldAfter, IsKeptOf, IsKeptWith}
use Rattle.mw_drive.specs.HeldFiles.{IsStatusAfter, IsMigratedWith, CoversAll, texts_built}
use Rattle.mw_drive.specs.ProgramRuns.{kernel_of, kernels_of, IsBuilt, HasEnding}
use Rattle.mw_drive.specs.Running.{kind_with}
use Rattle.mw_drive.specs.Works.{run_text}

-- the texts of the kernels' modules are those of what is run of their code
pub texts_are : (mode : Mode) (cache : CacheState) (built : List Built) → AllByRecursion (IsBuilt mode cache) built
    → texts_built cache built ≡ map (run_text mode) (kernels_of built)
texts_are mode cache [] h = refl
texts_are mode cache (b ∷ built) h =
    ap (λ t. t ∷ texts_built cache built) h.0.text.text
    ∙ ap (λ ts. run_text mode (kernel_of b) ∷ ts) (texts_are mode cache built h.1)

-- no ending's status says that the file wasn't kept
pub ending_kept : (e : Ending) → ending_status e ≡ Cache → ⊥
ending_kept e is = grind arith

pub opened_read : {tells : Bool} {held : List ℕ} (path : Option (Bor (List ℕ))) (file : CacheFile) (load : LoadState)
    → IsOpened tells held path file load → (count : ℕ) → file ≡ Read count → IsTrue tells → IsReadFile held count load
opened_read path file load opened count is told = grind arith

-- a fault before the file was touched
pub held_failed : (r : Result Status RunFault) (held after : List ℕ) → IsErr r → after ≡ held → IsHeldAfter r held after
held_failed r held after failed same =
    let front : HasGoodFront held after = front_stays held after same in grind arith

held_ending : (e : Ending) (held after : List ℕ) → IsKept held after → IsHeldWith (ending_status e) held after
held_ending (answered v) held after h = h
held_ending (trapped t name) held after h = h
held_ending (bounded l name) held after h = h

-- a file that nobody touched
pub right_stays : (held : List ℕ) → GrowsRight held held
right_stays held = grown_stays held held refl

module _ (tells : Bool) (held : List ℕ) (path : Option (Bor (List ℕ))) (some : IsSome path) (file : CacheFile)
    (load : LoadState)
    (opened : IsOpened tells held path file load)
    (after : List ℕ) (unread : file ≡ Unread → after ≡ held)
    (front : (count : ℕ) → file ≡ Read count → HasGoodFront held after) where
  -- whatever ended the keeping
  pub front_kept : HasGoodFront held after
  front_kept = by_file path file some opened (λ is. front_stays held after (unread is)) front
    where
      by_file : {Q : Type 0} (path : Option (Bor (List ℕ))) (file : CacheFile) → IsSome path
          → IsOpened tells held path file load → (file ≡ Unread → Q) → ((count : ℕ) → file ≡ Read count → Q) → Q
      by_file path file some opened unread front = grind arith

  module _ (own s : Status) (ending : HasEnding own) (is : IsStatusAfter file own s) (texts : List (List ℕ))
      (kept : (count : ℕ) → file ≡ Read count → (s ≡ Cache → ⊥) → CoversAll texts held after) where
    kept_texts : (s ≡ Cache → ⊥) → CoversAll texts held after
    kept_texts other = grind arith

    pub texts_kept : IsKeptOf texts (Ok s) held after
    texts_kept = kept_texts

    pub status_is : (s ≡ own) ⊎ (s ≡ Cache)
    status_is = grind arith

    pub held_kept : IsHeldWith s held after
    held_kept = elim status_is [
      | inl same ↦
          let e = same ∙ ending.1 in
          subst (λ x. IsHeldWith x held after) (sym e)
          (held_ending ending.0 held after (kept_some (kept_texts (λ c. ending_kept ending.0 (sym e ∙ c))).keeps))
      | inr unkept ↦ subst (λ x. IsHeldWith x held after) (sym unkept) front_kept
    ]

-- the status of a run is its ending's, or with a cache file that this wasn't kept
pub end_of : (tells : Bool) (held : List ℕ) (path : Option (Bor (List ℕ))) (file : CacheFile) (load : LoadState)
    (own s : Status)
    → IsOpened tells held path file load → IsStatusAfter file own s → (s ≡ own) ⊎ (IsSome path × (s ≡ Cache))
end_of tells held None Absent load own s opened is = inl is
end_of tells held None Unread load own s opened is = absurd opened
end_of tells held None (Read n) load own s opened is = absurd opened
end_of tells held (Some x) Absent load own s opened is = absurd opened
end_of tells held (Some x) Unread load own s opened is = inr (refl, is)
end_of tells held (Some x) (Read n) load own s opened (inl same) = inl same
end_of tells held (Some x) (Read n) load own s opened (inr unkept) = inr (refl, unkept)

-- whatever the status, the file begins with what counted
migrated_file_front : (held after : List ℕ) → IsMigratedFile held after → HasGoodFront held after
migrated_file_front held after h =
    front_then held (take h.is.load.good held) after (file_of h.added) h.is.load h.is.is_load refl h.file

pub held_of_run : {X : Type 0} (path : Option X) (s : Status) (held after : List ℕ) → IsHeldWith s held after
    → IsHeldBy (kind_with path) s held after
held_of_run None s held after h = h
held_of_run (Some x) s held after h = h

with_front : (s : Status) (held after : List ℕ) → IsHeldWith s held after → HasGoodFront held after
with_front Answer held after h = kept_front h.1
with_front (Trap t) held after h = kept_front h.1
with_front (Bound l) held after h = kept_front h.1
with_front Cache held after h = h
with_front (Memory e) held after h = h
with_front s held after h = front_stays held after h

migrated_front : (s : Status) (held after : List ℕ) → IsMigratedWith s held after → HasGoodFront held after
migrated_front Answer held after h = migrated_file_front held after h
migrated_front Write held after h = front_stays held after h
migrated_front s held after h = h

by_front : (kind : Kind) (s : Status) (held after : List ℕ) → IsHeldBy kind s held after → HasGoodFront held after
by_front on_a_file s held after h = with_front s held after h
by_front over_a_cache s held after h = with_front s held after h
by_front on_a_number s held after h = with_front s held after h
by_front on_a_cache s held after h = migrated_front s held after h

pub front_of : {X : Type 0} (path : Option X) (kind : Kind) (s : Status) (held after : List ℕ)
    → (IsNone path → after ≡ held) → (IsSome path → IsHeldBy kind s held after) → HasGoodFront held after
front_of None kind s held after none some = front_stays held after (none refl)
front_of (Some x) kind s held after none some = by_front kind s held after (some refl)

-- what is kept with the status of an ending
pub kept_ending : (e : Ending) (texts : List (List ℕ)) (held after : List ℕ)
    → IsKeptWith texts (ending_status e) held after → CoversAll texts held after
kept_ending e texts held after h = grind arith

-- want of memory while the file was kept
pub held_memory : (r : Result Status RunFault) (e : _) (held after : List ℕ)
    → IsErrAnd r (λ f. f ≡ Unwritten (fault.Memory e)) → HasGoodFront held after → IsHeldAfter r held after
held_memory r e held after h front = grind arith

-- a refusal leaves the file alone
pub held_refused : (r : Result Status RunFault) (q : Refusal) (held after : List ℕ) → IfOk r (λ s. s ≡ Refused q)
    → after ≡ held
    → IsHeldAfter r held after
held_refused r q held after is same =
    let front : HasGoodFront held after = front_stays held after same in grind arith
