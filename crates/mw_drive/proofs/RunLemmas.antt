-- From the parts of a run to the whole.
use Rattle.std.proofs.Common.{◌≡◌, ◌⊎◌, inl, inr, ℕ, ◌<◌, List, [], ◌++◌, Option, None, Some, Bool, IsTrue}
use Rattle.std.proofs.Common.{IsNone, IsSome, ◌∙◌, take, length, Result, Ok, Err, refl, sym, ap}
use Rattle.std.proofs.Common.{subst, arith}
use denote.Ref.{Bor}
use Rattle.std.proofs.lemmas.List.{take_all, length-take}
use Rattle.mw_drive.specs.declared.fault.RunFault.{RunFault}
use Rattle.mw_drive.specs.declared.fault.RunFault.TheVariants.{Unwritten, Bad}
use Rattle.mw_outside.specs.declared.errors.WriteFault.TheVariants as fault
use Rattle.mw_outside.specs.Count.{GrowsByFront}
use Rattle.mw_outside.specs.Lookup.{file_of}
use Rattle.mw_term.specs.declared.refusal.Refusal.TheVariants.{TooLarge}
use Rattle.mw_meaning.specs.declared.mode.Mode.TheVariants.{Plain}
use Rattle.mw_drive.specs.declared.shown.Shown.{Shown}
use Rattle.mw_drive.specs.declared.shown.Shown.TheVariants.{Lines}
use Rattle.mw_link.specs.Linked.{Kernel}
use Rattle.mw_console.specs.Reading.{IsFront}
use Rattle.mw_console.specs.Texts.{Ending}
use Rattle.mw_reading.specs.NamedPrograms.{NamedProgram, unnamed}
use Rattle.mw_console.specs.declared.status.Status.{Status}
use Rattle.mw_console.specs.declared.status.Status.TheVariants.{Read, Write}
use Rattle.mw_console.specs.declared.status.Status.TheVariants.{Cache, Memory}
use Rattle.mw_reading.specs.SourceReading.{IsRead, IsSmall, too_large, at_bytes, at_tokens, at_names}
use Rattle.mw_drive.specs.Works.{Work, running, erasing, linking, Meaning, refused, ran, IsMeaning, of_refusal}
use Rattle.mw_drive.specs.Works.{of_types, of_program, of_erased_refusal, of_erased, of_link_refusal, of_joined}
use Rattle.mw_drive.specs.Works.{of_unjoined, IsAccepted, mode_of, IsOutput, Reports}
use Rattle.mw_drive.specs.Works.{text_of, status_of}
use Rattle.mw_drive.specs.BadRecords.{IsBadRecord, IsBadOf, of_run}
use Rattle.mw_drive.specs.Honest.{IsHonestCache}
use Rattle.mw_drive.specs.ProgramRuns.{IsWrittenMeaning, IsEndMeaning, evaluated}
use Rattle.mw_drive.specs.declared.source.Evaluation.{Evaluation}
use Rattle.mw_drive.specs.declared.source.Evaluation.TheVariants.{Run, Erased, Linked}
use Rattle.mw_drive.specs.Extents.{a_front, whole, unkept, unsaid, never}
use Rattle.mw_drive.specs.Extents.{Kind, over_a_cache, extent}
use Rattle.mw_drive.specs.Running.{most_of_source, Sources, Wanted, Has, Lacks, HasAll, has_none, has_more, LacksSome}
use Rattle.mw_drive.specs.Running.{lacks_this, lacks_later, IsFaithful, IsMemory, IsCarriedOut, IsStatusOf, kind_with}

-- a source with a meaning is too large, and refused for it, or small
large_or_small : {bytes : List ℕ} {fuel : ℕ} {shown : Shown} {m : Meaning} → IsMeaning (running bytes fuel shown) m
    → ((m ≡ refused TooLarge []) × (1048576 < length bytes)) ⊎ IsSmall bytes
large_or_small (of_refusal (too_large large)) = inl (refl, large)
large_or_small (of_refusal (at_bytes small f)) = inr small
large_or_small (of_refusal (at_tokens tokens small are r)) = inr small
large_or_small (of_refusal (at_names tokens surface f small are is first e)) = inr small
large_or_small (of_types p read fault) = inr read.small
large_or_small (of_program p read accepted is) = inr read.small

-- a front that is longer than any source means what the whole does
pub small_front : (bytes : List ℕ) → IsSmall (take most_of_source bytes) → take most_of_source bytes ≡ bytes
small_front bytes small = let short = rw length-take at small in take_all most_of_source bytes (omega arith)

pub large_whole : (bytes : List ℕ) → 1048576 < length (take most_of_source bytes) → 1048576 < length bytes
large_whole bytes large = let long = rw length-take at large in omega arith

pub means_whole : {bytes : List ℕ} {fuel : ℕ} {shown : Shown} {m : Meaning}
    → IsMeaning (running (take most_of_source bytes) fuel shown) m → IsMeaning (running bytes fuel shown) m
means_whole {bytes} {fuel} {shown} {m} d = by_size (large_or_small d)
  where
    by_size : ((m ≡ refused TooLarge []) × (1048576 < length (take most_of_source bytes)))
        ⊎ IsSmall (take most_of_source bytes)
        → IsMeaning (running bytes fuel shown) m
    by_size (inl x) =
        subst (IsMeaning (running bytes fuel shown)) (sym x.0) (of_refusal (too_large (large_whole bytes x.1)))
    by_size (inr small) = subst (λ b. IsMeaning (running b fuel shown) m) (small_front bytes small) d

-- a source that is read from such a front is read from the whole
pub whole_read : {front bytes : List ℕ} {p : NamedProgram} → front ≡ take most_of_source bytes → IsRead front p
    → IsRead bytes p
whole_read {front} {bytes} {p} is read =
    let h = subst (λ b. IsRead b p) is read in subst (λ b. IsRead b p) (small_front bytes h.small) h

pub whole_refused : {front bytes : List ℕ} {fuel : ℕ} {m : Meaning} → front ≡ take most_of_source bytes
    → IsMeaning (running front fuel (Lines Plain)) m → IsMeaning (running bytes fuel (Lines Plain)) m
whole_refused {fuel = fuel} {m = m} is h = means_whole (subst (λ b. IsMeaning (running b fuel (Lines Plain)) m) is h)

means_erased : {front : List ℕ} {fuel : ℕ} {m : Meaning} → IsMeaning (erasing front fuel) m → (bytes : List ℕ)
    → front ≡ take most_of_source bytes → IsMeaning (erasing bytes fuel) m
means_erased (of_erased_refusal h) bytes is = of_erased_refusal (whole_refused is h)
means_erased (of_erased p read accepted ends) bytes is = of_erased p (whole_read is read) accepted ends

means_linked : {front : List ℕ} {fuel : ℕ} {m : Meaning} → IsMeaning (linking front fuel) m → (bytes : List ℕ)
    → front ≡ take most_of_source bytes → IsMeaning (linking bytes fuel) m
means_linked (of_link_refusal h) bytes is = of_link_refusal (whole_refused is h)
means_linked (of_joined p read accepted goes) bytes is = of_joined p (whole_read is read) accepted goes
means_linked (of_unjoined p read accepted goes) bytes is = of_unjoined p (whole_read is read) accepted goes

pub means_evaluated : (evaluation : Evaluation) (bytes : List ℕ) (fuel : ℕ) (m : Meaning)
    → IsMeaning (evaluated evaluation (take most_of_source bytes) fuel) m
    → IsMeaning (evaluated evaluation bytes fuel) m
means_evaluated (Run options) bytes fuel m h = means_whole h
means_evaluated Erased bytes fuel m h = means_erased h bytes refl
means_evaluated (Linked workers) bytes fuel m h = means_linked h bytes refl

-- what was read is the front of the bytes that the source tells
pub front_told : {o : Sources} {file : Wanted} {bytes : List ℕ} (taken : List ℕ) → Has o file bytes
    → (IsTrue o.tells → IsFront file.most (file_of o.files file.name) taken) → taken ≡ take file.most bytes
front_told taken has front = rw has.found at (front has.telling)

-- a file that the source tells isn't lacking
has_or_lacks : {o : Sources} {file : Wanted} {bytes : List ℕ} → Has o file bytes → Lacks o file → ⊥
has_or_lacks {o} {file} {bytes} has lacks = both (file_of o.files file.name) has.found lacks.missing
  where
    both : (f : Option (List ℕ)) → f ≡ Some bytes → IsNone f → ⊥
    both None e n = absurd (cc)
    both (Some x) e n = absurd (cc)

pub all_or_some : {o : Sources} {files : List Wanted} {contents : List (List ℕ)} → HasAll o files contents
    → LacksSome o files → ⊥
all_or_some has_none lacks = elim lacks [ ]
all_or_some (has_more has rest) (lacks_this lacks) = has_or_lacks has lacks
all_or_some (has_more has rest) (lacks_later lacks) = all_or_some rest lacks

pub output_of_report : {work : Work} {text : List ℕ} {s : Status} → Reports work text s → IsOutput work text
output_of_report r = record { meaning = r.meaning; is_meaning = r.is_meaning; is_text = r.is_text }

-- each meaning's status is that of a whole text
pub whole_status : (kind : Kind) (m : Meaning) → extent kind (status_of m) ≡ whole
whole_status kind m = grind arith

-- so a text that was written whole is faithful
faithful_at : {work : Work} (kind : Kind) (before after : List ℕ) (m : Meaning) → IsMeaning work m
    → after ≡ before ++ text_of m
    → IsFaithful (extent kind (status_of m)) work (status_of m) before after
faithful_at {work} kind before after m h e =
    subst (λ x. IsFaithful x work (status_of m) before after) (sym (whole_status kind m))
    (text_of m, record { meaning = m; is_meaning = h; is_text = refl; is_status = refl }, e)

-- a program that ran
abbrev IsRanMeaning : Meaning → Type 0
IsRanMeaning m = (shown : Shown) × (kernels : List Kernel) × (e : Ending) × (m ≡ ran shown kernels e)

-- the status of a meaning is its own, or that the cache file wasn't kept
own_or_unkept : (path : Option (Bor (List ℕ))) (m : Meaning) (s : Status) → IsEndMeaning path m s
    → (s ≡ status_of m) ⊎ (IsSome path × (s ≡ Cache) × IsRanMeaning m)
own_or_unkept path (ran shown kernels e) s (inl is) = inl is
own_or_unkept path (ran shown kernels e) s (inr h) = inr (h.0, h.1, (shown, kernels, e, refl))
own_or_unkept path m s is = inl is

module _ (path : Option (Bor (List ℕ))) (kind : Kind) (over : IsSome path → kind ≡ over_a_cache) {tells : Bool}
    (before after : List ℕ)
    (work : Work) where
  -- the status of a front
  carried_front : (s t : Status) (m : Meaning) → IsMeaning work m → s ≡ t → extent kind t ≡ a_front
      → (IsTrue tells → GrowsByFront before after (text_of m)) → IsCarriedOut kind work s tells before after
  carried_front s t m h is front grows =
      let e : extent kind s ≡ a_front = ap (extent kind) is ∙ front in
      record {
        faithful =
            λ told. subst (λ x. IsFaithful x work s before after) (sym e)
            (inr (text_of m, record { meaning = m; is_meaning = h; is_text = refl }, grows told));
        meaning = λ c. absurd (cc);
        said = λ c. absurd (cc);
      }

  -- a work whose meaning was written, or a front of it, was carried out
  pub carried : (r : Result Status RunFault) (s : Status) → IsWrittenMeaning path work r tells before after
      → IsStatusOf r s
      → IsCarriedOut kind work s tells before after
  carried (Ok status) s w is = elim (own_or_unkept path w.meaning status w.is_status) [
    | inl own ↦
        let same : s ≡ status_of w.meaning = is ∙ own in
        let e : extent kind s ≡ whole = ap (extent kind) same ∙ whole_status kind w.meaning in
        record {
          faithful =
              λ t. subst (λ s. IsFaithful (extent kind s) work s before after) (sym same)
              (faithful_at kind before after w.meaning w.is_meaning (w.writes t));
          meaning = λ c. (w.meaning, w.is_meaning, same);
          said = λ c. absurd (cc);
        }
    | inr h ↦
        let ran_as = h.2 in
        let e : extent kind s ≡ unkept = ap (extent kind) (is ∙ h.1) ∙ ap (λ k. extent k Cache) (over h.0) in
        let meant : IsMeaning work (ran ran_as.0 ran_as.1 ran_as.2) = subst (IsMeaning work) ran_as.3 w.is_meaning in
        record {
          faithful =
              λ t. subst (λ x. IsFaithful x work s before after) (sym e) (
                text_of w.meaning,
                record {
                  shown = ran_as.0;
                  kernels = ran_as.1;
                  ending = ran_as.2;
                  is_meaning = meant;
                  is_text = ap text_of ran_as.3;
                },
                w.writes t,
              );
          meaning = λ c. absurd (cc);
          said = λ c. absurd (cc);
        }
  ]
  carried (Err (Unwritten fault.Failed)) s w is =
      carried_front s Write w.meaning w.is_meaning is refl w.writes
  carried (Err (Unwritten (fault.Memory error))) s w is =
      carried_front s (Memory error) w.meaning w.is_meaning is refl w.writes
  carried (Err (Bad digest)) s w is = absurd w.usual

-- where a work means whatever another does, what was written of that was written of it
pub written_as : {path : Option (Bor (List ℕ))} {work : Work} (other : Work) {r : Result Status RunFault} {tells : Bool}
    {before after : List ℕ}
    → ((m : Meaning) → IsMeaning work m → IsMeaning other m) → IsWrittenMeaning path work r tells before after
    → IsWrittenMeaning path other r tells before after
written_as other means w =
    record {
      meaning = w.meaning;
      is_meaning = means w.meaning w.is_meaning;
      is_status = w.is_status;
      usual = w.usual;
      writes = w.writes;
    }

-- a status that is none of the others is that of a whole text
pub whole_else : (kind : Kind) (s : Status) → (extent kind s ≡ never → ⊥) → (extent kind s ≡ unsaid → ⊥)
    → (s ≡ Cache → ⊥) → (IsMemory s → ⊥) → (s ≡ Read → ⊥) → (s ≡ Write → ⊥) → extent kind s ≡ whole
whole_else kind s possible said kept memory read write = grind arith

-- a file's kind, with a cache file
pub kind_over : {X : Type 0} (path : Option X) → IsSome path → kind_with path ≡ over_a_cache
kind_over path some = grind arith

pub no_path : {X : Type 0} (path : Option X) {tells : Bool} {held : List ℕ} → IsNone path
    → IsHonestCache tells held path
no_path path none some = grind arith

small_whole : (bytes : List ℕ) → IsSmall bytes → take most_of_source bytes ≡ bytes
small_whole bytes small = take_all most_of_source bytes (omega (arith, small))

of_run_meaning : {bytes : List ℕ} {fuel : ℕ} {shown other : Shown} {kernels : List Kernel} {e : Ending}
    → IsMeaning (running bytes fuel shown) (ran other kernels e) → take most_of_source bytes ≡ bytes
of_run_meaning {bytes} (of_program p read accepted is) = small_whole bytes read.small

no_run : {bytes : List ℕ} {fuel : ℕ} {shown : Shown} {kernels : List Kernel} {e : Ending}
    → IsMeaning (erasing bytes fuel) (ran shown kernels e) → ⊥
no_run m = elim m [ ]

no_linked_run : {bytes : List ℕ} {fuel : ℕ} {shown : Shown} {kernels : List Kernel} {e : Ending}
    → IsMeaning (linking bytes fuel) (ran shown kernels e) → ⊥
no_linked_run m = elim m [ ]

no_bad : {bytes held digest : List ℕ} {fuel : ℕ} → IsBadOf (erasing bytes fuel) held digest → ⊥
no_bad m = elim m [ ]

no_linked_bad : {bytes held digest : List ℕ} {fuel : ℕ} → IsBadOf (linking bytes fuel) held digest → ⊥
no_linked_bad m = elim m [ ]

-- a program that ran was read whole
pub ran_whole : (evaluation : Evaluation) (bytes : List ℕ) (fuel : ℕ) (shown : Shown) (kernels : List Kernel)
    (e : Ending)
    → IsMeaning (evaluated evaluation bytes fuel) (ran shown kernels e) → take most_of_source bytes ≡ bytes
ran_whole (Run options) bytes fuel shown kernels e is = of_run_meaning is
ran_whole Erased bytes fuel shown kernels e is = absurd (no_run is)
ran_whole (Linked workers) bytes fuel shown kernels e is = absurd (no_linked_run is)

-- a bad record of a run
record HasBadRun (bytes : List ℕ) (fuel : ℕ) (shown : Shown) (held digest : List ℕ) : Type 0 where
  program : NamedProgram
  read : IsRead bytes program
  accepted : IsAccepted (unnamed program)
  bad : IsBadRecord (mode_of shown) (unnamed program) fuel held digest

of_bad_run : {bytes : List ℕ} {fuel : ℕ} {shown : Shown} {held digest : List ℕ}
    → IsBadOf (running bytes fuel shown) held digest → HasBadRun bytes fuel shown held digest
of_bad_run (of_run p read accepted bad) = record { program = p; read = read; accepted = accepted; bad = bad }

-- so was one with a bad record
pub bad_whole : (evaluation : Evaluation) (bytes : List ℕ) (fuel : ℕ) (held digest : List ℕ)
    → IsBadOf (evaluated evaluation (take most_of_source bytes) fuel) held digest
    → IsBadOf (evaluated evaluation bytes fuel) held digest
bad_whole (Run options) bytes fuel held digest h =
    let r = of_bad_run h in
    of_run r.program (subst (λ b. IsRead b r.program) (small_front bytes r.read.small) r.read) r.accepted r.bad
bad_whole Erased bytes fuel held digest bad = absurd (no_bad bad)
bad_whole (Linked workers) bytes fuel held digest bad = absurd (no_linked_bad bad)
