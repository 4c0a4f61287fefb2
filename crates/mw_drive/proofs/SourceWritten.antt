-- What was written of a source is what it means.
use denote.Ref.{Bor}
use Rattle.std.proofs.Common.{◌≡◌, ◌<◌, ℕ, ◌^◌, List, [], map, length, None, Some, Bool, Option, inl, inr, Result}
use Rattle.std.proofs.Common.{Ok}
use Rattle.std.proofs.Common.{Err, IfOk, IfErr, refl, sym, subst, arith}
use Rattle.std.proofs.lemmas.List.{length-map}
use Rattle.mw_outside.specs.declared.errors.WriteFault.TheVariants.{Memory}
use Rattle.mw_term.specs.Programs.{program_of, program_size, definition_of}
use Rattle.mw_term.specs.Typable.{Typable}
use Rattle.mw_term.specs.Stops.{IfRefused}
use Rattle.mw_term.specs.declared.program.Program.{Program}
use Rattle.mw_term.specs.declared.program.Item.{Item}
use Rattle.mw_term.specs.declared.refusal.Refusal.{Refusal}
use Rattle.mw_term.specs.declared.refusal.Stop.{Stop}
use Rattle.mw_term.specs.declared.refusal.Stop.TheVariants.{Refused as StopRefused}
use Rattle.mw_infer.specs.Checking.{IsFirstRefusal, NoneTooBig}
use Rattle.mw_term.specs.Parts.{IsResolved}
use Rattle.mw_meaning.specs.declared.mode.Mode.TheVariants.{Plain}
use Rattle.mw_console.specs.Texts.{Ending, refusal_line}
use Rattle.mw_console.specs.declared.status.Status.{Status}
use Rattle.mw_console.specs.declared.status.Status.TheVariants.{Refused}
use Rattle.mw_drive.specs.declared.source.Evaluation.{Evaluation}
use Rattle.mw_drive.specs.declared.source.Evaluation.TheVariants.{Run, Erased, Linked}
use Rattle.mw_drive.specs.declared.shown.Shown.{Shown}
use Rattle.mw_drive.specs.declared.shown.Shown.TheVariants.{Lines}
use Rattle.mw_reading.specs.NamedPrograms.{NamedProgram, unnamed, named_program_of}
use Rattle.mw_reading.specs.SourceReading.{IsRead, IsRefused}
use Rattle.mw_drive.specs.declared.fault.RunFault.{RunFault}
use Rattle.mw_drive.specs.declared.fault.RunFault.TheVariants.{Unwritten}
use Rattle.mw_drive.specs.BadRecords.{IsBadRecord, IsBadOf, of_run}
use Rattle.mw_link.specs.Linked.{Kernel}
use Rattle.mw_drive.specs.ProgramMeaning.{items_run, ended, program_run, erased_ending}
use Rattle.mw_drive.specs.LinkedPrograms.{in_one, link_run}
use Rattle.mw_drive.specs.ProgramRuns.{evaluated, cache_of, IsEndOf, IsEnded, IsEndMeaning, IsUsual, IsWrittenRun}
use Rattle.mw_drive.specs.ProgramRuns.{IsWrittenErased, IsWrittenLinked, IsWrittenMeaning}
use Rattle.mw_drive.specs.Works.{Work, mode_of, IsAccepted, running, erasing, linking}
use Rattle.mw_drive.specs.Works.{Meaning, refused, ran, erased}
use Rattle.mw_drive.specs.Works.{status_of, IsMeaning}
use Rattle.mw_drive.specs.Works.{of_refusal, of_types}
use Rattle.mw_drive.specs.Works.{of_program, of_erased_refusal, of_erased, of_link_refusal}
use Rattle.mw_drive.specs.WorkLaws.{IsOnFile}
use Rattle.mw_drive.specs.Written.{Writes}
use Rattle.mw_drive.proofs.Fronts.{grows_nothing}
use Rattle.mw_link.specs.LinkLaw.{AreLinkable}
use Rattle.mw_drive.proofs.LinkedPrograms.{link_means, linked_kernels}
use Rattle.mw_drive.proofs.OneMeaning.{one_program, one_meaning}
use Rattle.mw_drive.proofs.Reports.{ok_then}
use Rattle.mw_drive.proofs.Statuses.{ran_not_refused}
use Rattle.mw_drive.specs.HeldFiles.{IsKeptOf}
use Rattle.mw_drive.proofs.SomeMeaning.{some_meaning}
use Rattle.mw_reading.proofs.SourceReadings.{unnamed_program, names_of_program}
use Rattle.mw_reading.proofs.ScopedTerms.{is_resolved, small_program}

-- what a run means that came to kernels
record IsRunOf (bytes : List ℕ) (fuel : ℕ) (shown other : Shown) (kernels : List Kernel) (e : Ending) : Type 0 where
  program : NamedProgram
  read : IsRead bytes program
  same : shown ≡ other
  run : program_run (mode_of shown) fuel program ≡ ended kernels e

run_of_meaning : {bytes : List ℕ} {fuel : ℕ} {shown other : Shown} {kernels : List Kernel} {e : Ending}
    → IsMeaning (running bytes fuel shown) (ran other kernels e) → IsRunOf bytes fuel shown other kernels e
run_of_meaning (of_program p read accepted is) = record { program = p; read = read; same = refl; run = is }

-- a meaning's own status is one that it ends with
own_end : (path : Option (Bor (List ℕ))) (m : Meaning) (s : Status) → s ≡ status_of m → IsEndMeaning path m s
own_end path m s is = grind arith

module _ (bytes : List ℕ) (fuel : ℕ) (evaluation : Evaluation) where
  abbrev IsWritten : Result Status RunFault → Bool → (before after : List ℕ) → Type 0
  IsWritten result tells before after =
      IsWrittenMeaning (cache_of evaluation) (evaluated evaluation bytes fuel) result tells before after

  written_refusal : {result : Result Status RunFault} {tells : Bool} {before after : List ℕ} {r : Refusal}
      {names : List (List ℕ)} → ((shown : Shown) → IsMeaning (running bytes fuel shown) (refused r names))
      → IfOk result (λ s. s ≡ Refused r) → IfErr result IsUsual
      → Writes result tells before after (refusal_line names r) → IsWritten result tells before after
  written_refusal {r = r} {names = names} is status usual writes =
      record {
        meaning = refused r names;
        is_meaning = refusal_means evaluation;
        is_status = status;
        usual = usual;
        writes = writes;
      }
    where
      refusal_means : (evaluation : Evaluation) → IsMeaning (evaluated evaluation bytes fuel) (refused r names)
      refusal_means (Run options) = is options.shown
      refusal_means Erased = of_erased_refusal (is (Lines Plain))
      refusal_means (Linked workers) = of_link_refusal (is (Lines Plain))

  -- want of memory before anything was written
  pub written_nothing : {tells : Bool} {before : List ℕ} (e : _)
      → IsWritten (Err (Unwritten (Memory e))) tells before before
  written_nothing {before = before} e =
      let m = some_meaning (evaluated evaluation bytes fuel) (on_file evaluation) in
      record { meaning = m.0; is_meaning = m.1; is_status = tt; usual = tt; writes = λ t. grows_nothing before _ }
    where
      on_file : (evaluation : Evaluation) → IsOnFile (evaluated evaluation bytes fuel)
      on_file (Run options) = tt
      on_file Erased = tt
      on_file (Linked workers) = tt

  -- the refusal of its reading
  pub refusal_written : {result : Result Status RunFault} {tells : Bool} {before after : List ℕ} {r : Refusal}
      {stop : Stop} → stop ≡ StopRefused r → IfRefused (IsRefused bytes) stop → IfOk result (λ s. s ≡ Refused r)
      → IfErr result IsUsual → Writes result tells before after (refusal_line [] r)
      → IsWritten result tells before after
  refusal_written is says = written_refusal (λ shown. of_refusal (subst (IfRefused (IsRefused bytes)) is says))

  -- the refusal of its types
  pub types_written : (p : Program) → IsRead bytes (named_program_of p) → {result : Result Status RunFault}
      {tells : Bool} {before after : List ℕ} {r : Refusal} {stop : Stop} → stop ≡ StopRefused r
      → IfRefused (IsFirstRefusal (program_of p)) stop → IfOk result (λ s. s ≡ Refused r) → IfErr result IsUsual
      → Writes result tells before after (refusal_line (map (λ (i : Item). i.name) p.items) r)
      → IsWritten result tells before after
  types_written p found {result} {tells} {before} {after} {r} is says status usual writes =
      let first : IsFirstRefusal (unnamed (named_program_of p)) r =
      subst (λ q. IsFirstRefusal q r) (sym (unnamed_program p))
      (subst (IfRefused (IsFirstRefusal (program_of p))) is says) in
      written_refusal (λ shown. of_types (named_program_of p) found first) status usual
      (subst (λ names. Writes result tells before after (refusal_line names r)) (sym (names_of_program p)) writes)

module _ {bytes : List ℕ} (p : Program) (found : IsRead bytes (named_program_of p)) where
  pub resolved : IsResolved (program_of p)
  resolved = subst IsResolved (unnamed_program p) (is_resolved bytes (named_program_of p) found)

  pub few_items : length p.items < 2 ^ 32
  few_items = let n = length-map p.items (λ (i : Item). definition_of i.kind) in omega (arith, n, resolved.count)

  pub few_nodes : program_size (program_of p) < 2 ^ 31
  few_nodes =
      subst (λ q. program_size q < 2 ^ 31) (unnamed_program p) (small_program bytes (named_program_of p) found)

  -- the kernels that its run means are those of its program
  pub run_kernels : {fuel : ℕ} {shown other : Shown} {kernels : List Kernel} {e : Ending}
      → IsMeaning (running bytes fuel shown) (ran other kernels e)
      → (shown ≡ other) × (program_run (mode_of shown) fuel (named_program_of p) ≡ ended kernels e)
  run_kernels {fuel} {shown} {other} {kernels} {e} is =
      let r = run_of_meaning is in (
        r.same,
        subst (λ q. program_run (mode_of shown) fuel q ≡ ended kernels e)
            (one_program bytes r.program (named_program_of p) r.read found) r.run,
      )

  module _ (typable : Typable (program_of p)) (small : NoneTooBig (program_of p)) where
    accepted : IsAccepted (unnamed (named_program_of p))
    accepted = subst IsAccepted (sym (unnamed_program p)) record { typable = typable; small = small }

    -- the run of its program
    pub run_written : {path : Option (Bor (List ℕ))} {shown : Shown} {fuel : ℕ} {result : Result Status RunFault}
        {tells : Bool} {before after : List ℕ}
        → IsWrittenRun (IsEndOf path) shown fuel (named_program_of p) result tells before after
        → IsWrittenMeaning path (running bytes fuel shown) result tells before after
    run_written {shown = shown} h = record {
      meaning = ran shown h.kernels h.ending;
      is_meaning = of_program (named_program_of p) found accepted h.is_run;
      is_status = h.answers;
      usual = h.usual;
      writes = h.writes;
    }

    -- its erased program's main
    pub erased_written : {fuel : ℕ} {result : Result Status RunFault} {tells : Bool} {before after : List ℕ}
        → IsWrittenErased fuel (program_of p) result tells before after
        → IsWrittenMeaning None (erasing bytes fuel) result tells before after
    erased_written {fuel} h = record {
      meaning = erased h.ending;
      is_meaning =
          of_erased (named_program_of p) found accepted
          (subst (λ q. erased_ending fuel q ≡ Some h.ending) (sym (unnamed_program p)) h.is_run);
      is_status = h.is_status;
      usual = h.usual;
      writes = h.writes;
    }

    -- its kernels in one module
    pub linked_written : {fuel : ℕ} {result : Result Status RunFault} {tells : Bool} {before after : List ℕ}
        → IsWrittenLinked fuel (named_program_of p) result tells before after
        → IsWrittenMeaning None (linking bytes fuel) result tells before after
    linked_written {result = result} h = record {
      meaning = h.meaning;
      is_meaning = link_means (named_program_of p) found accepted h.meaning h.is_meaning;
      is_status = ok_then (λ s. s ≡ status_of h.meaning) (IsEndMeaning None h.meaning) result
          (own_end None h.meaning) h.is_status;
      usual = h.usual;
      writes = h.writes;
    }

    pub may_be_linked : (fuel : ℕ) (kernels : List Kernel)
        → link_run (items_run Plain fuel (named_program_of p)) ≡ in_one kernels → AreLinkable kernels
    may_be_linked fuel kernels is =
        (linked_kernels fuel bytes (named_program_of p) kernels found accepted is).linkable

    -- a bad record of its run
    pub bad_written : {shown : Shown} {fuel : ℕ} {held digest : List ℕ}
        → IsBadRecord (mode_of shown) (program_of p) fuel held digest → IsBadOf (running bytes fuel shown) held digest
    bad_written {shown} {fuel} {held} {digest} bad =
        of_run (named_program_of p) found accepted
        (subst (λ q. IsBadRecord (mode_of shown) q fuel held digest) (sym (unnamed_program p)) bad)

-- a refused source means no kernels
pub refused_kept : {path : Option (Bor (List ℕ))} {work : Work} (r : Result Status RunFault) (q : Refusal)
    {tells : Bool} {before after : List ℕ} (held now : List ℕ) (texts : List (List ℕ))
    → IsWrittenMeaning path work r tells before after → IfOk r (λ s. s ≡ Refused q) → {shown : Shown}
    {kernels : List Kernel} {e : Ending} → IsMeaning work (ran shown kernels e) → IsKeptOf texts r held now
refused_kept {path} {work} (Ok s) q held now texts w is {shown} {kernels} {e} means =
    let same = one_meaning work w.meaning (ran shown kernels e) w.is_meaning means in
    let ended : IsEndMeaning path (ran shown kernels e) s = subst (λ m. IsEndMeaning path m s) same w.is_status in
    absurd (ran_not_refused path s q (of_end ended) is)
  where
    of_end : IsEndMeaning path (ran shown kernels e) s → IsEnded path s
    of_end (inl own) = inl (e, own)
    of_end (inr unkept) = inr unkept
refused_kept (Err f) q held now texts w is means = tt
