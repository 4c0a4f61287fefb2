use Rattle.std.proofs.Common.{inl, inr, ◌∙◌, List, ℕ, map, refl, sym, subst}
use Rattle.mw_drive.specs.BadRecords.{IsBadOf}
use Rattle.mw_keeping.proofs.KeptFiles.{front_stays}
use Rattle.mw_drive.specs.Works.{IsMeaning, ran, mode_of, run_text}
use Rattle.mw_drive.specs.ProgramRuns.{evaluated, cache_of}
use Rattle.mw_drive.specs.Running.{kind_with}
use Rattle.mw_drive.proofs.CommandLemmas.{carried_memory}
use Rattle.mw_drive.proofs.OpenedFiles.{opened_status}
use Rattle.mw_drive.proofs.RunLemmas.{carried, written_as, front_told, means_evaluated, kind_over}
use Rattle.mw_drive.proofs.CommandStatuses.{source_for, read_for, memory_for}
use Rattle.mw_drive.proofs.RunLemmas.{no_path, ran_whole, bad_whole}
use Rattle.mw_drive.proofs.Statuses.{not_read, refused_status, unkept_status, bad_status, sound_status, held_status}
use Rattle.mw_drive.proofs.Statuses.{kept_status}
use Rattle.mw_drive.proofs.PrintedKernels.{printed_status, read_no_ending, memory_no_ending}
use Rattle.mw_drive.proofs.command.evaluate_file.Goals as goal

pub returns-in-Err-Memory-clause-work : goal.returns-in-Err-Memory-clause-work
returns-in-Err-Memory-clause-work g c = λ bytes has honest.
    carried_memory (kind_with (cache_of c.args.evaluation)) (evaluated c.args.evaluation bytes c.args.fuel) _
    g.K.Sink.tells _

pub returns-clause-work : goal.returns-clause-work
returns-clause-work g c = λ bytes has honest.
    let read = c.as_slice.ensures.value ∙ front_told c.in-Ok.bytes.items has c.in-Ok.ensures.ok in
    let work = evaluated c.args.evaluation bytes c.args.fuel in
    let path = cache_of c.args.evaluation in
    carried path (kind_with path) (kind_over path) _ _ work c.write_source.result c.status_of.result
    (written_as work
    (λ m h. means_evaluated c.args.evaluation bytes c.args.fuel m
    (subst (λ (b : List ℕ). IsMeaning (evaluated c.args.evaluation b c.args.fuel) m) read h))
    (c.write_source.ensures.meaning honest)) c.status_of.ensures

pub returns-clause-possible : goal.returns-clause-possible
returns-clause-possible g c =
    let path = cache_of c.args.evaluation in
    source_for path c.status_of.result c.write_source.result c.status_of.ensures c.write_source.ensures.ended
    (λ none. (c.write_source.ensures.meaning (no_path path none)).usual)

pub returns-in-Err-Failed-clause-possible : goal.returns-in-Err-Failed-clause-possible
returns-in-Err-Failed-clause-possible g c = read_for (cache_of c.args.evaluation)

pub returns-in-Err-Memory-clause-possible : goal.returns-in-Err-Memory-clause-possible
returns-in-Err-Memory-clause-possible g c = memory_for (cache_of c.args.evaluation) _

pub returns-clause-refused : goal.returns-clause-refused
returns-clause-refused g c = λ r refused.
    refused_status c.status_of.result r c.write_source.result c.status_of.ensures c.write_source.ensures.refused refused

pub returns-clause-untouched : goal.returns-clause-untouched
returns-clause-untouched g c (inl read) =
    absurd (not_read c.status_of.result (cache_of c.args.evaluation) c.write_source.result c.status_of.ensures
    c.write_source.ensures.ended read)
returns-clause-untouched g c (inr none) = c.write_source.ensures.untouched none

pub returns-clause-held : goal.returns-clause-held
returns-clause-held g c = λ some tells.
    held_status c.status_of.result _ _ c.write_source.result c.status_of.ensures
    (c.write_source.ensures.held some tells)

pub returns-clause-kept : goal.returns-clause-kept
returns-clause-kept g c = λ bytes has honest some shown kernels e means.
    let read = c.as_slice.ensures.value ∙ front_told c.in-Ok.bytes.items has c.in-Ok.ensures.ok in
    let whole = read ∙ ran_whole c.args.evaluation bytes c.args.fuel shown kernels e means in
    kept_status c.status_of.result _ _ (map (run_text (mode_of shown)) kernels) c.write_source.result
    c.status_of.ensures
    (c.write_source.ensures.kept some honest shown kernels e
    (subst (λ (b : List ℕ). IsMeaning (evaluated c.args.evaluation b c.args.fuel) (ran shown kernels e)) (sym whole)
    means))

pub returns-clause-printed : goal.returns-clause-printed
returns-clause-printed g c = λ some tells.
    printed_status c.write_source.result c.status_of.result _ _ _ _ _ c.status_of.ensures
    (c.write_source.ensures.printed some tells)

pub returns-in-Err-Failed-clause-printed : goal.returns-in-Err-Failed-clause-printed
returns-in-Err-Failed-clause-printed g c = λ some tells ended. absurd (read_no_ending ended)

pub returns-in-Err-Memory-clause-printed : goal.returns-in-Err-Memory-clause-printed
returns-in-Err-Memory-clause-printed g c = λ some tells ended. absurd (memory_no_ending _ ended)

pub returns-clause-cache : goal.returns-clause-cache
returns-clause-cache g c =
    unkept_status c.status_of.result c.write_source.result c.status_of.ensures c.write_source.ensures.unkept

pub returns-clause-sound : goal.returns-clause-sound
returns-clause-sound g c =
    sound_status c.status_of.result (kind_with (cache_of c.args.evaluation)) c.write_source.result c.status_of.ensures
    c.write_source.ensures.unfailed

pub returns-clause-bad : goal.returns-clause-bad
returns-clause-bad g c = λ digest bytes told has tells.
    let read = c.as_slice.ensures.value ∙ front_told c.in-Ok.bytes.items has c.in-Ok.ensures.ok in
    let held = g.C.Keeper.held c.args.keeper.now in
    bad_whole c.args.evaluation bytes c.args.fuel held digest
    (subst (λ (b : List ℕ). IsBadOf (evaluated c.args.evaluation b c.args.fuel) held digest) read
    (bad_status c.status_of.result (cache_of c.args.evaluation) _ digest c.write_source.result c.status_of.ensures
    c.write_source.ensures.ended c.write_source.ensures.bad told tells))

pub returns-in-Err-Memory-clause-held : goal.returns-in-Err-Memory-clause-held
returns-in-Err-Memory-clause-held g c = λ some tells. front_stays _ _ refl

pub returns-clause-opened : goal.returns-clause-opened
returns-clause-opened g c = λ path is tells.
    opened_status path.now _ _ c.status_of.result c.write_source.result c.status_of.ensures
    (c.write_source.ensures.opened path is tells)
