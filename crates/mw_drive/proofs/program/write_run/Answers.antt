use Rattle.std.proofs.Common.{◌≡◌, ℕ, List, IsTrue, inl, inr, map, sym, ap, ◌∙◌, subst}
use Rattle.mw_term.specs.Programs.{program_of}
use Rattle.mw_store.specs.Loads.{IsLoadOf}
use Rattle.mw_cache.specs.Gots.{CacheState}
use Rattle.mw_cache.specs.HonestFiles.{IsHonest}
use Rattle.mw_cached.specs.StrayRecords.{IsStrayRecord}
use Rattle.mw_keeping.specs.KeptFiles.{HasGoodFront}
use Rattle.mw_keeping.specs.GrownFiles.{GrowsRight}
use Rattle.mw_keeping.proofs.GrownFiles.{grown_stays}
use Rattle.mw_drive.specs.BadRecords.{HasBadRecord}
use Rattle.mw_drive.specs.HeldFiles.{CoversAll, texts_built}
use Rattle.mw_drive.specs.OpenedFiles.{IsOpenedWith}
use Rattle.mw_drive.specs.Honest.{IsHonestCache}
use Rattle.mw_drive.specs.ProgramRuns.{kernels_of, HasEnding}
use Rattle.mw_drive.proofs.PrintedKernels.{lines_shown, keeps_printed, unkept_no_ending}
use Rattle.mw_drive.specs.Works.{mode_of, run_text}
use Rattle.mw_drive.proofs.BadRecords.{bad_of_items, bad_of_main, load_of_stray}
use Rattle.mw_drive.proofs.Fronts.{grows_nothing}
use Rattle.mw_drive.proofs.HeldFiles.{texts_are, opened_read, held_failed, held_memory, held_kept, texts_kept}
use Rattle.mw_drive.proofs.HeldFiles.{front_kept, end_of}
use Rattle.mw_drive.proofs.OpenedFiles.{opened_failed, opened_by_file}
use Rattle.mw_drive.proofs.HonestRuns.{opened_honest, no_wrong_item}
use Rattle.mw_drive.proofs.RunFaults.{unwritten_usual, job_is_usual, if_bad, job_bad, passed_bad}
use Rattle.mw_drive.proofs.RunWritten.{some_ending, run_failed, run_passed, run_answered, run_spoiled, same_kernels}
use Rattle.mw_drive.proofs.KernelLines.{modules_here}
use Rattle.mw_drive.proofs.program.write_run.Given.{Over}
use Rattle.mw_drive.proofs.program.write_run.Goals.{After-cache}
use Rattle.mw_drive.proofs.program.write_run.Goals as goal

-- the cache has what was loaded
loaded_is : (g : Over) (c : After-cache g) → c.new-cache.result.load ≡ c.in_ok-load.field-0.load
loaded_is g c = ap (λ (s : CacheState). s.load) c.new-cache.ensures

-- which is honest where the cache file is
right_load : (g : Over) (c : After-cache g)
    → IsHonestCache g.C.Keeper.tells (g.C.Keeper.held c.args.keeper.now) c.args.options.cache
    → IsHonest c.new-cache.result.load
right_load g c honest =
    subst IsHonest (sym (loaded_is g c))
    (opened_honest c.args.options.cache c.in_ok-load.field-0.file c.in_ok-load.field-0.load c.in_ok-load.ensures.opened
    honest)

-- and a load of what the keeper held where it has a stray record
stray_load : (g : Over) (c : After-cache g) → IsTrue g.C.Keeper.tells → (d : List ℕ)
    → IsStrayRecord c.new-cache.result.load d → IsLoadOf (g.C.Keeper.held c.args.keeper.now) c.new-cache.result.load
stray_load g c tells d stray =
    subst (IsLoadOf (g.C.Keeper.held c.args.keeper.now)) (sym (loaded_is g c))
    (load_of_stray g.C.Keeper.tells (g.C.Keeper.held c.args.keeper.now) c.args.options.cache c.in_ok-load.field-0.file
    c.in_ok-load.field-0.load c.in_ok-load.ensures.opened tells d
    (subst (λ l. IsStrayRecord l d) (loaded_is g c) stray))

pub returns-in_err-load-clause-run : goal.returns-in_err-load-clause-run
returns-in_err-load-clause-run g c = λ honest.
    let e = some_ending (mode_of c.args.options.shown) c.args.fuel c.args.program.now c.requires.typable in
    run_failed c.args.program.now _ c.from_residual.ensures.1 (unwritten_usual _) e.2 (λ t. grows_nothing _ _)

pub returns-in_err-load-clause-held : goal.returns-in_err-load-clause-held
returns-in_err-load-clause-held g c = λ some tells.
    held_failed c.from_residual.result _ _ c.from_residual.ensures.0 (c.in_err-load.ensures.same tells)

pub returns-in_err-phase-clause-run : goal.returns-in_err-phase-clause-run
returns-in_err-phase-clause-run g c = λ honest.
    let right = right_load g (goal.at.returns-in_err-phase-clause-run g c).After-cache honest in
    let e = some_ending (mode_of c.args.options.shown) c.args.fuel c.args.program.now c.requires.typable in
    run_failed c.args.program.now _ c.from_residual-in_err-phase.ensures.1
    (job_is_usual c.in_err-phase.field-0.0 (if_bad c.in_err-phase.field-0.0 _ _
    (λ d h. no_wrong_item c.mode.result (program_of c.args.program.now) c.args.fuel c.new-cache.result.load right h.1)
    c.in_err-phase.ensures.bad))
    e.2 (λ t. grows_nothing _ _)

pub returns-in_err-phase-clause-held : goal.returns-in_err-phase-clause-held
returns-in_err-phase-clause-held g c = λ some tells.
    held_failed c.from_residual-in_err-phase.result _ _ c.from_residual-in_err-phase.ensures.0
    (c.in_ok-load.ensures.same tells)

pub returns-in_err-phase-clause-bad : goal.returns-in_err-phase-clause-bad
returns-in_err-phase-clause-bad g c =
    let after = (goal.at.returns-in_err-phase-clause-bad g c).After-cache in
    let mode = mode_of c.args.options.shown in
    let p = program_of c.args.program.now in
    let held = g.C.Keeper.held c.args.keeper.now in
    job_bad c.from_residual-in_err-phase.result c.in_err-phase.field-0.0 c.from_residual-in_err-phase.ensures.1
    (HasBadRecord mode p c.args.fuel g.C.Keeper.tells held)
    (if_bad c.in_err-phase.field-0.0 _ _
    (λ d h tells. bad_of_items mode p c.args.fuel c.new-cache.result held d (stray_load g after tells d h.0)
    (rw c.mode.ensures at h))
    c.in_err-phase.ensures.bad)

pub returns-in_err-ran-clause-run : goal.returns-in_err-ran-clause-run
returns-in_err-ran-clause-run g c = λ honest.
    run_passed _ c.from_residual-in_err-ran.ensures.1
    (c.in_err-ran.ensures.run (right_load g (goal.at.returns-in_err-ran-clause-run g c).After-cache honest))

pub returns-in_err-ran-clause-held : goal.returns-in_err-ran-clause-held
returns-in_err-ran-clause-held g c = λ some tells.
    held_failed c.from_residual-in_err-ran.result _ _ c.from_residual-in_err-ran.ensures.0
    (c.in_ok-load.ensures.same tells)

pub returns-in_err-ran-clause-bad : goal.returns-in_err-ran-clause-bad
returns-in_err-ran-clause-bad g c =
    let after = (goal.at.returns-in_err-ran-clause-bad g c).After-cache in
    let mode = mode_of c.args.options.shown in
    let p = program_of c.args.program.now in
    let held = g.C.Keeper.held c.args.keeper.now in
    passed_bad c.from_residual-in_err-ran.result c.in_err-ran.field-0.0 _
    (HasBadRecord mode p c.args.fuel g.C.Keeper.tells held) c.from_residual-in_err-ran.ensures.1
    (λ d h tells. bad_of_main mode p c.args.fuel c.new-cache.result held d (stray_load g after tells d h.bad.0)
    c.in_ok-phase.phase.outcomes (rw c.mode.ensures at c.in_ok-phase.ensures.outcomes) h)
    c.in_err-ran.ensures.bad

pub keep_run-requires-clause-read : goal.keep_run-requires-clause-read
keep_run-requires-clause-read g c = λ count is tells.
    let loaded = loaded_is g (goal.at.keep_run-requires-clause-read g c).After-cache in
    rw (c.in_ok-load.ensures.same tells, loaded)
    (opened_read c.args.options.cache c.in_ok-load.field-0.file c.in_ok-load.field-0.load c.in_ok-load.ensures.opened
    count is tells)

pub keep_run-requires-clause-built : goal.keep_run-requires-clause-built
keep_run-requires-clause-built g c =
    modules_here (mode_of c.args.options.shown) c.new-cache.result c.in_ok-ran.ran.built.items c.in_ok-ran.ensures.built

pub returns-in_err-keep_run-clause-run : goal.returns-in_err-keep_run-clause-run
returns-in_err-keep_run-clause-run g c = λ honest.
    run_spoiled _ _ c.from_residual-in_err-keep_run.ensures.1 (unwritten_usual _)
    (c.in_ok-ran.ensures.run (right_load g (goal.at.returns-in_err-keep_run-clause-run g c).After-cache honest))

pub returns-in_err-keep_run-clause-held : goal.returns-in_err-keep_run-clause-held
returns-in_err-keep_run-clause-held g c = λ some tells.
    let same = c.in_ok-load.ensures.same tells in
    held_memory c.from_residual-in_err-keep_run.result _ _ _ c.from_residual-in_err-keep_run.ensures.1
    (front_kept g.C.Keeper.tells (g.C.Keeper.held c.args.keeper.now) c.args.options.cache some
    c.in_ok-load.field-0.file c.in_ok-load.field-0.load c.in_ok-load.ensures.opened _
    (λ is. ap g.C.Keeper.held (c.in_err-keep_run.ensures.unread is) ∙ same)
    (λ count is. subst (λ h. HasGoodFront h (g.C.Keeper.held c.keep_run.new.keeper)) same
    (c.in_err-keep_run.ensures.front count is tells)))

pub returns-clause-run : goal.returns-clause-run
returns-clause-run g c = λ honest.
    run_answered (c.in_ok-ran.ensures.run (right_load g (goal.at.returns-clause-run g c).After-cache honest))
    (λ kernels e answers. elim (end_of g.C.Keeper.tells (g.C.Keeper.held c.args.keeper.now) c.args.options.cache
    c.in_ok-load.field-0.file c.in_ok-load.field-0.load c.in_ok-ran.ran.status _ c.in_ok-load.ensures.opened
    c.in_ok-keep_run.ensures.status) [
      | inl own ↦ inl (own ∙ answers.1)
      | inr unkept ↦ inr unkept
    ])

pub returns-clause-ended : goal.returns-clause-ended
returns-clause-ended g c =
    let ended = c.in_ok-ran.ensures.ended in
    elim (end_of g.C.Keeper.tells (g.C.Keeper.held c.args.keeper.now) c.args.options.cache c.in_ok-load.field-0.file
    c.in_ok-load.field-0.load c.in_ok-ran.ran.status _ c.in_ok-load.ensures.opened c.in_ok-keep_run.ensures.status) [
      | inl own ↦ inl (ended.0, own ∙ ended.1)
      | inr unkept ↦ inr unkept
    ]

pub returns-clause-held : goal.returns-clause-held
returns-clause-held g c = λ some tells.
    let same = c.in_ok-load.ensures.same tells in
    let after = g.C.Keeper.held c.keep_run.new.keeper in
    let texts = texts_built c.new-cache.result c.in_ok-ran.ran.built.items in
    held_kept g.C.Keeper.tells (g.C.Keeper.held c.args.keeper.now) c.args.options.cache some
    c.in_ok-load.field-0.file c.in_ok-load.field-0.load c.in_ok-load.ensures.opened _
    (λ is. ap g.C.Keeper.held (c.in_ok-keep_run.ensures.unread is) ∙ same)
    (λ count is. subst (λ h. HasGoodFront h after) same (c.in_ok-keep_run.ensures.front count is tells))
    c.in_ok-ran.ran.status _ c.in_ok-ran.ensures.ended c.in_ok-keep_run.ensures.status texts
    (λ count is other. subst (λ h. CoversAll texts h after) same (c.in_ok-keep_run.ensures.kept count is other tells))

pub returns-clause-kept : goal.returns-clause-kept
returns-clause-kept g c = λ some honest kernels e is other.
    let tells = (honest some).0 in
    let same = c.in_ok-load.ensures.same tells in
    let held = g.C.Keeper.held c.args.keeper.now in
    let after = g.C.Keeper.held c.keep_run.new.keeper in
    let built = c.in_ok-ran.ran.built.items in
    let mode = mode_of c.args.options.shown in
    let written = c.in_ok-ran.ensures.run (right_load g (goal.at.returns-clause-kept g c).After-cache honest) in
    let these : kernels ≡ kernels_of built = same_kernels (sym is ∙ written.is_run) ∙ written.answers.0 in
    let texts = texts_built c.new-cache.result built in
    let are : texts ≡ map (run_text mode) kernels =
    texts_are mode c.new-cache.result built c.in_ok-ran.ensures.built ∙ ap (map (run_text mode)) (sym these) in
    subst (λ ts. CoversAll ts held after) are
    (texts_kept g.C.Keeper.tells held c.args.options.cache some c.in_ok-load.field-0.file c.in_ok-load.field-0.load
    c.in_ok-load.ensures.opened _ (λ is. ap g.C.Keeper.held (c.in_ok-keep_run.ensures.unread is) ∙ same)
    (λ count is. subst (λ h. HasGoodFront h after) same (c.in_ok-keep_run.ensures.front count is tells))
    c.in_ok-ran.ran.status _ c.in_ok-ran.ensures.ended c.in_ok-keep_run.ensures.status texts
    (λ count is other. subst (λ h. CoversAll texts h after) same (c.in_ok-keep_run.ensures.kept count is other tells))
    other)

pub returns-clause-printed : goal.returns-clause-printed
returns-clause-printed g c = λ some tells ended.
    let same = c.in_ok-load.ensures.same tells in
    let held = g.C.Keeper.held c.args.keeper.now in
    let after = g.C.Keeper.held c.keep_run.new.keeper in
    let cache = c.new-cache.result in
    let ran = c.in_ok-ran.ran in
    let texts = texts_built cache ran.built.items in
    let lines = lines_shown c.args.options.shown c.args.options.cache c.requires.totals some in
    elim (end_of g.C.Keeper.tells held c.args.options.cache c.in_ok-load.field-0.file c.in_ok-load.field-0.load
    ran.status _ c.in_ok-load.ensures.opened c.in_ok-keep_run.ensures.status) [
      | inl own ↦
          keeps_printed cache ran _ g.K.Sink.tells _ _ held after (c.in_ok-ran.ensures.printed lines.0 lines.1) own
          (texts_kept g.C.Keeper.tells held c.args.options.cache some c.in_ok-load.field-0.file
          c.in_ok-load.field-0.load c.in_ok-load.ensures.opened _
          (λ is. ap g.C.Keeper.held (c.in_ok-keep_run.ensures.unread is) ∙ same)
          (λ count is. subst (λ h. HasGoodFront h after) same (c.in_ok-keep_run.ensures.front count is tells))
          ran.status _ c.in_ok-ran.ensures.ended c.in_ok-keep_run.ensures.status texts
          (λ count is other. subst (λ h. CoversAll texts h after) same
          (c.in_ok-keep_run.ensures.kept count is other tells))
          (λ unkept. unkept_no_ending (subst HasEnding unkept ended)))
      | inr unkept ↦ absurd (unkept_no_ending (subst HasEnding unkept.1 ended))
    ]

pub returns-in_err-load-clause-opened : goal.returns-in_err-load-clause-opened
returns-in_err-load-clause-opened g c = λ path is tells.
    opened_failed path _ _ c.args.options.cache _ c.from_residual.ensures.0 is (c.in_err-load.ensures.no_other tells)

pub returns-in_err-phase-clause-opened : goal.returns-in_err-phase-clause-opened
returns-in_err-phase-clause-opened g c = λ path is tells.
    opened_failed path _ _ c.args.options.cache _ c.from_residual-in_err-phase.ensures.0 is
    (c.in_ok-load.ensures.no_other tells)

pub returns-in_err-ran-clause-opened : goal.returns-in_err-ran-clause-opened
returns-in_err-ran-clause-opened g c = λ path is tells.
    opened_failed path _ _ c.args.options.cache _ c.from_residual-in_err-ran.ensures.0 is
    (c.in_ok-load.ensures.no_other tells)

pub returns-in_err-keep_run-clause-opened : goal.returns-in_err-keep_run-clause-opened
returns-in_err-keep_run-clause-opened g c = λ path is tells.
    rw (c.in_err-keep_run.ensures.same_names tells)
    (opened_failed path _ _ c.args.options.cache _ c.from_residual-in_err-keep_run.ensures.0 is
    (c.in_ok-load.ensures.no_other tells))

pub returns-clause-opened : goal.returns-clause-opened
returns-clause-opened g c = λ path is tells.
    let old = g.C.Keeper.opened c.args.keeper.now in
    subst (IsOpenedWith _ path.now old) (sym (c.in_ok-keep_run.ensures.same_names tells))
    (opened_by_file path _ _ g.C.Keeper.tells (g.C.Keeper.held c.args.keeper.now) c.in_ok-load.field-0.load
    c.args.options.cache is c.in_ok-load.field-0.file c.in_ok-ran.ran.status _ c.in_ok-load.ensures.opened
    c.in_ok-keep_run.ensures.status (c.in_ok-load.ensures.started tells))

pub returns-in_err-load-clause-right : goal.returns-in_err-load-clause-right
returns-in_err-load-clause-right g c = λ tells. grown_stays _ _ (c.in_err-load.ensures.same tells)

pub returns-in_err-phase-clause-right : goal.returns-in_err-phase-clause-right
returns-in_err-phase-clause-right g c = λ tells. grown_stays _ _ (c.in_ok-load.ensures.same tells)

pub returns-in_err-ran-clause-right : goal.returns-in_err-ran-clause-right
returns-in_err-ran-clause-right g c = λ tells. grown_stays _ _ (c.in_ok-load.ensures.same tells)

pub returns-in_err-keep_run-clause-right : goal.returns-in_err-keep_run-clause-right
returns-in_err-keep_run-clause-right g c = λ tells.
    subst (λ h. GrowsRight h (g.C.Keeper.held c.keep_run.new.keeper)) (c.in_ok-load.ensures.same tells)
    (c.in_err-keep_run.ensures.right tells)

pub returns-clause-right : goal.returns-clause-right
returns-clause-right g c = λ tells.
    subst (λ h. GrowsRight h (g.C.Keeper.held c.keep_run.new.keeper)) (c.in_ok-load.ensures.same tells)
    (c.in_ok-keep_run.ensures.right tells)
