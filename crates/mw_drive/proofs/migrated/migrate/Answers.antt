use Rattle.std.proofs.Common.{refl, sym, subst}
use Rattle.mw_keeping.specs.CacheFiles.{IsStartedWith, IsStartedAtMost}
use Rattle.mw_console.specs.declared.status.Status.TheVariants.{Answer, Write, Cache, Memory}
use Rattle.mw_keeping.proofs.KeptFiles.{front_stays}
use Rattle.mw_keeping.specs.GrownFiles.{GrowsRight}
use Rattle.mw_keeping.proofs.GrownFiles.{grown_stays}
use Rattle.mw_drive.specs.Extents.{on_a_cache}
use Rattle.mw_drive.proofs.Fronts.{whole_grows}
use Rattle.mw_drive.proofs.Reports.{file_report, carried_report, carried_some, carried_all, front_since}
use Rattle.mw_drive.proofs.migrated.migrate.Goals as goal

pub returns-in-Err-Failed-clause-held : goal.returns-in-Err-Failed-clause-held
returns-in-Err-Failed-clause-held g c = λ tells. front_stays _ _ (c.uncounted.ensures.same tells)

pub returns-in-Err-Memory-clause-held : goal.returns-in-Err-Memory-clause-held
returns-in-Err-Memory-clause-held g c = λ tells. front_stays _ _ (c.uncounted.ensures.same tells)

pub returns-in-Err-Failed-write_numbers-clause-work : goal.returns-in-Err-Failed-write_numbers-clause-work
returns-in-Err-Failed-write_numbers-clause-work g c = λ tells.
    let report = file_report (g.C.Keeper.held c.args.keeper.now) c.in-Ok.found (c.in-Ok.ensures.found tells) in
    carried_some on_a_cache _ _ _ Answer Write report refl c.in-Err-Failed-write_numbers.ensures.writes

pub returns-in-Err-Memory-write_numbers-clause-work : goal.returns-in-Err-Memory-write_numbers-clause-work
returns-in-Err-Memory-write_numbers-clause-work g c = λ tells.
    let report = file_report (g.C.Keeper.held c.args.keeper.now) c.in-Ok.found (c.in-Ok.ensures.found tells) in
    carried_some on_a_cache _ _ _ Answer (Memory c.in-Err-Memory-write_numbers.error) report refl
    c.in-Err-Memory-write_numbers.ensures.writes

pub returns-in-Err-Memory-write_numbers-clause-held : goal.returns-in-Err-Memory-write_numbers-clause-held
returns-in-Err-Memory-write_numbers-clause-held g c = λ tells. front_stays _ _ (c.uncounted.ensures.same tells)

pub returns-in-Ok-keep_migration-clause-work : goal.returns-in-Ok-keep_migration-clause-work
returns-in-Ok-keep_migration-clause-work g c = λ tells.
    let report = file_report (g.C.Keeper.held c.args.keeper.now) c.in-Ok.found (c.in-Ok.ensures.found tells) in
    carried_report on_a_cache _ _ _ Answer report c.in-Ok-write_numbers.ensures.writes

pub returns-in-Err-Failed-keep_migration-clause-work : goal.returns-in-Err-Failed-keep_migration-clause-work
returns-in-Err-Failed-keep_migration-clause-work g c = λ tells.
    let report = file_report (g.C.Keeper.held c.args.keeper.now) c.in-Ok.found (c.in-Ok.ensures.found tells) in
    carried_all on_a_cache _ _ _ Answer Cache report refl c.in-Ok-write_numbers.ensures.writes

pub returns-clause-work : goal.returns-clause-work
returns-clause-work g c = λ tells.
    let report = file_report (g.C.Keeper.held c.args.keeper.now) c.in-Ok.found (c.in-Ok.ensures.found tells) in
    carried_some on_a_cache _ _ _ Answer (Memory c.in-Err-Memory-keep_migration.error) report refl
    (λ t. whole_grows _ _ _ (c.in-Ok-write_numbers.ensures.writes t))

pub returns-in-Err-Failed-keep_migration-clause-held : goal.returns-in-Err-Failed-keep_migration-clause-held
returns-in-Err-Failed-keep_migration-clause-held g c = λ tells.
    front_since _ _ _ (c.uncounted.ensures.same tells) (c.keep_migration.ensures.front tells)

pub returns-clause-held : goal.returns-clause-held
returns-clause-held g c = λ tells.
    front_since _ _ _ (c.uncounted.ensures.same tells) (c.keep_migration.ensures.front tells)

pub returns-in-Ok-keep_migration-clause-opened : goal.returns-in-Ok-keep_migration-clause-opened
returns-in-Ok-keep_migration-clause-opened g c = λ tells.
    subst (IsStartedWith c.args.path.now _) (sym (c.keep_migration.ensures.same_names tells))
    (c.in-Ok.ensures.started tells)

pub returns-in-Err-Failed-keep_migration-clause-opened : goal.returns-in-Err-Failed-keep_migration-clause-opened
returns-in-Err-Failed-keep_migration-clause-opened g c = λ tells.
    subst (IsStartedAtMost c.args.path.now _) (sym (c.keep_migration.ensures.same_names tells))
    (c.uncounted.ensures.no_other tells)

pub returns-clause-opened : goal.returns-clause-opened
returns-clause-opened g c = λ tells.
    subst (IsStartedAtMost c.args.path.now _) (sym (c.keep_migration.ensures.same_names tells))
    (c.uncounted.ensures.no_other tells)

pub returns-in-Err-Failed-clause-right : goal.returns-in-Err-Failed-clause-right
returns-in-Err-Failed-clause-right g c = λ tells. grown_stays _ _ (c.uncounted.ensures.same tells)

pub returns-in-Err-Memory-clause-right : goal.returns-in-Err-Memory-clause-right
returns-in-Err-Memory-clause-right g c = λ tells. grown_stays _ _ (c.uncounted.ensures.same tells)

pub returns-in-Err-Failed-write_numbers-clause-right : goal.returns-in-Err-Failed-write_numbers-clause-right
returns-in-Err-Failed-write_numbers-clause-right g c = λ tells. grown_stays _ _ (c.uncounted.ensures.same tells)

pub returns-in-Err-Memory-write_numbers-clause-right : goal.returns-in-Err-Memory-write_numbers-clause-right
returns-in-Err-Memory-write_numbers-clause-right g c = λ tells. grown_stays _ _ (c.uncounted.ensures.same tells)

pub returns-in-Ok-keep_migration-clause-right : goal.returns-in-Ok-keep_migration-clause-right
returns-in-Ok-keep_migration-clause-right g c = λ tells.
    subst (λ h. GrowsRight h (g.C.Keeper.held c.keep_migration.new.keeper)) (c.uncounted.ensures.same tells)
    (c.keep_migration.ensures.right tells)

pub returns-in-Err-Failed-keep_migration-clause-right : goal.returns-in-Err-Failed-keep_migration-clause-right
returns-in-Err-Failed-keep_migration-clause-right g c = λ tells.
    subst (λ h. GrowsRight h (g.C.Keeper.held c.keep_migration.new.keeper)) (c.uncounted.ensures.same tells)
    (c.keep_migration.ensures.right tells)

pub returns-clause-right : goal.returns-clause-right
returns-clause-right g c = λ tells.
    subst (λ h. GrowsRight h (g.C.Keeper.held c.keep_migration.new.keeper)) (c.uncounted.ensures.same tells)
    (c.keep_migration.ensures.right tells)
