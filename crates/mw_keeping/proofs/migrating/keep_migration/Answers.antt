use Rattle.std.proofs.Common.{sym, arith}
use Rattle.mw_keeping.proofs.GrownFiles.{grown_stays, grown_then, front_of, migrated_emissions}
use Rattle.mw_keeping.proofs.KeptFiles.{good_within, front_stays, answer_says}
use Rattle.mw_keeping.proofs.Migrations.{migrated_file}
use Rattle.mw_keeping.proofs.migrating.keep_migration.Goals as goal

pub cut_back-requires : goal.cut_back-requires
cut_back-requires g c = λ tells.
    let within = good_within _ c.args.migration.now.load (c.requires tells).read.is_load in
    let same = c.good-good.ensures.good in
    omega (arith, within, same)

pub returns-in_err-cut_back-clause-front : goal.returns-in_err-cut_back-clause-front
returns-in_err-cut_back-clause-front g c = λ tells. front_stays _ _ (c.in_err-cut_back.ensures.same tells)

pub returns-clause-kept : goal.returns-clause-kept
returns-clause-kept g c =
    let m = c.args.migration.now in
    let same = c.good-good.ensures.good in
    answer_says c.append_fitting.result c.append_fitting.ensures.fitting
    (λ fit tells.
    let here = c.requires tells in
    let cut = c.in_ok-cut_back.ensures.cut tells m.load (sym same) here.read in
    migrated_file _ _ _ m here (rw same at cut) (rw same at fit here.records here.bytes tells))

pub returns-clause-front : goal.returns-clause-front
returns-clause-front g c = λ tells.
    let m = c.args.migration.now in
    let same = c.good-good.ensures.good in
    let here = c.requires tells in
    let cut = c.in_ok-cut_back.ensures.cut tells m.load (sym same) here.read in
    let added = c.append_fitting.ensures.front here.records here.bytes tells in
    front_of _ _ _ m.load here.read.is_load (rw same at cut) here.records added

pub returns-in_err-cut_back-clause-right : goal.returns-in_err-cut_back-clause-right
returns-in_err-cut_back-clause-right g c = λ tells. grown_stays _ _ (c.in_err-cut_back.ensures.same tells)

pub returns-clause-right : goal.returns-clause-right
returns-clause-right g c = λ tells.
    let m = c.args.migration.now in
    let same = c.good-good.ensures.good in
    let here = c.requires tells in
    let cut = c.in_ok-cut_back.ensures.cut tells m.load (sym same) here.read in
    let added = c.append_fitting.ensures.front here.records here.bytes tells in
    let right = migrated_emissions m.load m.load.records m.old here.records here.are in
    grown_then _ _ _ m.load here.read.is_load (rw same at cut) here.records right added
