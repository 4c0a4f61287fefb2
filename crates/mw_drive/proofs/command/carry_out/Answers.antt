use Rattle.std.proofs.Common.{◌≡◌, inl, inr, ◌∙◌, List, [], ℕ, option_map, refl, sym, ap, subst}
use denote.Ref.{Bor}
use Rattle.mw_words.specs.Words.{word_in, migrate, wat, check, cert, recheck}
use Rattle.mw_drive.proofs.CommandStatuses.{evaluates, never_for}
use Rattle.mw_drive.specs.BadRecords.{HasBadRecordOf}
use Rattle.mw_drive.specs.Works.{IsMeaning, ran, certifying}
use Rattle.mw_drive.proofs.Certificates.{means_certified, means_rechecked, carried_as}
use Rattle.mw_drive.specs.Extents.{extent, on_a_file, on_a_cache}
use Rattle.mw_drive.specs.Running.{IsWritten}
use Rattle.mw_keeping.proofs.GrownFiles.{grown_stays}
use Rattle.mw_drive.proofs.HeldFiles.{held_of_run}
use Rattle.mw_drive.proofs.OpenedFiles.{named_path}
use Rattle.mw_drive.specs.OpenedFiles.{IsOpenedWith}
use Rattle.mw_drive.proofs.CommandLemmas.{run_on, erased_on, linked_on, sample_on, migrate_on, wat_on, check_on}
use Rattle.mw_drive.proofs.CommandLemmas.{cert_on, recheck_on, file_carried, same_carried, one_left, two_left}
use Rattle.mw_drive.proofs.CommandLemmas.{one_lacks, two_lack, lacks_one, lacks_none, one_unread, two_unread}
use Rattle.mw_drive.proofs.CommandLemmas.{no_migrated_run}
use Rattle.mw_drive.proofs.CommandLemmas.{kind_mapped, carried_mapped, some_mapped, none_mapped, honest_mapped}
use Rattle.mw_drive.proofs.Options.{none_is_some}
use Rattle.mw_drive.proofs.command.carry_out.Goals as goal

pub returns-in-Run-clause-work : goal.returns-in-Run-clause-work
returns-in-Run-clause-work g c = rw c.in-Run.is (λ contents work has works honest.
    file_carried work (run_on c.mode_when.ensures contents work has works) (λ bytes here.
    carried_mapped word_in c.in-Run.cache
    (c.evaluate_file.ensures.work bytes here (honest_mapped word_in c.in-Run.cache honest))))

pub returns-in-Run-clause-left : goal.returns-in-Run-clause-left
returns-in-Run-clause-left g c = rw c.in-Run.is (one_left c.evaluate_file.ensures.left)

pub returns-in-Run-clause-read : goal.returns-in-Run-clause-read
returns-in-Run-clause-read g c = λ is. rw c.in-Run.is (one_lacks (c.evaluate_file.ensures.read is))

pub returns-in-Run-clause-possible : goal.returns-in-Run-clause-possible
returns-in-Run-clause-possible g c =
    rw c.in-Run.is (evaluates c.in-Run.cache word_in c.in-Run.workers c.in-Run.fuel c.in-Run.simplify c.in-Run.file.now
    c.evaluate_file.result c.evaluate_file.ensures.possible)

pub returns-in-Run-clause-unfailed : goal.returns-in-Run-clause-unfailed
returns-in-Run-clause-unfailed g c =
    rw c.in-Run.is (λ w. c.evaluate_file.ensures.unfailed
    (subst (λ k. IsWritten (extent k c.evaluate_file.result)) (kind_mapped word_in c.in-Run.cache) w))

pub returns-in-Run-clause-sound : goal.returns-in-Run-clause-sound
returns-in-Run-clause-sound g c =
    rw c.in-Run.is (λ w. c.evaluate_file.ensures.sound
    (ap (λ k. extent k c.evaluate_file.result) (sym (kind_mapped word_in c.in-Run.cache)) ∙ w))

pub returns-in-Run-clause-untouched : goal.returns-in-Run-clause-untouched
returns-in-Run-clause-untouched g c (inl read) = c.evaluate_file.ensures.untouched (inl read)
returns-in-Run-clause-untouched g c (inr none) =
    c.evaluate_file.ensures.untouched (inr (none_mapped word_in c.in-Run.cache (rw c.in-Run.is at none)))

pub returns-in-Run-clause-held : goal.returns-in-Run-clause-held
returns-in-Run-clause-held g c = λ some tells.
    let held = g.C.Keeper.held c.args.keeper.now in
    let after = g.C.Keeper.held c.evaluate_file.new.keeper in
    rw c.in-Run.is (held_of_run (option_map word_in c.in-Run.cache) c.evaluate_file.result held after
    (c.evaluate_file.ensures.held (some_mapped word_in c.in-Run.cache (rw c.in-Run.is at some)) tells))

pub returns-in-Run-clause-kept : goal.returns-in-Run-clause-kept
returns-in-Run-clause-kept g c = rw c.in-Run.is (λ contents work has works honest some shown kernels e means.
    let on = run_on c.mode_when.ensures contents work has works in
    c.evaluate_file.ensures.kept on.0 on.1 (honest_mapped word_in c.in-Run.cache honest)
    (some_mapped word_in c.in-Run.cache some) shown kernels e
    (subst (λ w. IsMeaning w (ran shown kernels e)) on.2 means))

pub returns-in-Run-clause-printed : goal.returns-in-Run-clause-printed
returns-in-Run-clause-printed g c = rw c.in-Run.is (λ some ended tells.
    c.evaluate_file.ensures.printed (some_mapped word_in c.in-Run.cache some) tells ended)

pub returns-in-Run-clause-bad : goal.returns-in-Run-clause-bad
returns-in-Run-clause-bad g c = rw c.in-Run.is (λ digest contents work told has works.
    let on = run_on c.mode_when.ensures contents work has works in
    subst (λ w. HasBadRecordOf w g.C.Keeper.tells (g.C.Keeper.held c.args.keeper.now) digest) (sym on.2)
    (c.evaluate_file.ensures.bad digest on.0 told on.1))

pub returns-in-Erased-clause-work : goal.returns-in-Erased-clause-work
returns-in-Erased-clause-work g c = rw c.in-Erased.is (λ contents work has works honest.
    file_carried work (erased_on contents work has works) (λ bytes here.
    c.evaluate_file-in-Erased.ensures.work bytes here (λ some. absurd (none_is_some (Bor (List ℕ)) some))))

pub returns-in-Erased-clause-left : goal.returns-in-Erased-clause-left
returns-in-Erased-clause-left g c = rw c.in-Erased.is (one_left c.evaluate_file-in-Erased.ensures.left)

pub returns-in-Erased-clause-read : goal.returns-in-Erased-clause-read
returns-in-Erased-clause-read g c = λ is. rw c.in-Erased.is (one_lacks (c.evaluate_file-in-Erased.ensures.read is))

pub returns-in-Erased-clause-bad : goal.returns-in-Erased-clause-bad
returns-in-Erased-clause-bad g c = rw c.in-Erased.is (λ digest contents work told has works.
    let on = erased_on contents work has works in
    subst (λ w. HasBadRecordOf w g.C.Keeper.tells (g.C.Keeper.held c.args.keeper.now) digest) (sym on.2)
    (c.evaluate_file-in-Erased.ensures.bad digest on.0 told on.1))

pub returns-in-Link-clause-work : goal.returns-in-Link-clause-work
returns-in-Link-clause-work g c = rw c.in-Link.is (λ contents work has works honest.
    file_carried work (linked_on contents work has works) (λ bytes here.
    c.evaluate_file-in-Link.ensures.work bytes here (λ some. absurd (none_is_some (Bor (List ℕ)) some))))

pub returns-in-Link-clause-left : goal.returns-in-Link-clause-left
returns-in-Link-clause-left g c = rw c.in-Link.is (one_left c.evaluate_file-in-Link.ensures.left)

pub returns-in-Link-clause-read : goal.returns-in-Link-clause-read
returns-in-Link-clause-read g c = λ is. rw c.in-Link.is (one_lacks (c.evaluate_file-in-Link.ensures.read is))

pub returns-in-Link-clause-bad : goal.returns-in-Link-clause-bad
returns-in-Link-clause-bad g c = rw c.in-Link.is (λ digest contents work told has works.
    let on = linked_on contents work has works in
    subst (λ w. HasBadRecordOf w g.C.Keeper.tells (g.C.Keeper.held c.args.keeper.now) digest) (sym on.2)
    (c.evaluate_file-in-Link.ensures.bad digest on.0 told on.1))

pub evaluate_file-requires-in-Link-clause-possible : goal.evaluate_file-requires-in-Link-clause-possible
evaluate_file-requires-in-Link-clause-possible g c = λ κs live.
    c.requires.linkers c.in-Link.workers c.in-Link.fuel c.in-Link.file.now (rw c.in-Link.is refl)

pub run_sample-requires-clause-some : goal.run_sample-requires-clause-some
run_sample-requires-clause-some g c = λ κs live. (c.requires.range c.in-Sample.number (rw c.in-Sample.is refl)).0

pub run_sample-requires-clause-within_limit : goal.run_sample-requires-clause-within_limit
run_sample-requires-clause-within_limit g c =
    λ κs live. (c.requires.range c.in-Sample.number (rw c.in-Sample.is refl)).1

pub returns-in-Sample-clause-work : goal.returns-in-Sample-clause-work
returns-in-Sample-clause-work g c = rw c.in-Sample.is (λ contents work has works honest.
    same_carried work (sample_on contents work works) c.run_sample.ensures.work)

pub returns-in-Run-clause-missing : goal.returns-in-Run-clause-missing
returns-in-Run-clause-missing g c = λ lacks. c.evaluate_file.ensures.missing (lacks_one (rw c.in-Run.is at lacks))

pub evaluate_file-requires-clause-possible : goal.evaluate_file-requires-clause-possible
evaluate_file-requires-clause-possible g c = λ κs live. (
  c.requires.workers c.in-Run.workers c.in-Run.fuel c.in-Run.simplify (option_map word_in c.in-Run.cache)
      c.in-Run.file.now (rw c.in-Run.is refl),
  λ e. absurd (cc),
)

pub returns-in-Wat-clause-work : goal.returns-in-Wat-clause-work
returns-in-Wat-clause-work g c = rw c.in-Wat.is (λ contents work has works honest.
    file_carried work (wat_on contents work has works) c.inquire.ensures.work)

pub returns-in-Wat-clause-left : goal.returns-in-Wat-clause-left
returns-in-Wat-clause-left g c = rw c.in-Wat.is (one_left c.inquire.ensures.left)

pub returns-in-Wat-clause-read : goal.returns-in-Wat-clause-read
returns-in-Wat-clause-read g c = λ is. rw c.in-Wat.is (one_lacks (c.inquire.ensures.read is))

pub returns-in-Wat-clause-cache : goal.returns-in-Wat-clause-cache
returns-in-Wat-clause-cache g c = λ is. absurd
    (never_for (wat []) c.inquire.result c.inquire.ensures.possible
    (ap (extent on_a_file) is))

pub returns-in-Wat-clause-bad : goal.returns-in-Wat-clause-bad
returns-in-Wat-clause-bad g c = λ digest contents work is. absurd
    (never_for (wat []) c.inquire.result c.inquire.ensures.possible (ap (extent on_a_file) is))

pub returns-in-Check-clause-work : goal.returns-in-Check-clause-work
returns-in-Check-clause-work g c = rw c.in-Check.is (λ contents work has works honest.
    file_carried work (check_on contents work has works) c.inquire-in-Check.ensures.work)

pub returns-in-Check-clause-left : goal.returns-in-Check-clause-left
returns-in-Check-clause-left g c = rw c.in-Check.is (one_left c.inquire-in-Check.ensures.left)

pub returns-in-Check-clause-read : goal.returns-in-Check-clause-read
returns-in-Check-clause-read g c = λ is. rw c.in-Check.is (one_lacks (c.inquire-in-Check.ensures.read is))

pub returns-in-Check-clause-cache : goal.returns-in-Check-clause-cache
returns-in-Check-clause-cache g c = λ is. absurd
    (never_for (check []) c.inquire-in-Check.result c.inquire-in-Check.ensures.possible
    (ap (extent on_a_file) is))

pub returns-in-Check-clause-bad : goal.returns-in-Check-clause-bad
returns-in-Check-clause-bad g c = λ digest contents work is. absurd
    (never_for (check []) c.inquire-in-Check.result c.inquire-in-Check.ensures.possible (ap (extent on_a_file) is))

pub returns-in-Migrate-clause-work : goal.returns-in-Migrate-clause-work
returns-in-Migrate-clause-work g c = rw c.in-Migrate.is (λ contents work has works honest.
    let on = migrate_on contents work works in same_carried work on.1 (c.migrate.ensures.work on.0))

pub returns-in-Migrate-clause-bad : goal.returns-in-Migrate-clause-bad
returns-in-Migrate-clause-bad g c = λ digest contents work is. absurd
    (never_for (migrate []) c.migrate.result c.migrate.ensures.possible (ap (extent on_a_cache) is))

pub returns-in-Wat-clause-missing : goal.returns-in-Wat-clause-missing
returns-in-Wat-clause-missing g c = λ lacks. c.inquire.ensures.missing (lacks_one (rw c.in-Wat.is at lacks))

pub returns-in-Check-clause-missing : goal.returns-in-Check-clause-missing
returns-in-Check-clause-missing g c = λ lacks. c.inquire-in-Check.ensures.missing
    (lacks_one (rw c.in-Check.is at lacks))

pub returns-in-Migrate-clause-refused : goal.returns-in-Migrate-clause-refused
returns-in-Migrate-clause-refused g c = λ r refused. absurd (c.migrate.ensures.accepted r refused)

pub returns-in-Migrate-clause-kept : goal.returns-in-Migrate-clause-kept
returns-in-Migrate-clause-kept g c = λ contents work has works honest some shown kernels e means.
    let on = migrate_on contents work (rw c.in-Migrate.is at works) in
    absurd (no_migrated_run (subst (λ w. IsMeaning w (ran shown kernels e)) on.1 means))

pub returns-in-Run-clause-opened : goal.returns-in-Run-clause-opened
returns-in-Run-clause-opened g c = rw c.in-Run.is (λ path is tells.
    let named = named_path c.in-Run.cache path is in
    subst (λ p. IsOpenedWith c.evaluate_file.result p (g.C.Keeper.opened c.args.keeper.now)
    (g.C.Keeper.opened c.evaluate_file.new.keeper)) named.2 (c.evaluate_file.ensures.opened named.0 named.1 tells))

pub returns-in-Migrate-clause-opened : goal.returns-in-Migrate-clause-opened
returns-in-Migrate-clause-opened g c = rw c.in-Migrate.is (λ path is tells.
    let same : c.in-Migrate.cache.now ≡ path = cc in
    subst (λ p. IsOpenedWith c.migrate.result p (g.C.Keeper.opened c.args.keeper.now)
    (g.C.Keeper.opened c.migrate.new.keeper)) same (c.migrate.ensures.opened tells))

pub returns-in-Erased-clause-missing : goal.returns-in-Erased-clause-missing
returns-in-Erased-clause-missing g c = λ lacks. c.evaluate_file-in-Erased.ensures.missing
    (lacks_one (rw c.in-Erased.is at lacks))

pub returns-in-Link-clause-missing : goal.returns-in-Link-clause-missing
returns-in-Link-clause-missing g c = λ lacks. c.evaluate_file-in-Link.ensures.missing
    (lacks_one (rw c.in-Link.is at lacks))

-- Where a file is lacking, nothing is written.
pub returns-in-Run-clause-lacking : goal.returns-in-Run-clause-lacking
returns-in-Run-clause-lacking g c =
    rw c.in-Run.is (one_unread c.evaluate_file.result g.K.Sink.tells _ _ c.evaluate_file.ensures.missing
    c.evaluate_file.ensures.nothing)

pub returns-in-Erased-clause-lacking : goal.returns-in-Erased-clause-lacking
returns-in-Erased-clause-lacking g c =
    rw c.in-Erased.is (one_unread c.evaluate_file-in-Erased.result g.K.Sink.tells _ _
    c.evaluate_file-in-Erased.ensures.missing c.evaluate_file-in-Erased.ensures.nothing)

pub returns-in-Link-clause-lacking : goal.returns-in-Link-clause-lacking
returns-in-Link-clause-lacking g c =
    rw c.in-Link.is (one_unread c.evaluate_file-in-Link.result g.K.Sink.tells _ _
    c.evaluate_file-in-Link.ensures.missing c.evaluate_file-in-Link.ensures.nothing)

pub returns-in-Sample-clause-lacking : goal.returns-in-Sample-clause-lacking
returns-in-Sample-clause-lacking g c = rw c.in-Sample.is (λ lacks. lacks_none lacks)

pub returns-in-Migrate-clause-lacking : goal.returns-in-Migrate-clause-lacking
returns-in-Migrate-clause-lacking g c = rw c.in-Migrate.is (λ lacks. lacks_none lacks)

pub returns-in-Wat-clause-lacking : goal.returns-in-Wat-clause-lacking
returns-in-Wat-clause-lacking g c =
    rw c.in-Wat.is (one_unread c.inquire.result g.K.Sink.tells _ _ c.inquire.ensures.missing
    c.inquire.ensures.nothing)

pub returns-in-Check-clause-lacking : goal.returns-in-Check-clause-lacking
returns-in-Check-clause-lacking g c =
    rw c.in-Check.is (one_unread c.inquire-in-Check.result g.K.Sink.tells _ _ c.inquire-in-Check.ensures.missing
    c.inquire-in-Check.ensures.nothing)

-- The certificate of a source.
pub returns-in-Cert-clause-work : goal.returns-in-Cert-clause-work
returns-in-Cert-clause-work g c = rw c.in-Cert.is (λ contents work has works honest.
    file_carried work (cert_on contents work has works) (λ bytes here.
    carried_as (certifying bytes) (means_certified bytes) (c.inquire-in-Cert.ensures.work bytes here)))

pub returns-in-Cert-clause-left : goal.returns-in-Cert-clause-left
returns-in-Cert-clause-left g c = rw c.in-Cert.is (one_left c.inquire-in-Cert.ensures.left)

pub returns-in-Cert-clause-read : goal.returns-in-Cert-clause-read
returns-in-Cert-clause-read g c = λ is. rw c.in-Cert.is (one_lacks (c.inquire-in-Cert.ensures.read is))

pub returns-in-Cert-clause-missing : goal.returns-in-Cert-clause-missing
returns-in-Cert-clause-missing g c = λ lacks. c.inquire-in-Cert.ensures.missing (lacks_one (rw c.in-Cert.is at lacks))

pub returns-in-Cert-clause-lacking : goal.returns-in-Cert-clause-lacking
returns-in-Cert-clause-lacking g c =
    rw c.in-Cert.is (one_unread c.inquire-in-Cert.result g.K.Sink.tells _ _ c.inquire-in-Cert.ensures.missing
    c.inquire-in-Cert.ensures.nothing)

pub returns-in-Cert-clause-cache : goal.returns-in-Cert-clause-cache
returns-in-Cert-clause-cache g c = λ is. absurd
    (never_for (cert []) c.inquire-in-Cert.result c.inquire-in-Cert.ensures.possible
    (ap (extent on_a_file) is))

pub returns-in-Cert-clause-bad : goal.returns-in-Cert-clause-bad
returns-in-Cert-clause-bad g c = λ digest contents work is. absurd
    (never_for (cert []) c.inquire-in-Cert.result c.inquire-in-Cert.ensures.possible (ap (extent on_a_file) is))

-- A text and a source.
pub returns-in-Recheck-clause-work : goal.returns-in-Recheck-clause-work
returns-in-Recheck-clause-work g c = rw c.in-Recheck.is (λ contents work has works honest.
    let on = recheck_on contents work has works in
    same_carried work on.is_work (carried_as _ (means_rechecked _ on.bytes)
    (c.recheck.ensures.work on.bytes on.text on.has_source on.has_text)))

pub returns-in-Recheck-clause-left : goal.returns-in-Recheck-clause-left
returns-in-Recheck-clause-left g c = rw c.in-Recheck.is (two_left c.recheck.ensures.left)

pub returns-in-Recheck-clause-read : goal.returns-in-Recheck-clause-read
returns-in-Recheck-clause-read g c = λ is. rw c.in-Recheck.is (two_lack (c.recheck.ensures.read is))

pub returns-in-Recheck-clause-missing : goal.returns-in-Recheck-clause-missing
returns-in-Recheck-clause-missing g c = λ lacks. c.recheck.ensures.missing (lacks_one (rw c.in-Recheck.is at lacks))

pub returns-in-Recheck-clause-lacking : goal.returns-in-Recheck-clause-lacking
returns-in-Recheck-clause-lacking g c =
    rw c.in-Recheck.is (two_unread c.recheck.result g.K.Sink.tells _ _ c.recheck.ensures.missing
    c.recheck.ensures.nothing c.recheck.ensures.lacking)

pub returns-in-Recheck-clause-cache : goal.returns-in-Recheck-clause-cache
returns-in-Recheck-clause-cache g c = λ is. absurd
    (never_for (recheck [] []) c.recheck.result c.recheck.ensures.possible
    (ap (extent on_a_file) is))

pub returns-in-Recheck-clause-bad : goal.returns-in-Recheck-clause-bad
returns-in-Recheck-clause-bad g c = λ digest contents work is. absurd
    (never_for (recheck [] []) c.recheck.result c.recheck.ensures.possible (ap (extent on_a_file) is))

-- A sample leaves the keeper alone.
pub returns-in-Sample-clause-right : goal.returns-in-Sample-clause-right
returns-in-Sample-clause-right g c = λ tells. grown_stays _ _ (ap g.C.Keeper.held c.run_sample.ensures.untouched)
