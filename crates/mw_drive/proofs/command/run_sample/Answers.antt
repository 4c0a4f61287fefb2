use Rattle.std.proofs.Common.{◌∙◌, List, ℕ, None, subst}
use denote.Ref.{Bor}
use Rattle.mw_drive.specs.declared.shown.Shown.TheVariants.{Totals}
use Rattle.mw_drive.specs.Extents.{on_a_number}
use Rattle.mw_drive.specs.Works.{running, sampling, IsMeaning}
use Rattle.mw_drive.proofs.CommandLemmas.{carried_memory}
use Rattle.mw_drive.proofs.CommandStatuses.{sample_for}
use Rattle.mw_drive.proofs.Options.{none_is_some}
use Rattle.mw_drive.proofs.RunLemmas.{carried, written_as}
use Rattle.mw_drive.proofs.command.run_sample.Goals as goal

pub returns-in-Err-clause-work : goal.returns-in-Err-clause-work
returns-in-Err-clause-work g c = carried_memory on_a_number (sampling c.args.number) _ g.K.Sink.tells _

pub returns-clause-work : goal.returns-clause-work
returns-clause-work g c =
    carried None on_a_number (λ some. absurd (none_is_some (Bor (List ℕ)) some)) _ _ (sampling c.args.number)
    c.write_source.result c.status_of.result
    (written_as (sampling c.args.number)
    (λ m h. subst (λ (b : List ℕ). IsMeaning (running b 1000000 Totals) m)
    (c.as_slice.ensures.value ∙ c.in-Ok.ensures) h)
    (c.write_source.ensures.meaning (λ some. absurd (none_is_some (Bor (List ℕ)) some)))) c.status_of.ensures

pub returns-clause-possible : goal.returns-clause-possible
returns-clause-possible g c =
    sample_for c.status_of.result c.write_source.result c.status_of.ensures c.write_source.ensures.ended
    (c.write_source.ensures.meaning (λ some. absurd (none_is_some (Bor (List ℕ)) some))).usual
