use Rattle.std.proofs.Common.{◌∙◌, ap, position}
use Rattle.std.specs.Str.{bytes_eq}
use Rattle.mw_store.proofs.MapEntries.{same_place}
use Rattle.mw_store.proofs.load.Load.find.Goals as goal

pub returns-in_err-at : goal.returns-in_err-at
returns-in_err-at c =
    c.from_residual.ensures ∙ c.in_err-at.ensures.index ∙ same_place c.args.text.now c.self.inside.records.entries
    ∙ ap (λ s. position (λ l. bytes_eq c.args.text.now l.text) s.records) c.self.view_is

pub returns : goal.returns
returns c = c.in_ok-at.ensures.index ∙ same_place c.args.text.now c.self.inside.records.entries
    ∙ ap (λ s. position (λ l. bytes_eq c.args.text.now l.text) s.records) c.self.view_is
