use Rattle.std.proofs.Common.{◌∙◌, ◌+◌, ap, length}
use Rattle.mw_store.specs.Records.{record_bytes}
use Rattle.mw_store.specs.Whole.{kept_in}
use Rattle.mw_store.proofs.MapEntries.{takes_old, takes_new}
use Rattle.mw_store.proofs.load.Load.keep.Goals as goal

pub returns-in-Some : goal.returns-in-Some
returns-in-Some c =
    takes_old c.args.self.now _ (kept_in c.args.found) _
    (ap (λ n. c.self.inside.good + n) c.len.ensures ∙ ap
    (λ s. s.good + length (record_bytes (kept_in c.args.found))) c.self.view_is)
    (ap (λ s. s.records) c.self.view_is) c.in-Some.ensures

pub returns-in-None : goal.returns-in-None
returns-in-None c =
    takes_new c.insert.result c.args.self.now c.insert.new.self _ (kept_in c.args.found)
    (c.insert.ensures.good ∙ ap (λ n. c.self.inside.good + n) c.len.ensures ∙ ap
    (λ s. s.good + length (record_bytes (kept_in c.args.found))) c.self.view_is)
    (ap (λ s. s.records) c.self.view_is) c.in-None.ensures c.insert.ensures.records
