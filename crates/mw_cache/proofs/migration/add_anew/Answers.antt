use Rattle.std.proofs.Common.{◌∙◌}
use Rattle.mw_term.specs.Terms.{expression_of, kernel_type_of}
use Rattle.mw_cache.proofs.MigratedRecords.{adds_none, adds_one, spends}
use Rattle.mw_cache.proofs.migration.add_anew.Goals as goal

pub returns-then-is_some-clause-added : goal.returns-then-is_some-clause-added
returns-then-is_some-clause-added g c =
    adds_none c.args.load.now (expression_of c.args.code.now) (kernel_type_of c.args.kind.now) c.as_slice.result.now
    c.args.records.now c.find.result c.is_some.result (c.as_slice.ensures.value ∙ c.in_ok-text.ensures.text)
    c.find.ensures c.is_some.ensures c.if-is_some.true

pub returns-clause-added : goal.returns-clause-added
returns-clause-added g c =
    adds_one c.args.load.now (expression_of c.args.code.now) (kernel_type_of c.args.kind.now) c.as_slice.result.now
    c.find.result c.is_some.result (c.as_slice.ensures.value ∙ c.in_ok-text.ensures.text) c.find.ensures
    c.is_some.ensures c.if-is_some.false c.in_ok-entry.entry c.in_ok-entry.ensures.entry
    (record { text = c.text.result.now; bytes = c.bytes.result.now }) c.text.ensures.text c.bytes.ensures.bytes
    c.args.records.now c.push.new.self c.in_ok-items.items.items c.push.result c.in_ok-items.ensures c.push.ensures.ok

pub returns-clause-spent : goal.returns-clause-spent
returns-clause-spent g c =
    spends c.push.result c.args.steps.now c.emit_named.new.steps c.args.records.now c.push.new.self
    c.in_ok-items.items.items c.in_ok-entry.ensures.step c.push.ensures.ok
