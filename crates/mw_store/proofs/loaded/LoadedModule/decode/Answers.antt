use Rattle.std.proofs.Common.{◌∙◌, sym}
use Rattle.std.specs.Arc.{arc_value}
use Rattle.mw_store.proofs.ModuleShapes.{spelled_by}
use Rattle.mw_store.proofs.loaded.LoadedModule.decode.Goals as goal

pub invariant_of-decoded : goal.invariant_of-decoded
invariant_of-decoded c =
    spelled_by c.as_slice-bytes.result.now c.in_ok-from_slice.field-0.items c.in_ok-valid.field-0 c.in-Some.valid
    (arc_value c.in_ok-try_clone.field-0) c.in_ok-valid.ensures c.in-Some.is (sym c.in_ok-from_slice.ensures.items)
    (c.in_ok-try_clone.ensures ∙ c.in_ok-module.ensures.ok)

pub returns : goal.returns
returns c =
    spelled_by c.as_slice-bytes.result.now c.args.self.now.bytes.items c.in_ok-valid.field-0 c.in-Some.valid
    (arc_value c.in_ok-module.module) c.in_ok-valid.ensures c.in-Some.is c.as_slice-bytes.ensures.value
    c.in_ok-module.ensures.ok
