use Rattle.std.proofs.Common.{◌≡◌, ◌∙◌}
use Rattle.mw_wasm.specs.Views.{module_of}
use Rattle.mw_link.specs.Linked.{linked}
use Rattle.mw_link.specs.Views.{kernels_of}
use Rattle.mw_link.specs.LinkLaw.{LiteralsOfAllFit}
use Rattle.mw_link.proofs.LinkedModule.{always, linked_is, on_ok}
use Rattle.mw_link.proofs.linking.linked_module.Goals as goal

pub returns-clause-made : goal.returns-clause-made
returns-clause-made c = on_ok _ (λ wasm. module_of wasm ≡ linked (kernels_of c.args.parts.now)) c.module_with.result
    (λ wasm e. e ∙ linked_is c.args.parts.now c.in_ok-types.field-0.types c.in_ok-types.field-0.inner
    c.in_ok-types.field-0.outer _ _ _ c.in_ok-types.ensures.types c.in_ok-types.ensures.inner
    c.in_ok-types.ensures.outer c.in_ok-append.ensures c.len-count.ensures c.in_ok-exports.ensures)
    c.module_with.ensures

pub returns-clause-literals : goal.returns-clause-literals
returns-clause-literals c =
    always (LiteralsOfAllFit (kernels_of c.args.parts.now)) c.module_with.result c.in_ok-types.ensures.literals
