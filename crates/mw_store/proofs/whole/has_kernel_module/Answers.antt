use Rattle.std.proofs.Common.{subst}
use Rattle.std.specs.Prelude.{MatchOption}
use Rattle.mw_term.specs.Terms.{kernel_type_of}
use Rattle.mw_store.specs.Whole.{IsTyped, NoText}
use Rattle.mw_store.proofs.ModuleShapes.{typed_in}
use Rattle.mw_store.proofs.whole.has_kernel_module.Goals as goal

pub returns-in-Some : goal.returns-in-Some
returns-in-Some c =
    let text = c.args.text.now in
    let typed = subst
    (λ o. MatchOption o (NoText text) (λ kind. IsTyped text (kernel_type_of kind))) c.in-Some.is
    c.in_ok-kind.ensures in
    typed_in text c.args.bytes.now
    (kernel_type_of c.in-Some.kind) c.has_module_of.result typed c.has_module_of.ensures
