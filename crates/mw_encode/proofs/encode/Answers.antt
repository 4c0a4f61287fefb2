use Rattle.std.proofs.Common.{ap, ◌∙◌}
use Rattle.mw_wasm.specs.Views.{module_of}
use Rattle.mw_encode.specs.Encoding.{with_sections}
use Rattle.mw_encode.proofs.Modules.{encoding_spells}
use Rattle.mw_encode.proofs.encode.Goals as goal

pub put_sections-requires : goal.put_sections-requires
put_sections-requires c = c.requires.spelled

pub returns-clause-exact : goal.returns-clause-exact
returns-clause-exact c = c.in_ok-put_sections.ensures ∙ ap (λ old. with_sections old (module_of c.args.module.now))
    c.in_ok-out.ensures.items

pub returns-clause-spelled : goal.returns-clause-spelled
returns-clause-spelled c = encoding_spells _ _ c.requires.spelled
    (c.in_ok-put_sections.ensures ∙ ap (λ old. with_sections old (module_of c.args.module.now))
    c.in_ok-out.ensures.items)
