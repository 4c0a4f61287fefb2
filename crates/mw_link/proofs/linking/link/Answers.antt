use Rattle.std.proofs.Common.{List, ℕ, subst, sym}
use Rattle.mw_wasm.specs.BinaryModules.{Spells}
use Rattle.mw_link.specs.LinkLaw.{SpellLinked}
use Rattle.mw_link.specs.Views.{kernels_of}
use Rattle.mw_link.proofs.LinkedModule.{on_ok}
use Rattle.mw_link.proofs.Profile.{linked_is_within_profile}
use Rattle.mw_link.proofs.Spelling.{linked_is_spelled}
use Rattle.mw_link.proofs.LinkedMeaning.{linked_means_all}
use Rattle.mw_link.proofs.Valid.{linked_is_valid}
use Rattle.mw_link.proofs.linking.link.Goals as goal

pub encode-requires : goal.encode-requires
encode-requires c =
    let s = linked_is_spelled (kernels_of c.args.parts.now) c.requires.linkable c.in_ok-wasm.ensures.literals in
    record {
      spelled = subst (λ m. (bytes : List ℕ) × Spells bytes m) (sym c.in_ok-wasm.ensures.made)
          (s.bytes, s.spell);
    }

pub returns-clause-linked : goal.returns-clause-linked
returns-clause-linked c =
    let kernels = kernels_of c.args.parts.now in
    let linkable = c.requires.linkable in
    let fit = c.in_ok-wasm.ensures.literals in
    on_ok _ (λ bytes. SpellLinked kernels bytes.items) c.encode.result
    (λ bytes p. record {
      spelled = subst (λ m. Spells bytes.items m) c.in_ok-wasm.ensures.made p;
      valid = linked_is_valid kernels linkable fit;
      profile = linked_is_within_profile kernels linkable fit;
      means = linked_means_all kernels linkable fit;
    }) c.encode.ensures.spelled
