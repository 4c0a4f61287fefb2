use Rattle.std.proofs.Common.{sym, ap, ◌∙◌, subst}
use Rattle.mw_link.specs.LinkLaw.{AreLinkable}
use Rattle.mw_link.specs.Views.{kernels_of}
use Rattle.mw_tests.proofs.LinkedKernels.{sevens_are_linkable}
use Rattle.mw_tests.proofs.link.names_linked.Goals as goal

pub link-requires : goal.link-requires
link-requires c = record {
  linkable =
      subst AreLinkable (sym (ap kernels_of c.as_slice.ensures.value ∙ c.in_ok-kernels.ensures)) sevens_are_linkable;
}
