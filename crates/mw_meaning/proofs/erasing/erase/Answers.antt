use Rattle.std.proofs.Common.{[], refl, ap, ◌∙◌}
use Rattle.mw_term.specs.Terms.{expression_of}
use Rattle.mw_meaning.specs.Erasure.{plain, term_of}
use Rattle.mw_meaning.proofs.NewNames.{if_ok, renamed-none}
use Rattle.mw_meaning.proofs.erasing.erase.Goals as goal

pub returns : goal.returns
returns c = if_ok c.erased_under.result
    (λ t q. q ∙ ap term_of (renamed-none [] refl (plain (expression_of c.args.term.now)) 0)) c.erased_under.ensures
