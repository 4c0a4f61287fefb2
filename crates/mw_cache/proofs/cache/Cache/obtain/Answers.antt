use Rattle.std.proofs.Common.{sym, ◌∙◌}
use Rattle.std.proofs.lemmas.Option.{IfSome_then}
use Rattle.mw_cache.proofs.cache.Cache.obtain.Goals as goal

pub returns-clause-hinted : goal.returns-clause-hinted
returns-clause-hinted g c = IfSome_then c.args.hint c.obtain_written.ensures.hinted
    λ h free is. (free (is ∙ sym (c.as_slice.ensures.value ∙ c.in_ok-text.ensures.text))).1
