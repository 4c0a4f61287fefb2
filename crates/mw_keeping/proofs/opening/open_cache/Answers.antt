use Rattle.std.proofs.Common.{length, ap, subst, ◌∙◌}
use Rattle.mw_store.specs.Loads.{IsLoadOf}
use Rattle.mw_store.proofs.Files.{only_the_front}
use Rattle.mw_keeping.proofs.opening.open_cache.Goals as goal

pub returns-in_ok-load_of-in-Ok-clause-opened : goal.returns-in_ok-load_of-in-Ok-clause-opened
returns-in_ok-load_of-in-Ok-clause-opened g c = rw c.in-Some.is (λ tells.
    let bytes = c.in-Ok.ensures.ok tells in
    record {
      count_is = ap length (c.as_slice-front.ensures.value ∙ bytes);
      is_load =
          (only_the_front (g.C.Keeper.held c.args.keeper.now) c.in_ok-load_of-in-Ok.field-0).0
          (subst (λ bs. IsLoadOf bs c.in_ok-load_of-in-Ok.field-0) (c.as_slice-front.ensures.value ∙ bytes)
          c.in_ok-load_of-in-Ok.ensures);
    })
