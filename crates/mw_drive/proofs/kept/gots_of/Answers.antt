use Rattle.std.proofs.Common.{◌++◌, ◌∷◌, [], map, All, sym, ap, subst, ◌∙◌}
use Rattle.std.proofs.lemmas.List.{map-append}
use Rattle.std.proofs.lemmas.List.Elements.{All-append}
use Rattle.mw_cache.specs.Gots.{IsHere, text_in}
use Rattle.mw_cache.proofs.ModuleMap.{map_more}
use Rattle.mw_drive.specs.ProgramRuns.{HasModuleHere}
use Rattle.mw_drive.proofs.ListFronts.{all_at, got, one_all}
use Rattle.mw_drive.proofs.kept.gots_of.Goals as goal

pub loop-kernel-preserved : goal.loop-kernel-preserved
loop-kernel-preserved c = record {
  texts = λ cache.
      ap (λ gs. map (λ g. text_in cache g.now) gs) c.in_ok-push.ensures.items
      ∙ (map-append (λ g. text_in cache g.now) c.loop-kernel.gots.items (c.kernel-item.result.got ∷ [])
      ∙ (ap (λ ts. ts ++ text_in cache c.kernel-item.result.got.now ∷ []) (c.loop-kernel.invariant.texts cache)
      ∙ sym (map_more (λ b. text_in cache b.got.now) c.args.built.now c.loop-kernel.kernel-index c.kernel-item.result
      c.loop-kernel-test.true c.kernel-item.is)));
  here = λ cache all.
      let at = got c.args.built.now c.loop-kernel.kernel-index c.kernel-item.result c.loop-kernel-test.true
      c.kernel-item.is in
      let one = all_at (HasModuleHere cache) c.args.built.now c.loop-kernel.kernel-index c.kernel-item.result all at in
      subst (λ gs. All (λ g. IsHere cache g.now) gs) (sym c.in_ok-push.ensures.items)
      (All-append (λ g. IsHere cache g.now) c.loop-kernel.gots.items (c.kernel-item.result.got ∷ [])
      (c.loop-kernel.invariant.here cache all) (one_all (λ g. IsHere cache g.now) c.kernel-item.result.got one));
}
