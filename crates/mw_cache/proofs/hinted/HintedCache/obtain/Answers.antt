use Rattle.std.proofs.Common.{◌≡◌, ◌≤◌, ◌+◌, sym, subst, ◌∙◌}
use Rattle.std.specs.Prelude.{IsNone}
use Rattle.std.proofs.lemmas.Option.{IfSome_then}
use Rattle.mw_cache.specs.Gots.{IsLoadedText, loaded_texts}
use Rattle.mw_cache.specs.Hints.{price_beside}
use Rattle.mw_cache.proofs.ReceiptTexts.{price_is}
use Rattle.mw_cache.proofs.hinted.HintedCache.obtain.Goals as goal

pub returns-clause-price : goal.returns-clause-price
returns-clause-price g c =
    let text = c.as_slice-2.result.now in let load = c.args.self.now.cache.load in let hinted =
    c.args.self.now.hinted in
    let old = c.args.steps.now in let new = c.obtain_written.new.steps in
    let same : c.as_slice.result.now ≡ text = c.as_slice.ensures.value ∙ sym c.as_slice-2.ensures.value in
    subst (λ t. new ≤ old + price_beside hinted t) (c.as_slice-2.ensures.value ∙ c.in_ok-text.ensures.text)
    (price_is c.hint-hint.result load text (price_beside hinted text) old new
    (subst (λ t. IsNone c.hint-hint.result
    → price_beside hinted t ≡ price_beside (loaded_texts load) t) same c.hint-hint.ensures.none)
    (IfSome_then c.hint-hint.result c.hint-hint.ensures.some λ h f. f.1 ∙ same)
    (IfSome_then c.hint-hint.result c.obtain_written.ensures.hinted λ h f is. (f is).0)
    (subst (λ s. IsLoadedText s.cache.load text → new ≡ old) c.self.view_is (λ h. (c.obtain_written.ensures.free h).0))
    c.obtain_written.ensures.most.1)
