use Rattle.std.proofs.Common.{◌++◌, sym, ap, subst, ◌∙◌}
use Rattle.mw_slots.specs.Receipts.{IsFetched}
use Rattle.mw_key.specs.CanonicalText.{home}
use Rattle.mw_cache.specs.Gots.{entry_text, texts_of, loaded_texts}
use Rattle.mw_cache.specs.Hints.{price_beside}
use Rattle.mw_cache.proofs.ReceiptTexts.{price_skips}
use Rattle.mw_cache.proofs.ReceiptSlots.{one_of}
use Rattle.mw_cache.proofs.hinted.HintedCache.hint.Goals as goal

pub loop-at-init : goal.loop-at-init
loop-at-init c =
    sym (ap (λ s. price_beside s.hinted c.args.text.now) c.self.view_is)
    ∙ ap (λ s. price_beside
    (texts_of c.self.inside.hints.now ++ loaded_texts s.cache.load) c.args.text.now) c.self.view_is

pub is_of_text-requires : goal.is_of_text-requires
is_of_text-requires c =
    (one_of (IsFetched entry_text home c.self.inside.cache.now.cells) c.self.inside.hints.now c.loop-at.at
    c.get-receipt.result.now
    c.get-receipt.ensures c.self.invariant).table

pub returns-then-is_of_text-clause-some : goal.returns-then-is_of_text-clause-some
returns-then-is_of_text-clause-some c = (
  subst (λ s. IsFetched entry_text home s.cache.cells c.get-receipt.result.now) c.self.view_is
      (one_of (IsFetched entry_text home c.self.inside.cache.now.cells) c.self.inside.hints.now c.loop-at.at
      c.get-receipt.result.now
      c.get-receipt.ensures c.self.invariant),
  c.if-is_of_text.ensures,
)

pub loop-at-preserved : goal.loop-at-preserved
loop-at-preserved c =
    c.loop-at.invariant
    ∙ price_skips c.self.inside.hints.now c.loop-at.at c.get-receipt.result.now
    (loaded_texts c.args.self.now.cache.load) c.args.text.now
    c.get-receipt.ensures c.if-is_of_text.ensures
