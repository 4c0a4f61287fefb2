use Rattle.std.proofs.Common.{◌++◌, ◌∷◌, [], map, take, sym, ap, subst, ◌∙◌, append_assoc, arith}
use Rattle.std.proofs.lemmas.List.{take_all}
use Rattle.mw_cache.specs.Gots.{texts_of, text_in, entry_text, IsHere}
use Rattle.mw_cache.specs.Gathering.{kept_at, IsGathered}
use Rattle.mw_cache.proofs.ModuleMap.{map_more, all_short, records_are}
use Rattle.mw_cache.proofs.cache.Cache.records.Goals as goal

pub loop-receipt-preserved : goal.loop-receipt-preserved
loop-receipt-preserved c =
    let n = c.loop-receipt.receipt-index in let before = texts_of (take n c.args.receipts.now) in
    let more = map_more (λ r. r.entry.text) c.args.receipts.now n c.receipt-item.result c.loop-receipt-test.true
    c.receipt-item.is
    ∙ ap (λ e. before ++ entry_text e ∷ []) (sym c.entry_of.ensures) in
    subst (λ ts. IsGathered c.args.self.now.load ts (map kept_at c.gather.new.modules.entries)) (sym more)
    (c.in_ok-gather.ensures before c.loop-receipt.invariant)

pub gather_got-requires : goal.gather_got-requires
gather_got-requires c =
    subst (λ g. IsHere c.args.self.now g.now) (sym c.got-item.is)
    (c.requires.here c.loop-got.got-index _ c.loop-got-test.true)

pub loop-got-preserved : goal.loop-got-preserved
loop-got-preserved c =
    let n = c.loop-got.got-index in let first = texts_of c.args.receipts.now in
    let before = map (λ g. text_in c.args.self.now g.now) (take n c.args.gots.now) in
    let more = map_more (λ g. text_in c.args.self.now g.now) c.args.gots.now n c.got-item.result c.loop-got-test.true
    c.got-item.is in
    let text = text_in c.args.self.now c.got-item.result.now in
    let all = ap (λ ts. first ++ ts) more ∙ sym (append_assoc first before (text ∷ [])) in
    subst (λ ts. IsGathered c.args.self.now.load ts (map kept_at c.gather_got.new.modules.entries)) (sym all)
    (c.in_ok-gather_got.ensures (first ++ before) c.loop-got.invariant)

pub records_of-requires : goal.records_of-requires
records_of-requires c = all_short c.args.self.now.load _ _ c.loop-got.invariant.each

pub returns : goal.returns
returns c =
    let whole = take_all c.loop-got.got-index c.args.gots.now (omega (arith, c.loop-got-test.false)) in
    records_are c.args.self.now.load _
    (map kept_at c.loop-got.modules.entries) c.records_of.result c.records_of.ensures.written
    c.records_of.ensures.rise
    (subst (λ gs. IsGathered c.args.self.now.load (texts_of c.args.receipts.now ++ map (λ g. text_in c.args.self.now
    g.now) gs)
    (map kept_at c.loop-got.modules.entries)) whole c.loop-got.invariant)
