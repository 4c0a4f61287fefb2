use Rattle.std.proofs.Common.{refl, sym, arith, map, Some}
use Rattle.std.proofs.lemmas.List.{length-map}
use Rattle.std.proofs.Math.ListN.{get_or-map}
use Rattle.mw_exec.proofs.FirstStores.{pasted_more}
use Rattle.mw_exec.proofs.first_store.place_functions.Goals as goal

pub loop-i-preserved : goal.loop-i-preserved
loop-i-preserved c = pasted_more c.args.table.now.items c.loop-i.table.items _ c.args.at c.loop-i.i
    (map (λ f. Some f) c.args.funcs.now) _ (Some 0) c.loop-i.invariant
    (omega (arith, length-map c.args.funcs.now (λ f. Some f)))
    (omega (arith, length-map c.args.funcs.now (λ f. Some f)))
    (sym (get_or-map (λ f. Some f) c.args.funcs.now c.loop-i.i 0)) refl
