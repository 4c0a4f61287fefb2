-- The locals that lets need.
use Rattle.std.specs.Prelude.{ℕ, suc, max}
use Rattle.mw_ir.specs.Ir as i
use Rattle.mw_ir.specs.Ir.{Ir}

-- the locals that the lets of an expression need, beyond b
abbrev pub slots_needed : Ir → ℕ
slots_needed (i.app f a) = max (slots_needed f) (slots_needed a)
slots_needed (i.bind s d e) = max (slots_needed d) (max (suc s) (slots_needed e))
slots_needed (i.cond c x y) = max (slots_needed c) (max (slots_needed x) (slots_needed y))
slots_needed (i.pair x y) = max (slots_needed x) (slots_needed y)
slots_needed (i.fst e) = slots_needed e
slots_needed (i.snd e) = slots_needed e
slots_needed (i.prim p x y) = max (slots_needed x) (slots_needed y)
slots_needed _ = 0
