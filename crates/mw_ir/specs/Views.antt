-- The intermediate language as plain data.
use Rattle.mw_ir.specs.declared.code.Ir.{Ir as Code}
use Rattle.mw_ir.specs.declared.code.IrFunc.{IrFunc as Function}
use Rattle.mw_ir.specs.declared.code.Ir.TheVariants.{Int, Bool as Truth, Get, Closure, App', Let', If', Pair', Fst'}
use Rattle.mw_ir.specs.declared.code.Ir.TheVariants.{Snd', Prim' as Prim-Prim'}
use Rattle.mw_ir.specs.Ir.{Ir, IrFunc, num, truth, get, closure, app, bind, cond, pair, fst, snd, prim}

abbrev pub ir_of : Code → Ir
ir_of (Int n) = num n
ir_of (Truth b) = truth b
ir_of (Get p) = get p
ir_of (Closure k ps) = closure k ps
ir_of (App' p f q a) = app (ir_of f) (ir_of a)
ir_of (Let' s p d q e) = bind s (ir_of d) (ir_of e)
ir_of (If' p c q a r b) = cond (ir_of c) (ir_of a) (ir_of b)
ir_of (Pair' p a q b) = pair (ir_of a) (ir_of b)
ir_of (Fst' p e) = fst (ir_of e)
ir_of (Snd' p e) = snd (ir_of e)
ir_of (Prim-Prim' o p a q b) = prim o (ir_of a) (ir_of b)

abbrev pub ir_func_of : Function → IrFunc
ir_func_of f = record { free = f.free; slots = f.slots; body = ir_of f.body }
