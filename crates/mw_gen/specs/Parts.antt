-- The functions of a kernel among others, in a module that has more.
use Rattle.std.specs.Prelude.{ℕ, ◌+◌, List, [], ◌∷◌, Option, Some, None}
use Rattle.mw_term.specs.Terms.{KernelType, of_ground, to}
use Rattle.mw_wasm.specs.declared.modules.FuncType.{FuncType}
use Rattle.mw_wasm.specs.Syntax.{Function, Exporting, PureModule}
use Rattle.mw_ir.specs.Ir.{Ir, IrFunc, num, truth, get, closure, app, bind, cond, pair, fst, snd, prim}
use Rattle.mw_gen.specs.Generate.{call_function, elements_of, heap_end}

-- code whose functions' numbers are o more
abbrev pub moved : ℕ → Ir → Ir
moved o (num n) = num n
moved o (truth b) = truth b
moved o (get p) = get p
moved o (closure i ps) = closure (o + i) ps
moved o (app f a) = app (moved o f) (moved o a)
moved o (bind s d e) = bind s (moved o d) (moved o e)
moved o (cond c a b) = cond (moved o c) (moved o a) (moved o b)
moved o (pair a b) = pair (moved o a) (moved o b)
moved o (fst e) = fst (moved o e)
moved o (snd e) = snd (moved o e)
moved o (prim p a b) = prim p (moved o a) (moved o b)

abbrev pub moved_function : ℕ → IrFunc → IrFunc
moved_function o f = record f { body = moved o f.body }

-- `call`, for a function
abbrev pub call_for : KernelType → Option Function
call_for (of_ground g) = None
call_for (to s t) = Some (call_function s)

-- the module of functions, of which the first n are the table's, with types and exports
abbrev pub module_in : List FuncType → List Function → List Exporting → ℕ → PureModule
module_in types funcs exports n = record {
  types = types;
  funcs = funcs;
  table = Some record { min = n; max = Some n };
  memory = Some record { min = 64; max = Some 64 };
  globals = heap_end ∷ [];
  exports = exports;
  elements = elements_of n;
  segments = [];
}
