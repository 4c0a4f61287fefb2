-- Parts as they are generated, and as they stand in the linked module.
use Rattle.std.proofs.Common.{◌≡◌, ℕ, [], ◌∷◌, Some, None, refl, map}
use Rattle.mw_term.specs.Terms.{Expression, KernelType, of_ground, to}
use Rattle.mw_wasm.specs.Syntax.{Function}
use Rattle.mw_conv.specs.Convert.{functions, converted_functions, converted_outside}
use Rattle.mw_gen.specs.Generate.{init_function, restarting, call_numbered}
use Rattle.mw_gen.specs.Parts.{moved, moved_function, call_for}
use Rattle.mw_link.specs.Linked.{init_from, call_of_type}
use Rattle.mw_link.proofs.FunctionNumbers.{moved_is_numbered}

pub functions_of_part : (c : Expression) (o : ℕ) → map (moved_function o) (converted_functions c) ≡ functions c o 0
functions_of_part c o = (moved_is_numbered c o).0

pub init_of_part : (c : Expression) (o : ℕ)
    → restarting (init_function (converted_outside c).slots (moved o (converted_outside c).body)) ≡ init_from o c
init_of_part c o = (moved_is_numbered c o).1

-- `call` with the number of its type
abbrev pub numbered : ℕ → Function → Function
numbered x f = record f { kind = x }

pub call_none : (x : ℕ) (k : KernelType) → None ≡ call_for k → call_of_type x k ≡ []
call_none x (of_ground g) e = refl
call_none x (to s t) e = absurd (cc)

pub call_some : (x : ℕ) (k : KernelType) (f : Function) → Some f ≡ call_for k → call_of_type x k ≡ numbered x f ∷ []
call_some x (of_ground g) f e = absurd (cc)
call_some x (to s t) f e = let q : f ≡ Rattle.mw_gen.specs.Generate.call_function s = (cc) in rw q refl
