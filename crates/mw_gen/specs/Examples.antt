-- Worked examples of the emission.
use Rattle.std.specs.Prelude.{◌≡◌, pos, List, [], ◌∷◌, ℕ, map}
use Rattle.mw_term.specs.declared.term.Base.TheVariants.{Int}
use Rattle.mw_term.specs.declared.term.Primitive.TheVariants.{Mul, Sub, Eq}
use Rattle.mw_term.specs.Terms.{Expression, KernelType, base, of_ground, to, num, var, fun, fix, app, bind, cond, prim}
use Rattle.mw_wasm.specs.ExampleModules.{example_a, example_b}
use Rattle.mw_ir.specs.declared.place.Place.TheVariants.{Argument, Own}
use Rattle.mw_ir.specs.Ir as i
use Rattle.mw_conv.specs.Convert.{converted_functions}
use Rattle.mw_encode.specs.Encoding.{function_code_bytes}
use Rattle.mw_key.specs.declared.version.Version.{Version}
use Rattle.mw_key.specs.declared.version.Version.TheVariants.{One, Two}
use Rattle.mw_gen.specs.Generate.{function_for}
use Rattle.mw_gen.specs.Emission.{emitted}

abbrev pub int_kernel : KernelType
int_kernel = of_ground (base Int)

abbrev pub int_to_int : KernelType
int_to_int = to (base Int) (base Int)

-- 7, in either version
abbrev pub SevenIsEmitted : Type 0
SevenIsEmitted = (v : Version) → emitted v (num (pos 7)) int_kernel ≡ example_a

-- fun x -> x * (x * (x * 1))
abbrev pub cube : Expression
cube = fun (prim Mul (var 0) (prim Mul (var 0) (prim Mul (var 0) (num (pos 1)))))

abbrev pub CubeIsEmitted : Type 0
CubeIsEmitted = (v : Version) → emitted v cube int_to_int ≡ example_b

-- let rec f n = if n = 0 then 0 else f (n - 1) in f
abbrev pub down : Expression
down = bind (fix (cond (prim Eq (var 0) (num (pos 0))) (num (pos 0)) (app (var 1) (prim Sub (var 0) (num (pos 1))))))
    (var 0)

-- f (n - 1) in its function, converted
abbrev pub next_step : i.Ir
next_step = i.app (i.get Own) (i.prim Sub (i.get Argument) (i.num (pos 1)))

-- if n = 0 then 0 else f (n - 1), converted
abbrev pub down_code : i.Ir
down_code = i.cond (i.prim Eq (i.get Argument) (i.num (pos 0))) (i.num (pos 0)) next_step

-- the entries of the code section for the functions of code
abbrev pub entries : Version → Expression → List (List ℕ)
entries v c = map (λ f. function_code_bytes (function_for v f)) (converted_functions c)

-- in version 1 the self tail call is a call, by way of two further locals
abbrev pub SelfTailCallIsACall : Type 0
SelfTailCallIsACall = entries One down
    ≡ (0x27 ∷ 0x01 ∷ 0x02 ∷ 0x7E ∷ 0x20 ∷ 0x01 ∷ 0x42 ∷ 0x00 ∷ 0x51 ∷ 0xAD ∷ 0xA7 ∷ 0x04 ∷ 0x7E ∷ 0x42 ∷ 0x00 ∷ 0x05
    ∷ 0x20 ∷ 0x00 ∷ 0x20 ∷ 0x01 ∷ 0x42 ∷ 0x01 ∷ 0x7D ∷
    0x21 ∷ 0x03 ∷ 0x22 ∷ 0x02 ∷ 0x20 ∷ 0x03 ∷ 0x20 ∷ 0x02 ∷ 0xA7 ∷ 0x28 ∷ 0x02 ∷ 0x00 ∷ 0x11 ∷ 0x00 ∷ 0x00 ∷ 0x0B ∷ 0x0B
    ∷ []) ∷ []

-- in version 2 it is a branch to a loop, and there are no further locals
abbrev pub SelfTailCallIsABranch : Type 0
SelfTailCallIsABranch = entries Two down
    ≡ (0x1B ∷ 0x00 ∷ 0x03 ∷ 0x7E ∷ 0x20 ∷ 0x01 ∷ 0x42 ∷ 0x00 ∷ 0x51 ∷ 0xAD ∷ 0xA7 ∷ 0x04 ∷ 0x7E ∷ 0x42 ∷ 0x00 ∷ 0x05 ∷
    0x20 ∷ 0x01 ∷ 0x42 ∷ 0x01 ∷ 0x7D ∷ 0x21 ∷ 0x01 ∷ 0x0C ∷ 0x01 ∷ 0x0B ∷ 0x0B ∷ 0x0B ∷ []) ∷ []
