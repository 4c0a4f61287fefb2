-- The linked module: all kernels of a program in one. Kernels stand in order, and each has its functions' numbers, its
-- call's type and its two exports after those of the kernels before.
use Rattle.std.specs.Prelude.{ℕ, suc, ◌+◌, List, [], ◌∷◌, ◌++◌, length, map, Some, codes}
use Rattle.mw_term.specs.Terms.{Expression, KernelType, of_ground, to}
use Rattle.mw_wasm.specs.declared.modules.FuncType.{FuncType}
use Rattle.mw_wasm.specs.declared.modules.Exported.TheVariants.{Func}
use Rattle.mw_wasm.specs.Syntax.{Function, Exporting, PureModule}
use Rattle.mw_meaning.specs.Shapes.{init_type}
use Rattle.mw_ir.specs.declared.place.Place.TheVariants.{Argument}
use Rattle.mw_ir.specs.Ir.{IrFunc}
use Rattle.mw_conv.specs.Convert.{funs, lets, code, functions}
use Rattle.mw_key.specs.declared.version.Version.TheVariants.{Two}
use Rattle.mw_gen.specs.Generate.{function_for, init_function, restarting, call_numbered, closure_type, more_types}
use Rattle.mw_gen.specs.Generate.{heap_end, elements_of}

-- a kernel: its name, its code and its type
pub record Kernel : Type 0 where
  pub name : List ℕ
  pub code : Expression
  pub kind : KernelType

-- 1 for a kernel that has `call`, else 0
abbrev pub calls : KernelType → ℕ
calls (of_ground g) = 0
calls (to s t) = 1

-- the functions of all kernels, numbered from o on
abbrev pub all_functions : ℕ → List Kernel → List IrFunc
all_functions o [] = []
all_functions o (p ∷ ps) = functions p.code o 0 ++ all_functions (o + funs p.code) ps

-- the types of the kernels' calls
abbrev pub call_types : List Kernel → List FuncType
call_types [] = []
call_types (p ∷ ps) = more_types p.kind ++ call_types ps

-- `call` of a kernel, whose type is number x
abbrev pub call_of_type : ℕ → KernelType → List Function
call_of_type x (of_ground g) = []
call_of_type x (to s t) = call_numbered x s ∷ []

-- `init` of a kernel whose functions are numbered from o on
abbrev pub init_from : ℕ → Expression → Function
init_from o c = restarting (init_function (lets c) (code c o 0 0 (λ i. Argument)))

-- `init` and `call` of each kernel, where its functions are numbered from o on and its call's type is number x
abbrev pub outer_functions : (o x : ℕ) → List Kernel → List Function
outer_functions o x [] = []
outer_functions o x (p ∷ ps) =
    init_from o p.code ∷ (call_of_type x p.kind ++ outer_functions (o + funs p.code) (x + calls p.kind) ps)

abbrev pub init_name : List ℕ → List ℕ
init_name name = name ++ codes ".init"

abbrev pub call_name : List ℕ → List ℕ
call_name name = name ++ codes ".call"

abbrev pub call_exports : ℕ → Kernel → KernelType → List Exporting
call_exports n p (of_ground g) = []
call_exports n p (to s t) = record { name = call_name p.name; what = Func n } ∷ []

-- the exports of each kernel, whose `init` is function n
abbrev pub exports_from : ℕ → List Kernel → List Exporting
exports_from n [] = []
exports_from n (p ∷ ps) =
    record { name = init_name p.name; what = Func n } ∷ (call_exports (suc n) p p.kind
    ++ exports_from (suc (n + calls p.kind)) ps)

abbrev pub count : List Kernel → ℕ
count ps = length (all_functions 0 ps)

abbrev pub linked : List Kernel → PureModule
linked ps = record {
  types = closure_type ∷ init_type ∷ call_types ps;
  funcs = map (function_for Two) (all_functions 0 ps) ++ outer_functions 0 2 ps;
  table = Some record { min = count ps; max = Some (count ps) };
  memory = Some record { min = 64; max = Some 64 };
  globals = heap_end ∷ [];
  exports = exports_from (count ps) ps;
  elements = elements_of (count ps);
  segments = [];
}
