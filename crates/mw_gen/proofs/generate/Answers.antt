use Rattle.std.proofs.Common.{◌≡◌, IfOk, subst, sym}
use Rattle.std.specs.Prelude.{Result, Ok, Err}
use Rattle.std.specs.declared.alloc.AllocError.{AllocError}
use Rattle.mw_encode.specs.Encoding.{Spelled}
use Rattle.mw_meaning.specs.Shapes.{HasShape}
use Rattle.mw_term.specs.Terms.{kernel_type_of}
use Rattle.mw_wasm.specs.declared.modules.Module.{Module}
use Rattle.mw_wasm.specs.BinaryModules.{wasm_module}
use Rattle.mw_wasm.specs.Profile.{IsWithinProfile}
use Rattle.mw_wasm.specs.Syntax.{PureModule}
use Rattle.mw_wasm.specs.Validity.{IsValid}
use Rattle.mw_wasm.specs.Views.{module_of}
use Rattle.mw_key.specs.declared.version.Version.TheVariants.{Two}
use Rattle.mw_gen.specs.Generated.{functions_in, outer_in, generated}
use Rattle.mw_gen.specs.Generation.{MeansConverted}
use Rattle.mw_gen.proofs.Meaning.{generation_keeps_meaning}
use Rattle.mw_gen.proofs.Pieces.{spelled}
use Rattle.mw_gen.proofs.Ranges.{converted_valid, converted_profile, converted_spelled}
use Rattle.mw_gen.proofs.ModuleShape.{module_shaped}
use Rattle.mw_gen.proofs.generate.Goals as goal

-- what holds of the module that it is
of_module : (P : PureModule → Type 0) (r : Result Module AllocError) (m : PureModule) → P m
    → IfOk r (λ wasm. module_of wasm ≡ m) → IfOk r (λ wasm. P (module_of wasm))
of_module P (Ok wasm) m p e = subst P (sym e) p
of_module P (Err e) m p q = tt

pub returns-clause-spelled : goal.returns-clause-spelled
returns-clause-spelled c = of_module (λ m. Spelled (wasm_module m)) c.whole_module.result
    (generated Two c.args.converted.now (kernel_type_of c.args.kind.now))
    (spelled (converted_spelled (functions_in c.args.converted.now) (outer_in c.args.converted.now) c.requires.converted
    Two (kernel_type_of c.args.kind.now) c.requires.nodes)) c.whole_module.ensures

pub returns-clause-profile : goal.returns-clause-profile
returns-clause-profile c = of_module IsWithinProfile c.whole_module.result
    (generated Two c.args.converted.now (kernel_type_of c.args.kind.now))
    (converted_profile (functions_in c.args.converted.now) (outer_in c.args.converted.now) c.requires.converted Two
    (kernel_type_of c.args.kind.now)) c.whole_module.ensures

pub returns-clause-valid : goal.returns-clause-valid
returns-clause-valid c = of_module IsValid c.whole_module.result
    (generated Two c.args.converted.now (kernel_type_of c.args.kind.now))
    (converted_valid (functions_in c.args.converted.now) (outer_in c.args.converted.now) c.requires.converted Two
    (kernel_type_of c.args.kind.now)) c.whole_module.ensures

pub returns-clause-shape : goal.returns-clause-shape
returns-clause-shape c = of_module (λ m. HasShape m (kernel_type_of c.args.kind.now)) c.whole_module.result
    (generated Two c.args.converted.now (kernel_type_of c.args.kind.now))
    (module_shaped Two (functions_in c.args.converted.now) (outer_in c.args.converted.now).slots
    (outer_in c.args.converted.now).body (kernel_type_of c.args.kind.now)) c.whole_module.ensures

pub returns-clause-means : goal.returns-clause-means
returns-clause-means c =
    of_module (λ m. MeansConverted m (functions_in c.args.converted.now) (outer_in c.args.converted.now).body
    (kernel_type_of c.args.kind.now)) c.whole_module.result
    (generated Two c.args.converted.now (kernel_type_of c.args.kind.now))
    (generation_keeps_meaning Two (functions_in c.args.converted.now) (outer_in c.args.converted.now)
    (kernel_type_of c.args.kind.now) c.requires.converted) c.whole_module.ensures
