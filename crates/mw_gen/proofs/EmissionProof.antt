-- The law on emission.
use Rattle.std.proofs.Common.{◌≡◌, ap, ◌∙◌, arith}
use Rattle.mw_term.specs.Terms.{Expression, KernelType}
use Rattle.mw_ir.specs.declared.code.Converted.{Converted}
use Rattle.mw_conv.specs.Convert.{converted_functions, converted_outside}
use Rattle.mw_key.specs.declared.version.Version.{Version}
use Rattle.mw_gen.specs.Emission.{emitted}
use Rattle.mw_gen.specs.EmissionLaw.{EmittedModulesAreRight}
use Rattle.mw_gen.specs.Generate.{module_with}
use Rattle.mw_gen.specs.Generated.{functions_in, outer_in, generated}
use Rattle.mw_conv.proofs.Ranges.{is_converted}
use Rattle.mw_gen.proofs.Ranges.{converted_valid, converted_profile, converted_spelled}
use Rattle.mw_gen.proofs.ModuleShape.{module_shaped}
use Rattle.mw_gen.proofs.EmittedMeaning.{stands}

pub emission_holds : EmittedModulesAreRight
emission_holds v c k closed literals few flat nodes =
    let t = converted_functions c in
    let o = converted_outside c in
    let is = is_converted c closed literals few flat in
    record {
      spelled = let s = converted_spelled t o is v k nodes in
          record { bytes = s.bytes; spell = s.spell; short = let p = s.short in omega arith };
      valid = converted_valid t o is v k;
      profile = converted_profile t o is v k;
      shape = module_shaped v t o.slots o.body k;
      stands = stands v c is k;
    }

-- what is generated of the conversion of code is what is emitted
pub generated_is_emitted : (v : Version) (c : Expression) (k : KernelType) (r : Converted) → functions_in r
    ≡ converted_functions c → outer_in r ≡ converted_outside c → generated v r k ≡ emitted v c k
generated_is_emitted v c k r f o = ap (λ t. module_with v t (outer_in r).slots (outer_in r).body k) f
    ∙ ap (λ x. module_with v (converted_functions c) x.slots x.body k) o
