use Rattle.std.proofs.Common.{subst}
use Rattle.mw_wasm.specs.Views.{module_of}
use Rattle.mw_validate.specs.Checks.{Checks}
use Rattle.mw_validate.specs.Deciding.{NoneWhere}
use Rattle.mw_validate.proofs.Soundness.{checked_valid}
use Rattle.mw_validate.proofs.Completeness.{valid_checked}
use Rattle.mw_validate.proofs.validation.validate.Goals as goal

pub sure-requires : goal.sure-requires
sure-requires c = record {
  valid = checked_valid (module_of c.args.wasm)
      (subst (λ found. NoneWhere found (Checks (module_of c.args.wasm))) c.in-None.is c.in_ok-found.ensures);
  elements = c.requires.elements;
  segments = c.requires.segments;
}

pub returns-in-Some-clause-invalid : goal.returns-in-Some-clause-invalid
returns-in-Some-clause-invalid c =
    let fails : Checks (module_of c.args.wasm) → ⊥ = subst (λ found. NoneWhere found (Checks (module_of c.args.wasm)))
    c.in-Some.is c.in_ok-found.ensures in
    λ v. fails (valid_checked (module_of c.args.wasm) v)
