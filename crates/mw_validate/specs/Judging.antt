-- What a refusal says.
use Rattle.mw_wasm.specs.Syntax.{PureModule}
use Rattle.mw_wasm.specs.Validity.{IsValid}
use Rattle.mw_validate.specs.declared.validation.ValidFault.{ValidFault}
use Rattle.mw_validate.specs.declared.validation.ValidFault.TheVariants.{Bad, Memory}

-- a refusal for a test: the module isn't valid
abbrev pub IsRefusal : ValidFault → PureModule → Type 0
IsRefusal (Bad e) m = IsValid m → ⊥
IsRefusal (Memory e) m = Unit {0}
