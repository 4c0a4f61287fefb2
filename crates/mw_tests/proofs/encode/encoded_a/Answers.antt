use Rattle.std.proofs.Common.{rules, ◌≡◌, sym, subst}
use Rattle.mw_wasm.specs.BinaryModules.{Spells}
use Rattle.mw_wasm.specs.ExampleModules.{example_a}
use Rattle.mw_wasm.specs.FormatExamples.{bytes_a}
use Rattle.mw_wasm.specs.Syntax.{PureModule}
use Rattle.mw_wasm.specs.Views.{module_of}
use Rattle.mw_tests.proofs.encode.encoded_a.Goals as goal

pub encode-requires : goal.encode-requires
encode-requires c =
    let e : module_of c.in_ok-built.built ≡ example_a = search rules in
    record { spelled = (bytes_a, subst (λ (m : PureModule). Spells bytes_a m) (sym e) c.example_a_is_spelled.ensures) }
