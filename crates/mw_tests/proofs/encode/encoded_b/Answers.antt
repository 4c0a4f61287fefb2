use Rattle.std.proofs.Common.{rules, ◌≡◌, sym, subst}
use Rattle.mw_wasm.specs.BinaryModules.{Spells}
use Rattle.mw_wasm.specs.ExampleModules.{example_b}
use Rattle.mw_wasm.specs.FormatExamples.{bytes_b}
use Rattle.mw_wasm.specs.Syntax.{PureModule}
use Rattle.mw_wasm.specs.Views.{module_of}
use Rattle.mw_tests.proofs.encode.encoded_b.Goals as goal

pub encode-requires : goal.encode-requires
encode-requires c =
    let e : module_of c.in_ok-built.built ≡ example_b = search rules in
    record { spelled = (bytes_b, subst (λ (m : PureModule). Spells bytes_b m) (sym e) c.example_b_is_spelled.ensures) }
