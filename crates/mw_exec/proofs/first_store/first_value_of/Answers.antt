use Rattle.std.proofs.Common.{ap}
use Rattle.mw_wasm.specs.declared.values.Value.TheVariants as value
use Rattle.mw_wasm.specs.Act.{constant}
use Rattle.mw_wasm.specs.Views.{instruction_of}
use Rattle.mw_exec.proofs.FirstStores.{one_there, value_is, is_one, no_constant}
use Rattle.mw_exec.proofs.first_store.first_value_of.Goals as goal

pub get-requires : goal.get-requires
get-requires c = one_there c.args.global.now.kind c.args.global.now.init.inner.items c.requires

pub unreachable-requires : goal.unreachable-requires
unreachable-requires c = let one = is_one c.args.global.now c.requires c.get.result.now c.get.ensures in
    no_constant c.get.result.now one.0 c.in_default.not-ConstI32 c.in_default.not-ConstI64 one.2

pub returns-in-ConstI32 : goal.returns-in-ConstI32
returns-in-ConstI32 c = value_is c.args.global.now c.requires c.get.result.now c.get.ensures (value.I32 c.in-ConstI32.n)
    (ap (λ i. constant (instruction_of i)) c.in-ConstI32.is)

pub returns-in-ConstI64 : goal.returns-in-ConstI64
returns-in-ConstI64 c = value_is c.args.global.now c.requires c.get.result.now c.get.ensures (value.I64 c.in-ConstI64.n)
    (ap (λ i. constant (instruction_of i)) c.in-ConstI64.is)
