use Rattle.std.proofs.Common.{subst, sym}
use Rattle.mw_wasm.specs.Views.{module_of}
use Rattle.mw_store.specs.Whole.{IsSound}
use Rattle.mw_store.proofs.whole.sound_module.Goals as goal

pub returns-in-Ok-validate : goal.returns-in-Ok-validate
returns-in-Ok-validate c =
    subst (λ m. IsSound c.args.bytes.now (module_of m)) (sym c.in-Ok-validate.ensures.same)
    (record {
      spelled = c.in-Ok.ensures.spelled.0;
      profile = c.in-Ok.ensures.spelled.1;
      valid =
          c.in-Ok-validate.ensures.valid;
    })
