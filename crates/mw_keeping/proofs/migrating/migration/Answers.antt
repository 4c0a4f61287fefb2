use Rattle.std.proofs.Common.{◌-◌, length, ap, subst, ◌∙◌, arith}
use Rattle.mw_store.specs.Loads.{IsLoadOf, file_limit}
use Rattle.mw_store.proofs.Files.{only_the_front}
use Rattle.mw_keeping.specs.KeptFiles.{fitting}
use Rattle.mw_keeping.proofs.Migrations.{few_fit, few_migrated}
use Rattle.mw_keeping.proofs.migrating.migration.Goals as goal

pub overflow_cast-added : goal.overflow_cast-added
overflow_cast-added g c =
    let migrated = c.in_ok-old.ensures.migrated in
    let fit = c.fitting_count-added.ensures.fitting migrated.0 migrated.2 in
    let few = few_fit (file_limit - c.good.result) migrated.0 in
    omega (arith, fit, few)

pub returns-clause-found : goal.returns-clause-found
returns-clause-found g c = λ tells.
    let bytes = c.as_slice-front.ensures.value ∙ c.in_ok-bytes.ensures.ok tells in
    let migrated = c.in_ok-old.ensures.migrated in
    record {
      read = record {
        count_is = ap length bytes;
        is_load =
            (only_the_front (g.C.Keeper.held c.args.keeper.now) c.in_ok-load.load).0
            (subst (λ bs. IsLoadOf bs c.in_ok-load.load) bytes c.in_ok-load.ensures);
      };
      records = migrated.0;
      are = migrated.1;
      bytes = migrated.2;
      added = c.fitting_count-added.ensures.fitting migrated.0 migrated.2
          ∙ ap (λ good. length (fitting (file_limit - good) migrated.0)) c.good.ensures.good;
    }

pub returns-clause-few : goal.returns-clause-few
returns-clause-few g c =
    let few = few_migrated _ _ _ c.in_ok-old.ensures.migrated in
    omega (arith, few, c.fitting_count-added.ensures.most)

pub returns-clause-spent : goal.returns-clause-spent
returns-clause-spent g c =
    let few = few_migrated _ _ _ c.in_ok-old.ensures.migrated in
    omega (arith, few, c.in_ok-old.ensures.spent)
