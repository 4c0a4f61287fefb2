use Rattle.std.proofs.Common.{◌≡◌, ℕ, ◌+◌, List, [], length, take, sym, ap, subst, arith}
use Rattle.mw_term.specs.Terms.{expression_of, kernel_type_of}
use Rattle.mw_key.specs.CanonicalText.{IsTextOf}
use Rattle.mw_store.specs.Loads.{LoadState}
use Rattle.mw_cache.specs.Migrating.{no_record, AreMigrated}
use Rattle.mw_cache.proofs.MigratedRecords.{one_migrated, two_migrated}
use Rattle.mw_cache.proofs.migration.migration_of.Goals as goal
use Rattle.mw_cache.proofs.migration.migration_of.Goals.{in-One+in_ok-add_anew-in-One, in-Two}

pub loop-at-init : goal.loop-at-init
loop-at-init g c =
    let size : length c.new-records.result ≡ 0 = ap (λ xs. length xs) c.new-records.ensures in
    record {
      migrated = ([], no_record, c.new-records.ensures);
      few = omega arith;
      most = (omega arith, omega arith);
      spent = omega (arith, size);
    }

-- a count and records that are the same
same_migrated : (load : LoadState) (at m n : ℕ) (xs ys : List (List ℕ)) → m ≡ n → xs ≡ ys
    → AreMigrated load (take at load.records) n ys → AreMigrated load (take at load.records) m xs
same_migrated load at m n xs ys count records h =
    subst (λ i. AreMigrated load (take at load.records) i xs) (sym count)
    (subst (λ zs. AreMigrated load (take at load.records) n zs) (sym records) h)

-- steps go with records
same_spent : (s t u start : ℕ) (before after now : List (List ℕ)) → s ≡ t → now ≡ after
    → t + length before ≡ u + length after → u ≡ start + length before → s ≡ start + length now
same_spent s t u start before after now steps records spent so_far =
    let size : length now ≡ length after = ap (λ xs. length xs) records in
    omega (arith, steps, size, spent, so_far)

pub loop-at-preserved : goal.loop-at-preserved
loop-at-preserved g c =
    let load = c.args.load.now in let at = c.loop-at.at in
    let here = c.in_ok-version.ensures in
    let code = expression_of c.in_ok-version.code in let kind = kernel_type_of c.in_ok-version.kind in
    let few = c.loop-at.invariant.few in let so_far = c.loop-at.invariant.spent in
    let from = c.loop-at.invariant.most.0 in let to = c.loop-at.invariant.most.1 in
    elim c.match-version.branch [
      | in-One+in_ok-add_anew-in-One w ↦
          let one = subst (λ v. IsTextOf here.0.text v code kind) w.in-One.is here.2 in
          let adds = w.in_ok-add_anew-in-One.ensures in let up = w.add_anew.ensures.most in
          let steps = w.steps-is in let count = w.old-is in
          record {
            migrated = same_migrated load (at + 1) _ _ _ _ count w.records-is
                (one_migrated load at c.loop-at.old c.loop-at.records w.add_anew.new.records here.0 code kind here.1 one
                adds.added c.loop-at.invariant.migrated);
            few = omega (arith, count, few);
            most = (omega (arith, from, up.0, steps), omega (arith, to, up.1, steps));
            spent = same_spent c.match-version.steps w.add_anew.new.steps c.loop-at.steps c.args.steps.now
                c.loop-at.records w.add_anew.new.records c.match-version.records w.steps-is w.records-is adds.spent
                so_far;
          }
      | in-Two w ↦
          let two = subst (λ v. IsTextOf here.0.text v code kind) w.in-Two.is here.2 in
          let count = w.old-is in let steps = w.steps-is in
          let size : length c.match-version.records ≡ length c.loop-at.records = ap (λ xs. length xs) w.records-is in
          record {
            migrated = same_migrated load (at + 1) _ _ _ _ count w.records-is
                (two_migrated load at c.loop-at.old c.loop-at.records here.0 code kind here.1 two
                c.loop-at.invariant.migrated);
            few = omega (arith, count, few);
            most = (omega (arith, from, steps), omega (arith, to, steps));
            spent = omega (arith, steps, size, so_far);
          }
    ]
