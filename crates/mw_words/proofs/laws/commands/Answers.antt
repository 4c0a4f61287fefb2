use Rattle.std.proofs.Common.{rules, arith, codes, refl}
use Rattle.mw_words.specs.Words.{migrate_of, sample_command, with_word, on, no_part, named_once, erased_of, not_named}
use Rattle.mw_words.specs.Words.{off, parts_command, run_of, without_word}
use Rattle.mw_words.proofs.ExampleLemmas.{most_fuel, most_workers, eight, apart_first, f_alone, f_named, joined_first}
use Rattle.mw_words.proofs.ExampleLemmas.{simplify_first_of, then_file}
use Rattle.mw_words.proofs.laws.commands.Goals as goal

pub returns : goal.returns
returns c = record {
  file_alone = parts_command f_alone (run_of refl (not_named refl) (not_named refl) (off refl) (without_word refl)
      refl);
  fuel_apart = parts_command (apart_first (codes "--fuel") (codes "8") refl f_alone)
      (run_of refl (not_named refl) (named_once refl eight) (off refl) (without_word refl) refl);
  fuel_joined = parts_command (joined_first (codes "--fuel") (codes "8") refl f_alone)
      (run_of refl (not_named refl) (named_once refl eight) (off refl) (without_word refl) refl);
  both_options =
      parts_command
      (joined_first (codes "--fuel") (codes "10000000") refl
      (then_file f_named (apart_first (codes "--workers") (codes "000000064") refl no_part)))
      (run_of refl (named_once refl most_workers) (named_once refl most_fuel) (off refl) (without_word refl) refl);
  simplify_first = parts_command (simplify_first_of f_alone)
      (run_of refl (not_named refl) (not_named refl) (on refl) (without_word refl) refl);
  simplify_last =
      parts_command (then_file f_named (joined_first (codes "--fuel") (codes "8") refl (simplify_first_of no_part)))
      (run_of refl (not_named refl) (named_once refl eight) (on refl) (without_word refl) refl);
  cache_apart = parts_command (apart_first (codes "--cache") (codes "c") refl f_alone)
      (run_of refl (not_named refl) (not_named refl) (off refl) (with_word refl (omega arith)) refl);
  cache_joined = parts_command (joined_first (codes "--cache") (codes "c") refl f_alone)
      (run_of refl (not_named refl) (not_named refl) (off refl) (with_word refl (omega arith)) refl);
  cache_simplified =
      parts_command (then_file f_named (simplify_first_of (apart_first (codes "--cache") (codes "c") refl no_part)))
      (run_of refl (not_named refl) (not_named refl) (on refl) (with_word refl (omega arith)) refl);
  cache_among_options =
      parts_command
      (joined_first (codes "--fuel") (codes "8") refl
      (joined_first (codes "--cache") (codes "c") refl (simplify_first_of f_alone)))
      (run_of refl (not_named refl) (named_once refl eight) (on refl) (with_word refl (omega arith)) refl);
  erased_alone = parts_command f_alone (erased_of refl (not_named refl) refl);
  erased_apart = parts_command (apart_first (codes "--fuel") (codes "8") refl f_alone)
      (erased_of refl (named_once refl eight) refl);
  erased_joined = parts_command (joined_first (codes "--fuel") (codes "8") refl f_alone)
      (erased_of refl (named_once refl eight) refl);
  erased_behind = parts_command (then_file f_named (apart_first (codes "--fuel") (codes "8") refl no_part))
      (erased_of refl (named_once refl eight) refl);
  sample_of_hundred =
      sample_command
      (record { digits = search rules; few = omega arith; value = refl; low = omega arith; high = omega arith });
  migrate_apart = parts_command (apart_first (codes "--cache") (codes "c") refl no_part)
      (migrate_of refl (with_word refl (omega arith)) refl);
  migrate_joined = parts_command (joined_first (codes "--cache") (codes "c") refl no_part)
      (migrate_of refl (with_word refl (omega arith)) refl);
}
