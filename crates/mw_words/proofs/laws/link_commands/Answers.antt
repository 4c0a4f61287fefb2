use Rattle.std.proofs.Common.{arith, rules, codes, refl}
use Rattle.mw_words.specs.Words.{no_part, IsNumber, named_once, link_of, not_named, parts_command}
use Rattle.mw_words.proofs.ExampleLemmas.{most_fuel, most_workers, joined_first, eight, apart_first, f_alone, f_named}
use Rattle.mw_words.proofs.ExampleLemmas.{then_file}
use Rattle.mw_words.proofs.laws.link_commands.Goals as goal

two : IsNumber 64 (codes "2") 2
two = record { digits = search rules; few = omega arith; value = refl; low = omega arith; high = omega arith }

pub returns : goal.returns
returns c = record {
  link_alone = parts_command f_alone (link_of refl (not_named refl) (not_named refl) refl);
  link_apart = parts_command
      (apart_first (codes "--workers") (codes "2") refl (apart_first (codes "--fuel") (codes "8") refl f_alone))
      (link_of refl (named_once refl two) (named_once refl eight) refl);
  link_joined = parts_command
      (joined_first (codes "--workers") (codes "2") refl (joined_first (codes "--fuel") (codes "8") refl f_alone))
      (link_of refl (named_once refl two) (named_once refl eight) refl);
  link_behind = parts_command
      (then_file f_named
      (apart_first (codes "--fuel") (codes "8") refl (joined_first (codes "--workers") (codes "2") refl no_part)))
      (link_of refl (named_once refl two) (named_once refl eight) refl);
  link_around = parts_command
      (joined_first (codes "--fuel") (codes "10000000") refl
      (then_file f_named (apart_first (codes "--workers") (codes "000000064") refl no_part)))
      (link_of refl (named_once refl most_workers) (named_once refl most_fuel) refl);
}
