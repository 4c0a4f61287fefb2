use Rattle.std.proofs.Common.{refl, arith, codes}
use Rattle.mw_words.specs.Words.{no_part}
use Rattle.mw_words.proofs.ExampleLemmas.{f_named, then_file, joined_first, number_named, apart_first, f_alone}
use Rattle.mw_words.proofs.ExampleLemmas.{fuel_file_fuel, simplify_first_of, two_files}
use Rattle.mw_words.proofs.LawLemmas.{few_number}
use Rattle.mw_words.proofs.Usage.{no_link, none_of}
use Rattle.mw_words.proofs.laws.link_usage.Goals as goal

pub returns : goal.returns
returns c = record {
  link_no_file = no_link (none_of _ no_part (λ has. let fact = has.file.1 in cc));
  link_two_files = no_link (none_of _ two_files (λ has. let fact = has.file.1 in cc));
  link_simplified = no_link (none_of _ (simplify_first_of f_alone) (λ has. let fact = has.options in cc));
  link_cached = no_link
      (none_of _ (apart_first (codes "--cache") (codes "c") refl f_alone) (λ has. let fact = has.options in cc));
  link_no_worker =
      no_link (none_of _ (apart_first (codes "--workers") (codes "0") refl f_alone)
      (λ has. let number = number_named {word = codes "0"} has.workers.1 refl in
      omega (arith, number.value, number.low)));
  link_many_workers =
      no_link (none_of _ (apart_first (codes "--workers") (codes "65") refl f_alone)
      (λ has. let number = number_named {word = codes "65"} has.workers.1 refl in
      omega (arith, number.value, number.high)));
  link_workers_twice =
      no_link (none_of _
      (joined_first (codes "--workers") (codes "2") refl
      (then_file f_named (apart_first (codes "--workers") (codes "3") refl no_part)))
      (λ has. omega (arith, few_number has.workers.1)));
  link_fuel_twice = no_link (none_of _ fuel_file_fuel (λ has. omega (arith, few_number has.fuel.1)));
}
