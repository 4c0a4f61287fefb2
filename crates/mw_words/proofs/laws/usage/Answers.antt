use Rattle.std.proofs.Common.{refl, ap, List, length, ℕ, Some, None, [], arith, codes, ◌∷◌}
use Rattle.mw_words.specs.Words.{filed, no_part, parts_command, with_word}
use Rattle.mw_words.proofs.Usage.{no_sample, no_erased, no_migrate, no_run, none_of}
use Rattle.mw_words.proofs.ExampleLemmas.{path_named, apart_first, then_file, f_alone, f_named, fuel_file_fuel}
use Rattle.mw_words.proofs.ExampleLemmas.{joined_first, simplify_first_of, two_files}
use Rattle.mw_words.proofs.LawLemmas.{few_word, few_switch, few_number}
use Rattle.mw_words.proofs.OptionLemmas.{no_equal}
use Rattle.mw_words.proofs.PartLemmas.{no_file, no_option_begins}
use Rattle.mw_words.proofs.ReadParts.{further, here, stuck_is_none}
use Rattle.mw_words.proofs.laws.usage.Goals as goal

pub returns : goal.returns
returns c = record {
  no_word = λ c h. elim h [ ];
  option_first = λ c h. elim h [ parts_command parts makes ↦ elim makes [ ] ];
  two_files = no_run (none_of _ two_files (λ has. let fact = has.file.1 in cc));
  two_dashes = no_run
      (λ parts whole has. stuck_is_none here (λ e. cc)
      (no_option_begins _ (codes "f" ∷ []) (codes "--") (codes "--") None refl (no_file (codes "--") (codes "-") refl)
      (refl, no_equal (codes "--") refl) refl) parts whole);
  fuel_twice = no_run (none_of _ fuel_file_fuel (λ has. omega (arith, few_number has.fuel.1)));
  simplify_twice =
      no_run (none_of _ (simplify_first_of (then_file f_named (simplify_first_of no_part)))
      (λ has. omega (arith, few_switch has.simplify.1)));
  simplify_valued =
      no_run (λ parts whole has. stuck_is_none here (λ e. cc)
      (no_option_begins _ (codes "f" ∷ []) (codes "--simplify=1") (codes "--simplify") (Some (codes "1")) refl
      (no_file (codes "--simplify=1") (codes "-simplify=1") refl) (refl, no_equal (codes "--simplify") refl) refl) parts
      whole);
  cache_twice = no_run
      (none_of _
      (joined_first (codes "--cache") (codes "c") refl
      (then_file f_named (apart_first (codes "--cache") (codes "d") refl no_part)))
      (λ has. omega (arith, few_word has.cache.1)));
  cache_without_path =
      no_run (λ parts whole has. stuck_is_none (further (filed f_named) here) (λ e. cc)
      (no_option_begins _ [] (codes "--cache") (codes "--cache") None refl
      (no_file (codes "--cache") (codes "-cache") refl) (refl, no_equal (codes "--cache") refl) refl) parts whole);
  cache_empty = no_run
      (none_of _ (joined_first (codes "--cache") [] refl f_alone) (λ has. path_named {word = []} has.cache.1 refl));
  cache_dashed =
      no_run (none_of _ (joined_first (codes "--cache") (codes "-c") refl f_alone)
      (λ has. no_file (codes "-c") (codes "c") refl (path_named has.cache.1 refl)));
  cache_option_as_path =
      no_run (none_of _ (apart_first (codes "--cache") (codes "--simplify") refl f_alone)
      (λ has. no_file (codes "--simplify") (codes "-simplify") refl (path_named has.cache.1 refl)));
  erased_cached =
      no_erased (none_of _ (joined_first (codes "--cache") (codes "c") refl f_alone)
      (λ has. let fact = has.options in cc));
  sample_cached = no_sample (λ word n e is. omega (arith, ap (λ (l : List (List ℕ)). length l) e));
  erased_no_file = no_erased (none_of _ no_part (λ has. let fact = has.file.1 in cc));
  erased_workers =
      no_erased (none_of _ (apart_first (codes "--workers") (codes "2") refl f_alone)
      (λ has. let fact = has.options in cc));
  erased_two_files = no_erased (none_of _ two_files (λ has. let fact = has.file.1 in cc));
  erased_simplified = no_erased (none_of _ (simplify_first_of f_alone) (λ has. let fact = has.options in cc));
  erased_fuel_twice = no_erased (none_of _ fuel_file_fuel (λ has. omega (arith, few_number has.fuel.1)));
  migrate_uncached = no_migrate (none_of _ no_part (λ has. elim has.cache.1 [ with_word e h ↦ cc ]));
  migrate_twice =
      no_migrate
      (none_of _
      (joined_first (codes "--cache") (codes "c") refl (apart_first (codes "--cache") (codes "d") refl no_part))
      (λ has. omega (arith, few_word has.cache.1)));
  migrate_file =
      no_migrate
      (none_of _ (joined_first (codes "--cache") (codes "c") refl f_alone) (λ has. let fact = has.no_file in cc));
  migrate_fuelled =
      no_migrate
      (none_of _
      (joined_first (codes "--cache") (codes "c") refl (joined_first (codes "--fuel") (codes "8") refl no_part))
      (λ has. let fact = has.options in cc));
}
