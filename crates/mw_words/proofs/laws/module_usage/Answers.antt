use Rattle.std.proofs.Common.{[], codes, refl}
use Rattle.mw_words.proofs.Usage.{no_check, no_wat}
use Rattle.mw_words.proofs.PartLemmas.{no_file}
use Rattle.mw_words.proofs.ExampleLemmas.{other_alone}
use Rattle.mw_words.proofs.laws.module_usage.Goals as goal

pub returns : goal.returns
returns c = record {
  wat_no_file = no_wat (λ word e h. cc);
  wat_two_files = no_wat (λ word e h. cc);
  wat_option = no_wat (λ word e h. cc);
  wat_empty = no_wat (other_alone [] (λ h. h));
  wat_dashed = no_wat (other_alone (codes "-f") (no_file _ (codes "f") refl));
  check_no_file = no_check (λ word e h. cc);
  check_two_files = no_check (λ word e h. cc);
  check_option = no_check (λ word e h. cc);
  check_empty = no_check (other_alone [] (λ h. h));
  check_dashed = no_check (other_alone (codes "-f") (no_file _ (codes "f") refl));
}
