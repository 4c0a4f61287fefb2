use Rattle.mw_words.specs.Words.{check_command, wat_command}
use Rattle.mw_words.proofs.ExampleLemmas.{f_named}
use Rattle.mw_words.proofs.laws.module_commands.Goals as goal

pub returns : goal.returns
returns c = record {
  wat_file = wat_command f_named;
  check_file = check_command f_named;
}
