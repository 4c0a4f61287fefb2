use Rattle.std.proofs.Common.{arith}
use Rattle.mw_words.specs.Words.{cert_command, recheck_command}
use Rattle.mw_words.proofs.ExampleLemmas.{f_named}
use Rattle.mw_words.proofs.laws.certificate_commands.Goals as goal

pub returns : goal.returns
returns c = record {
  cert_file = cert_command f_named;
  recheck_files = recheck_command (omega arith) f_named;
  recheck_same_file = recheck_command f_named f_named;
}
