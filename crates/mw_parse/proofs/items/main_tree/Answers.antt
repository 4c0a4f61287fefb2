use Rattle.std.proofs.Common.{arith}
use Rattle.mw_grammar.proofs.Below.{read_full, read_gives, read_refuses, read_reads, part_fails, fails_then}
use Rattle.mw_parse.proofs.items.main_tree.Goals as goal

pub returns-in-None-after-clause-gives : goal.returns-in-None-after-clause-gives
returns-in-None-after-clause-gives c =
    grind (arith, read_full, read_gives, read_refuses, read_reads, part_fails, fails_then)

pub returns-in-None-clause-gives : goal.returns-in-None-clause-gives
returns-in-None-clause-gives c = grind (arith, read_full, read_gives, read_refuses, read_reads, part_fails, fails_then)

pub returns-in_err-ground-in-Some-clause-gives : goal.returns-in_err-ground-in-Some-clause-gives
returns-in_err-ground-in-Some-clause-gives c =
    grind (arith, read_full, read_gives, read_refuses, read_reads, part_fails, fails_then)

pub returns-in_err-tree-in-Some-after-clause-gives : goal.returns-in_err-tree-in-Some-after-clause-gives
returns-in_err-tree-in-Some-after-clause-gives c =
    grind (arith, read_full, read_gives, read_refuses, read_reads, part_fails, fails_then)

pub returns-in_ok-tree-in-Some-after-clause-gives : goal.returns-in_ok-tree-in-Some-after-clause-gives
returns-in_ok-tree-in-Some-after-clause-gives c =
    grind (arith, read_full, read_gives, read_refuses, read_reads, part_fails, fails_then)
