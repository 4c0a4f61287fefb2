use Rattle.std.proofs.Common.{arith}
use Rattle.mw_lex.specs.Tokens.{tokens_of}
use Rattle.mw_grammar.specs.Grammar.{tree, expr, disjunction, head, atom}
use Rattle.mw_grammar.specs.Forms.{disjunction_form, passed_form}
use Rattle.mw_grammar.specs.Descent.{none_yet, full, reading}
use Rattle.mw_grammar.specs.Levels.{row_of}
use Rattle.mw_grammar.specs.Boxes.{tree_in}
use Rattle.mw_grammar.proofs.Below.{read_full, read_reads, read_more, follow_on}
use Rattle.mw_parse.proofs.Connectives.{passed, passed_more, within_as}
use Rattle.mw_parse.proofs.trees.+trees.Goals as goal

pub row_tree-more_trees-requires : goal.row_tree-more_trees-requires
row_tree-more_trees-requires t c = (omega arith, c.in_ok-left.ensures.height)

pub more_trees-returns-else-height-room : goal.more_trees-returns-else-height-room
more_trees-returns-else-height-room t c =
    within_as c.args.room tree_in c.next_operand.result _ _
    (follow_on c.args.room.nodes (row_of c.args.row) (tree_in c.args.left) c.args.height
    (tokens_of c.args.tokens.now) _ _ c.in-Some.ensures (omega arith)) c.next_operand.ensures

pub head_tree-returns-in-None-head_word : goal.head_tree-returns-in-None-head_word
head_tree-returns-in-None-head_word t c =
    within_as c.args.room tree_in c.atom_tree.result
    (full c.args.room.nodes (tree head) (tokens_of c.args.tokens.now))
    (reading c.args.room.nodes passed_form none_yet (tokens_of c.args.tokens.now))
    (grind (arith, read_full)) (passed atom head c.args.room tree_in c.atom_tree.result
    (tokens_of c.args.tokens.now) c.atom_tree.ensures)

pub expr_tree-returns-in-Other : goal.expr_tree-returns-in-Other
expr_tree-returns-in-Other t c =
    within_as c.args.room tree_in c.connected_tree.result
    (full c.args.room.nodes (tree expr) (tokens_of c.args.tokens.now))
    (reading c.args.room.nodes disjunction_form none_yet (tokens_of c.args.tokens.now))
    (grind (arith, read_full))
    (passed disjunction expr c.args.room tree_in c.connected_tree.result (tokens_of c.args.tokens.now)
    c.connected_tree.ensures)

pub row_tree-returns : goal.row_tree-returns
row_tree-returns t c =
    within_as c.args.room tree_in c.more_trees.result _ _
    (grind (arith, read_full, read_reads, read_more))
    (passed_more _ c.args.room tree_in c.more_trees.result (row_of c.args.row) (tree_in c.in_ok-left.left)
    c.in_ok-left.height (tokens_of c.in_ok-left.mid.now) c.more_trees.ensures)
