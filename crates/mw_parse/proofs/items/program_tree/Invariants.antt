use Rattle.std.proofs.Common.{◌≡◌, ◌≤◌, length, map}
use Rattle.mw_lex.specs.Tokens.{tokens_of}
use Rattle.mw_grammar.specs.SurfaceTrees.{item_of}
use Rattle.mw_grammar.specs.Grammar.{program}
use Rattle.mw_grammar.specs.Descent.{full}
use Rattle.mw_parse.proofs.Programs.{behind_items}
use Rattle.mw_parse.proofs.items.program_tree.Given as goal

abbrev pub invariant-loop-items : goal.invariant-loop-items
invariant-loop-items l =
    (full l.room.nodes program (tokens_of l.tokens) ≡ behind_items (map item_of l.items) l.height
    (full l.room.nodes program (tokens_of l.rest))) × (l.height ≤ l.room.nodes)

abbrev pub decreases-loop-items : goal.decreases-loop-items
decreases-loop-items l = length l.rest
