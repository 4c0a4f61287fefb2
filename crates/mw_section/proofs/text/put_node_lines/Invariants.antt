use Rattle.std.proofs.Common.{◌≡◌, ◌++◌, map, drop}
use Rattle.std.specs.List.{flat_map}
use Rattle.mw_recheck.specs.Texts.{numbers_text}
use Rattle.mw_recheck.specs.Answers.{numbers_of}
use Rattle.mw_recheck.specs.Sections.{FitNodes}
use Rattle.mw_section.proofs.text.put_node_lines.Given as goal

-- What is there, and the lines to come, are all of it. All fit where those fit.
abbrev pub invariant-loop-node : goal.invariant-loop-node
invariant-loop-node l =
    record {
      text : l.text.items ++ flat_map numbers_text (map numbers_of (drop l.node-index l.nodes))
          ≡ l.fn.text.items ++ flat_map numbers_text (map numbers_of l.nodes);
      fits : FitNodes (map numbers_of (drop l.node-index l.nodes)) → FitNodes (map numbers_of l.nodes);
    }
