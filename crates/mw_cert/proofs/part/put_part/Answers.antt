use Rattle.std.proofs.Common.{◌≡◌, ℕ, ◌+◌, ◌≤◌, List, [], ◌∷◌, ◌++◌, map, length, IfOk, ap, sym, ◌∙◌, subst, arith}
use Rattle.std.proofs.lemmas.List.{map-append, length-map}
use Rattle.mw_types.specs.Types.{TypeExpression}
use Rattle.mw_lines.specs.TypeLines.{line_of}
use Rattle.mw_recheck.specs.Answers.{numbers_of}
use Rattle.mw_recheck.specs.Sections.{SectionLines, FitsSection}
use Rattle.mw_recheck.specs.Texts.{section_text}
use Rattle.mw_infer.specs.Typings.{facts_of_node, nodes_at}
use Rattle.mw_made.specs.Making.{section_of}
use Rattle.mw_cert.specs.Nodes.{type_at_part, facts_at_part, PutsNode}
use Rattle.mw_cert.proofs.Trees.{node_types, node_facts}
use Rattle.mw_cert.proofs.Parts.{AreWritten, none_written, more_written, is_section}
use Rattle.mw_cert.proofs.part.put_part.Goals as goal

pub loop-at-init : goal.loop-at-init
loop-at-init c =
    let types = type_at_part c.args.typed.now c.args.part in
    rw c.new-nodes.ensures.items
    (none_written types (facts_at_part c.args.typed.now c.args.part) c.new-writer.result (c.new-writer.ensures types))

pub put_node-requires : goal.put_node-requires
put_node-requires c =
    c.requires.short c.loop-at.at (facts_of_node c.node-node.result)
    (node_facts c.args.typed.now c.args.part c.loop-at.at c.node-node.result c.node-node.ensures)

pub loop-at-preserved : goal.loop-at-preserved
loop-at-preserved c =
    let t = c.args.typed.now in
    let types = type_at_part t c.args.part in
    let facts = facts_at_part t c.args.part in
    let x = facts_of_node c.node-node.result in
    let line = numbers_of c.in_ok-line.line in
    let lines = map numbers_of c.loop-at.nodes.items in
    let put = subst (λ (f : ℕ → TypeExpression). PutsNode f x c.loop-at.writer c.put_node.new.writer line)
    (node_types t c.args.part c.loop-at.at c.node-node.result c.node-node.ensures) c.in_ok-line.ensures in
    let e : map numbers_of c.push.new.self.items ≡ lines ++ line ∷ [] =
    ap (λ ls. map numbers_of ls) c.in_ok-push.ensures.items
    ∙ map-append numbers_of c.loop-at.nodes.items (c.in_ok-line.line ∷ []) in
    subst (λ (ls : List (List ℕ)). AreWritten types facts (c.loop-at.at + 1) c.put_node.new.writer ls) (sym e)
    (more_written types facts c.loop-at.at c.loop-at.writer c.put_node.new.writer lines x line c.loop-at.invariant
    (node_facts t c.args.part c.loop-at.at c.node-node.result c.node-node.ensures) put)

pub returns : goal.returns
returns c =
    let t = c.args.typed.now in
    let types = type_at_part t c.args.part in
    let facts = facts_at_part t c.args.part in
    let past : length facts ≤ c.loop-at.at =
    omega (arith, length-map (nodes_at t c.args.part) facts_of_node, c.nodes-at-end.ensures) in
    let x : SectionLines =
    record { types = map line_of c.as_slice.result.now; nodes = map numbers_of c.as_slice-2.result.now } in
    let same : x ≡ section_of facts =
    rw (c.as_slice.ensures.value, c.as_slice-2.ensures.value)
    (is_section types facts c.loop-at.at c.loop-at.writer c.finish-lines.result.items c.loop-at.nodes.items
    c.loop-at.invariant past (c.finish-lines.ensures types)) in
    record {
      text = subst (λ (y : SectionLines). IfOk c.put_section.result
          (λ _. c.put_section.new.text.items ≡ c.args.text.now.items ++ section_text y)) same
          c.put_section.ensures.text;
      fits = subst (λ (y : SectionLines). IfOk c.put_section.result (λ _. FitsSection y)) same
          c.put_section.ensures.fits;
    }
