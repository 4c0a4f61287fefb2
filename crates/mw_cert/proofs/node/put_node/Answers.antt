use Rattle.std.proofs.Common.{length, arith}
use Rattle.std.specs.Prelude.{option_to_list}
use Rattle.mw_types.specs.Types.{type_of}
use Rattle.mw_infer.specs.Typings.{facts_of_node}
use Rattle.mw_cert.specs.Nodes.{type_of_tree}
use Rattle.mw_cert.proofs.Lines.{puts_line, rest_is_short}
use Rattle.mw_cert.proofs.node.put_node.Goals as goal

pub node_line-requires : goal.node_line-requires
node_line-requires c =
    let x = facts_of_node c.args.node.now in
    omega (
      arith,
      rest_is_short x.types (type_of c.ty.result.now) (length (option_to_list x.classifier)) c.ty.ensures c.requires,
      c.in_ok-first.ensures.count,
      c.in_ok-second.ensures.count,
      c.in_ok-classifier.ensures.count,
    )

pub returns : goal.returns
returns c =
    puts_line (type_of_tree c.args.node.now.solution) (facts_of_node c.args.node.now) (type_of c.ty.result.now)
    c.args.writer.now c.put_type.new.writer c.put_further.new.writer c.put_further-2.new.writer
    c.put_classifier.new.writer c.in_ok-own.own (option_to_list c.in_ok-first.first)
    (option_to_list c.in_ok-second.second) (option_to_list c.in_ok-classifier.classifier) _ c.ty.ensures c.requires
    c.in_ok-own.ensures c.in_ok-first.ensures.puts c.in_ok-second.ensures.puts c.in_ok-classifier.ensures.puts
    c.node_line.ensures
