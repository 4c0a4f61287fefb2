use Rattle.std.proofs.Common.{arith, ◌∙◌}
use Rattle.mw_types.specs.Stands.{s_free, s_int, s_bool, s_pair, s_arrow, s_code, s_closed}
use Rattle.mw_types.proofs.Walking.{leads_stands}
use Rattle.mw_types.proofs.Answering.{at_shape, has_node, parts}
use Rattle.mw_types.proofs.answer.+tree.Goals as goal

pub overflow_sub-below : goal.overflow_sub-below
overflow_sub-below t c = has_node c.args.state.now c.args.names.now c.args.node c.args.room c.requires.room

pub returns-in-Free : goal.returns-in-Free
returns-in-Free t c = let a = c.class_of-root.ensures in leads_stands a.leads (s_free a.root (a.shape ∙ c.in-Free.is))

pub returns-in-Int : goal.returns-in-Int
returns-in-Int t c = let a = c.class_of-root.ensures in leads_stands a.leads (s_int a.root (a.shape ∙ c.in-Int.is))

pub returns-in-Bool : goal.returns-in-Bool
returns-in-Bool t c = let a = c.class_of-root.ensures in leads_stands a.leads (s_bool a.root (a.shape ∙ c.in-Bool.is))

pub tree-requires : goal.tree-requires
tree-requires t c =
    let p = parts c.args.state.now c.args.names.now c.args.room _ c.requires.sound
    (at_shape c.in-Pair.is c.class_of-root.ensures) c.requires.room in
    (omega (arith, c.decreases, p.0), (c.requires.sound, (c.requires.named, p.1.0)))

pub tree-requires-in-Pair : goal.tree-requires-in-Pair
tree-requires-in-Pair t c =
    let p = parts c.args.state.now c.args.names.now c.args.room _ c.requires.sound
    (at_shape c.in-Pair.is c.class_of-root.ensures) c.requires.room in
    (omega (arith, c.decreases, p.0), (c.requires.sound, (c.requires.named, p.1.1)))

pub tree-requires-in-Arrow : goal.tree-requires-in-Arrow
tree-requires-in-Arrow t c =
    let p = parts c.args.state.now c.args.names.now c.args.room _ c.requires.sound
    (at_shape c.in-Arrow.is c.class_of-root.ensures) c.requires.room in
    (omega (arith, c.decreases, p.0), (c.requires.sound, (c.requires.named, p.1.0)))

pub tree-requires-in-Arrow-2 : goal.tree-requires-in-Arrow-2
tree-requires-in-Arrow-2 t c =
    let p = parts c.args.state.now c.args.names.now c.args.room _ c.requires.sound
    (at_shape c.in-Arrow.is c.class_of-root.ensures) c.requires.room in
    (omega (arith, c.decreases, p.0), (c.requires.sound, (c.requires.named, p.1.1)))

pub tree-requires-in-Code : goal.tree-requires-in-Code
tree-requires-in-Code t c =
    let p = parts c.args.state.now c.args.names.now c.args.room _ c.requires.sound
    (at_shape c.in-Code.is c.class_of-root.ensures) c.requires.room in
    (omega (arith, c.decreases, p.0), (c.requires.sound, (c.requires.named, p.1.1)))

pub tree-requires-in-Closed : goal.tree-requires-in-Closed
tree-requires-in-Closed t c =
    let p = parts c.args.state.now c.args.names.now c.args.room _ c.requires.sound
    (at_shape c.in-Closed.is c.class_of-root.ensures) c.requires.room in
    (omega (arith, c.decreases, p.0), (c.requires.sound, (c.requires.named, p.1)))

pub returns-in_ok-new-in-Pair-2 : goal.returns-in_ok-new-in-Pair-2
returns-in_ok-new-in-Pair-2 t c = let a = c.class_of-root.ensures in
    rw (c.in_ok-new-in-Pair.ensures.ok, c.in_ok-new-in-Pair-2.ensures.ok)
    (leads_stands a.leads (s_pair a.root (a.shape ∙ c.in-Pair.is) c.in_ok-left-in-Pair.ensures
    c.in_ok-right-in-Pair.ensures))

pub returns-in_ok-new-in-Arrow-2 : goal.returns-in_ok-new-in-Arrow-2
returns-in_ok-new-in-Arrow-2 t c = let a = c.class_of-root.ensures in
    rw (c.in_ok-new-in-Arrow.ensures.ok, c.in_ok-new-in-Arrow-2.ensures.ok)
    (leads_stands a.leads (s_arrow a.root (a.shape ∙ c.in-Arrow.is) c.in_ok-left-in-Arrow.ensures
    c.in_ok-right-in-Arrow.ensures))

pub name_at-requires : goal.name_at-requires
name_at-requires t c = omega (
  arith,
  (parts c.args.state.now c.args.names.now c.args.room _ c.requires.sound
      (at_shape c.in-Code.is c.class_of-root.ensures) c.requires.room).1.0,
  c.requires.named.long,
)

pub returns-in_ok-new-in-Code : goal.returns-in_ok-new-in-Code
returns-in_ok-new-in-Code t c = let a = c.class_of-root.ensures in
    rw c.in_ok-new-in-Code.ensures.ok
    (leads_stands a.leads (s_code a.root (a.shape ∙ c.in-Code.is) c.name_at.ensures
    c.in_ok-inner-in-Code.ensures))

pub returns-in_ok-new-in-Closed : goal.returns-in_ok-new-in-Closed
returns-in_ok-new-in-Closed t c = let a = c.class_of-root.ensures in
    rw c.in_ok-new-in-Closed.ensures.ok
    (leads_stands a.leads (s_closed a.root (a.shape ∙ c.in-Closed.is) c.in_ok-inner-in-Closed.ensures))
