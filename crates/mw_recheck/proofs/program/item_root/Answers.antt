use Rattle.std.proofs.Common.{true, false, Some, refl, sym, ap, ◌∙◌}
use Rattle.mw_term.specs.Programs.{definition_of}
use Rattle.mw_term.specs.Terms.{kernel_type_of}
use Rattle.mw_lines.specs.Tables.{lines_of, type_at}
use Rattle.mw_recheck.specs.Roots.{tops_of}
use Rattle.mw_recheck.proofs.LineTypes.{closed_kernel-at}
use Rattle.mw_recheck.proofs.Items.{item_found, front_type}
use Rattle.mw_recheck.proofs.program.item_root.Goals as goal

pub returns-in-Value-clause-root : goal.returns-in-Value-clause-root
returns-in-Value-clause-root c =
    let root = rw c.term_of.ensures at c.in_ok-types.ensures.root in
    let last = front_type c.in_ok-types.types c.front.result c.in_ok-types.at c.in_ok-types.ensures.held
    c.in_ok-types.ensures.within c.front.ensures.lines in
    item_found (tops_of false c.args.roots.now) (definition_of c.args.item.now.kind) c.args.bytes.now
    (type_at c.in_ok-types.types c.in_ok-types.at) c.in_ok-types.rest.now true root (rw c.in-Value.is refl)
    ∙ ap (λ s. Some (s, c.in_ok-types.rest.now)) (rw (c.in-Value.is, last) refl)

pub returns-then-is_closed_kernel-clause-root : goal.returns-then-is_closed_kernel-clause-root
returns-then-is_closed_kernel-clause-root c =
    let root = rw c.term_of.ensures at c.in_ok-types.ensures.root in
    let is = sym (closed_kernel-at (lines_of c.in_ok-types.types) c.in_ok-types.ensures.held.lines c.in_ok-types.at
    (kernel_type_of c.in-Kernel.kind) c.in_ok-types.ensures.within) ∙ sym c.is_closed_kernel.ensures
    ∙ c.if-is_closed_kernel.true in
    item_found (tops_of false c.args.roots.now) (definition_of c.args.item.now.kind) c.args.bytes.now
    (type_at c.in_ok-types.types c.in_ok-types.at) c.in_ok-types.rest.now true root (rw c.in-Kernel.is is)
    ∙ ap (λ s. Some (s, c.in_ok-types.rest.now)) (rw c.in-Kernel.is refl)

pub returns-clause-root : goal.returns-clause-root
returns-clause-root c =
    let root = rw c.term_of.ensures at c.in_ok-types.ensures.root in
    let is = sym (closed_kernel-at (lines_of c.in_ok-types.types) c.in_ok-types.ensures.held.lines c.in_ok-types.at
    (kernel_type_of c.in-Kernel.kind) c.in_ok-types.ensures.within) ∙ sym c.is_closed_kernel.ensures
    ∙ c.if-is_closed_kernel.false in
    item_found (tops_of false c.args.roots.now) (definition_of c.args.item.now.kind) c.args.bytes.now
    (type_at c.in_ok-types.types c.in_ok-types.at) c.in_ok-types.rest.now false root (rw c.in-Kernel.is is)
