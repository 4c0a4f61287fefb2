use Rattle.std.proofs.Common.{true, false, refl, sym, ◌∙◌}
use Rattle.mw_term.specs.Programs.{program_of}
use Rattle.mw_term.specs.Terms.{ground_of}
use Rattle.mw_lines.specs.Tables.{lines_of, type_at}
use Rattle.mw_recheck.specs.Roots.{tops_of}
use Rattle.mw_recheck.specs.Deciding.{is_end}
use Rattle.mw_recheck.proofs.LineTypes.{ground-at}
use Rattle.mw_recheck.proofs.Items.{program_followed, end_is}
use Rattle.mw_recheck.proofs.program.follow.Goals as goal

pub returns-then-not-is_ground : goal.returns-then-not-is_ground
returns-then-not-is_ground c =
    let tops = tops_of true c.in_ok-roots.roots.items in
    let items = rw c.as_slice.ensures at c.in_ok-roots.ensures.roots in
    let root = rw c.as_slice-2.ensures.value at c.in_ok-types.ensures.root in
    let ground =
    sym (ground-at (lines_of c.in_ok-types.types) c.in_ok-types.ensures.held.lines c.in_ok-types.at
    (ground_of c.args.program.now.result) c.in_ok-types.ensures.within)
    ∙ sym c.is_ground.ensures ∙ c.if-not-is_ground.true in
    program_followed c.args.cert.now c.in_ok-roots.rest.now c.in_ok-types.rest.now
    (program_of c.args.program.now) tops c.in-Some.rest.now (type_at c.in_ok-types.types c.in_ok-types.at) false
    (is_end c.in_ok-types.rest.now)
    (sym c.in-Some.ensures) items root ground refl

pub returns-then-not-is_empty : goal.returns-then-not-is_empty
returns-then-not-is_empty c =
    let tops = tops_of true c.in_ok-roots.roots.items in
    let items = rw c.as_slice.ensures at c.in_ok-roots.ensures.roots in
    let root = rw c.as_slice-2.ensures.value at c.in_ok-types.ensures.root in
    let ground =
    sym (ground-at (lines_of c.in_ok-types.types) c.in_ok-types.ensures.held.lines c.in_ok-types.at
    (ground_of c.args.program.now.result) c.in_ok-types.ensures.within)
    ∙ sym c.is_ground.ensures ∙ c.if-not-is_ground.false in
    program_followed c.args.cert.now c.in_ok-roots.rest.now c.in_ok-types.rest.now
    (program_of c.args.program.now) tops c.in-Some.rest.now
    (type_at c.in_ok-types.types c.in_ok-types.at) true false
    (sym c.in-Some.ensures) items root ground (end_is c.in_ok-types.rest.now false (sym c.is_empty.ensures
    ∙ c.if-not-is_empty.true))

pub returns : goal.returns
returns c =
    let tops = tops_of true c.in_ok-roots.roots.items in
    let items = rw c.as_slice.ensures at c.in_ok-roots.ensures.roots in
    let root = rw c.as_slice-2.ensures.value at c.in_ok-types.ensures.root in
    let ground =
    sym (ground-at (lines_of c.in_ok-types.types) c.in_ok-types.ensures.held.lines c.in_ok-types.at
    (ground_of c.args.program.now.result) c.in_ok-types.ensures.within)
    ∙ sym c.is_ground.ensures ∙ c.if-not-is_ground.false in
    program_followed c.args.cert.now c.in_ok-roots.rest.now c.in_ok-types.rest.now
    (program_of c.args.program.now) tops c.in-Some.rest.now (type_at c.in_ok-types.types c.in_ok-types.at) true true
    (sym c.in-Some.ensures) items root ground (end_is c.in_ok-types.rest.now true (sym c.is_empty.ensures
    ∙ c.if-not-is_empty.false))
