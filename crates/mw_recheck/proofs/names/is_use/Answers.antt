use Rattle.std.proofs.Common.{None, refl, sym, ◌∙◌, arith}
use Rattle.mw_lines.specs.Tables.{lines_of}
use Rattle.mw_lines.proofs.Candidates.{making_decided}
use Rattle.mw_recheck.proofs.NameLookup.{let_held, top_there, same_test, if_ok}
use Rattle.mw_recheck.proofs.LineTypes.{closed_kernel-at}
use Rattle.mw_recheck.proofs.names.is_use.Goals as goal

pub overflow_sub-len : goal.overflow_sub-len
overflow_sub-len c =
    let h = let_held _ _ _ _ c.requires.roots c.in-Some-Let.ensures c.in-Some-Let.field-0-is in
    omega (arith, h.1, c.len.ensures)

pub is_made-requires-clause-root : goal.is_made-requires-clause-root
is_made-requires-clause-root c =
    (let_held _ _ _ _ c.requires.roots c.in-Some-Let.ensures c.in-Some-Let.field-0-is).0

pub is_made-requires-clause-root_within : goal.is_made-requires-clause-root_within
is_made-requires-clause-root_within c =
    let h = let_held _ _ _ _ c.requires.roots c.in-Some-Let.ensures c.in-Some-Let.field-0-is in
    omega (arith, h.1, c.len.ensures)

pub returns-in-Some-Let : goal.returns-in-Some-Let
returns-in-Some-Let c =
    rw (
      top_there c.args.setting.now.kernels c.args.setting.now.roots.now c.args.index _ c.in-Some-Let.ensures,
      c.in-Some-Let.field-0-is,
    )
    (if_ok c.is_made.result _ _ (λ y h. same_test y _ (rw c.len.ensures at h) (making_decided _ _)) c.is_made.ensures)

pub returns-then-setting : goal.returns-then-setting
returns-then-setting c =
    rw (
      top_there c.args.setting.now.kernels c.args.setting.now.roots.now c.args.index _ c.in-Some-Kernel.ensures,
      c.in-Some-Kernel.field-0-is,
      c.if-setting.true,
    )
    (c.is_closed_kernel.ensures
    ∙ closed_kernel-at (lines_of c.args.setting.now.types.now) c.requires.held.lines c.args.at _ c.requires.within)

pub returns-else-setting : goal.returns-else-setting
returns-else-setting c =
    rw (
      top_there c.args.setting.now.kernels c.args.setting.now.roots.now c.args.index _ c.in-Some-Kernel.ensures,
      c.in-Some-Kernel.field-0-is,
      c.if-setting.false,
    ) refl

pub returns-in-None : goal.returns-in-None
returns-in-None c = rw (top_there c.args.setting.now.kernels c.args.setting.now.roots.now c.args.index None (sym
    (sym c.in-None.ensures))) refl
