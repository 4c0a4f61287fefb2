use Rattle.std.proofs.Common.{sym, ◌∙◌, subst}
use Rattle.mw_lines.specs.Tables.{lines_of, AreWithin as AreLines}
use Rattle.mw_recheck.specs.Views.{binders_of}
use Rattle.mw_recheck.proofs.NameLookup.{within_lines, stands_named, stands_else}
use Rattle.mw_recheck.proofs.names.stands_in.Goals as goal

pub returns-then-is_named : goal.returns-then-is_named
returns-then-is_named c =
    sym (stands_named (lines_of c.args.setting.now.types.now) c.args.classifier (binders_of c.args.scope.now)
    (sym c.is_named.ensures ∙ c.if-is_named.true))

pub holds_classifier-requires-clause-within : goal.holds_classifier-requires-clause-within
holds_classifier-requires-clause-within c =
    subst (λ l. AreLines c.args.setting.now.types.now l) (sym (c.as_slice.ensures.value ∙ c.in_ok-places.ensures))
    (within_lines c.args.setting.now.types.now (binders_of c.args.scope.now) c.requires.within)

pub returns : goal.returns
returns c =
    rw (
      sym (stands_else c.args.setting.now.types.now c.args.classifier (binders_of c.args.scope.now)
          (sym c.is_named.ensures ∙ c.if-is_named.false)),
      sym (c.as_slice.ensures.value
          ∙ c.in_ok-places.ensures),
    ) c.holds_classifier.ensures
