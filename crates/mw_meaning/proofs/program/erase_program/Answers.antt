use Rattle.std.proofs.Common.{ap, ◌∙◌, sym, subst}
use Rattle.mw_term.specs.Terms.{expression_of}
use Rattle.mw_term.specs.Typable.{Typable}
use Rattle.mw_term.specs.Programs.{program_of}
use Rattle.mw_meaning.specs.ErasureLaws.{IsWithoutStaging}
use Rattle.mw_meaning.specs.NewNames.{definitions}
use Rattle.mw_meaning.proofs.ErasedProgramTyping.{erased_program_is_typable}
use Rattle.mw_meaning.proofs.NoStaging.{erased_program_has_no_staging}
use Rattle.mw_meaning.proofs.NewNames.{erased_is, few_items, items_room, body_room}
use Rattle.mw_meaning.proofs.program.erase_program.Goals as goal

pub names_of-requires : goal.names_of-requires
names_of-requires c = few_items (program_of c.args.program.now) c.as_slice-items.result.now
    (ap definitions c.as_slice-items.ensures) c.requires.nodes

pub erased_lets-requires : goal.erased_lets-requires
erased_lets-requires c = items_room (program_of c.args.program.now) c.as_slice-items.result.now
    (ap definitions c.as_slice-items.ensures) c.requires.nodes c.as_slice.result.now
    (c.as_slice.ensures.value ∙ c.in_ok-names.ensures)

pub boxed-requires : goal.boxed-requires
boxed-requires c = body_room (program_of c.args.program.now) c.as_slice-items.result.now
    (ap definitions c.as_slice-items.ensures) c.requires.nodes c.as_slice-2.result.now
    (c.as_slice-2.ensures.value ∙ c.in_ok-names.ensures)

pub inside-requires : goal.inside-requires
inside-requires c = items_room (program_of c.args.program.now) c.as_slice-items.result.now
    (ap definitions c.as_slice-items.ensures) c.requires.nodes c.as_slice-3.result.now
    (c.as_slice-3.ensures.value ∙ c.in_ok-names.ensures)

pub returns-clause-erased : goal.returns-clause-erased
returns-clause-erased c =
    erased_is (program_of c.args.program.now) (definitions c.as_slice-items.result.now)
    (ap definitions c.as_slice-items.ensures) c.requires.names
    (c.as_slice.ensures.value ∙ c.in_ok-names.ensures) (c.as_slice-2.ensures.value ∙ c.in_ok-names.ensures)
    (c.as_slice-3.ensures.value ∙ c.in_ok-names.ensures) c.in_ok-lets.ensures.lets c.in_ok-result.ensures
    c.in_ok-main.ensures (ap expression_of c.into_inner.ensures ∙ c.in_ok-body.ensures)

pub returns-clause-typable : goal.returns-clause-typable
returns-clause-typable c = λ s h. subst Typable (sym (returns-clause-erased c))
    (erased_program_is_typable (program_of c.args.program.now) s h)

pub returns-clause-unstaged : goal.returns-clause-unstaged
returns-clause-unstaged c = subst IsWithoutStaging (sym (returns-clause-erased c))
    (erased_program_has_no_staging (program_of c.args.program.now))
