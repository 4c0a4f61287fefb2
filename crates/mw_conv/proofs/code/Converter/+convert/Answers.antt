use Rattle.std.proofs.Common.{◌∙◌, refl, ap, arith}
use Rattle.mw_term.specs.Terms.{expression_of}
use Rattle.mw_conv.proofs.Closures.{all_within}
use Rattle.mw_conv.proofs.Converting.{can_first, can_second, can_branches, can_condition, var_converted}
use Rattle.mw_conv.proofs.Converting.{can_body, slot_taken, can_definition, taken_levels, few_levels}
use Rattle.mw_conv.proofs.Converting.{can_inside, function_converted}
use Rattle.mw_conv.proofs.code.Converter.+convert.Goals as goal

pub convert-returns-in-Var : goal.convert-returns-in-Var
convert-returns-in-Var t c = rw c.in-Var.is
    (var_converted _ _ _ _ _ (rw c.in-Var.is at c.requires) (omega arith) c.index.ensures)

pub convert_two-convert_boxed-requires : goal.convert_two-convert_boxed-requires
convert_two-convert_boxed-requires t c = (omega arith, can_second _ _ _ _ c.requires)

pub convert_two-convert_boxed-requires-2 : goal.convert_two-convert_boxed-requires-2
convert_two-convert_boxed-requires-2 t c = (omega arith, can_first _ _ _ _ _ _ c.requires c.in_ok-second.ensures)

pub convert_if-convert_two-requires : goal.convert_if-convert_two-requires
convert_if-convert_two-requires t c = (omega arith, can_branches _ _ _ _ _ c.requires)

pub convert_if-convert_boxed-requires : goal.convert_if-convert_boxed-requires
convert_if-convert_boxed-requires t c = (omega arith, can_condition _ _ _ _ _ _ _ c.requires c.in_ok-yes.ensures)

pub convert_let-convert_boxed-requires : goal.convert_let-convert_boxed-requires
convert_let-convert_boxed-requires t c = (omega arith, can_body _ _ _ _ _ c.in_ok-push.ensures.items c.requires)

pub convert_let-convert_boxed-requires-2 : goal.convert_let-convert_boxed-requires-2
convert_let-convert_boxed-requires-2 t c = (
  omega arith,
  can_definition c.args.self.now _ c.push.new.self _ _ _ _ _ c.in_ok-push.ensures.items c.in_ok-body.ensures
      (slot_taken c.args.self.now _ c.push.new.self c.pop-slot.new.self _ _ _ _ c.in_ok-push.ensures.items
      c.in_ok-body.ensures
      c.pop-slot.ensures.rest (omega arith)) c.requires,
)

pub convert_function-places_of-requires : goal.convert_function-places_of-requires
convert_function-places_of-requires t c =
    all_within _ _ _ (taken_levels _ _ _ _ _ _ c.requires c.in-Some.ensures.items c.as_slice-levels.ensures)

pub convert_function-inner_context-requires-clause-few : goal.convert_function-inner_context-requires-clause-few
convert_function-inner_context-requires-clause-few t c =
    few_levels _ _ _ _ c.requires
    (taken_levels _ _ _ _ _ _ c.requires c.in-Some.ensures.items c.as_slice-levels.ensures)

pub convert_function-inner_context-requires-clause-within :
    goal.convert_function-inner_context-requires-clause-within
convert_function-inner_context-requires-clause-within t c =
    all_within _ _ _ (taken_levels _ _ _ _ _ _ c.requires c.in-Some.ensures.items c.as_slice-levels.ensures)

pub convert_function-convert-requires : goal.convert_function-convert-requires
convert_function-convert-requires t c = (
  omega arith,
  can_inside c.args.recursive (expression_of c.args.body.now) c.args.self.now c.in-Some.field-0 c.pop.new.self
      c.replace-outer.new.dest c.as_slice-levels.result.now c.requires c.in-Some.ensures.items
      (ap (λ ps. ps.items) c.replace-outer.ensures.after ∙ c.in_ok-inner.ensures),
)

pub convert_function-overflow_cast-free : goal.convert_function-overflow_cast-free
convert_function-overflow_cast-free t c = omega (
  arith,
  few_levels _ _ _ _ c.requires
      (taken_levels _ _ _ _ _ _ c.requires c.in-Some.ensures.items c.as_slice-levels.ensures),
)

pub convert_function-returns : goal.convert_function-returns
convert_function-returns t c = λ slot. function_converted c.args.recursive (expression_of c.args.body.now)
    c.args.self.now c.convert.new.self c.in-Some.field-0 c.pop.new.self c.replace-outer.new.dest c.replace-outer.result
    c.as_slice-levels.result.now c.in_ok-places.places _ slot c.in_ok-body.body c.push.new.self c.requires
    c.in-Some.ensures.items c.as_slice-levels.ensures
    (ap (λ ps. ps.items) c.replace-outer.ensures.after ∙ c.in_ok-inner.ensures) c.in_ok-places.ensures
    c.in_ok-body.ensures
    (ap (λ ps. ps.items) c.replace-outer.ensures.value) refl c.in_ok-push.ensures.ok
