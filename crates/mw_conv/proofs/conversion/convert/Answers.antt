use Rattle.std.proofs.Common.{◌∙◌, ap, length, arith}
use Rattle.mw_term.specs.Terms.{expression_of}
use Rattle.mw_conv.proofs.Ranges.{is_converted, size_small, depth_small, funs_few}
use Rattle.mw_conv.proofs.Conversions.{found_length, can_begin, functions_are, outside_is}
use Rattle.mw_conv.proofs.Conversions.{means_alike, in_range}
use Rattle.mw_conv.proofs.conversion.convert.Goals as goal

pub find-requires : goal.find-requires
find-requires c = omega (arith, size_small (expression_of c.args.code.now) c.requires.limits)

pub new-converter-requires : goal.new-converter-requires
new-converter-requires c =
    let e = ap length c.in_ok-found.ensures.found ∙ found_length (expression_of c.args.code.now) 0 in
    omega (
      arith,
      e,
      funs_few (expression_of c.args.code.now),
      size_small (expression_of c.args.code.now) c.requires.limits,
    )

pub convert-requires : goal.convert-requires
convert-requires c =
    let e = expression_of c.args.code.now in
    can_begin _ e c.requires.closed (size_small e c.requires.limits) c.new-converter.ensures.context
    (c.new-converter.ensures.left ∙ (ap length c.in_ok-found.ensures.found ∙ found_length e 0))
    (ap (λ fs. fs.items) c.new-converter.ensures.found ∙ c.in_ok-found.ensures.found)

pub returns : goal.returns
returns c =
    let e = expression_of c.args.code.now in
    let l = c.new-converter.ensures.left ∙ (ap length c.in_ok-found.ensures.found ∙ found_length e 0) in
    let t = functions_are c.new-converter.result c.convert.new.self e _ _ c.new-converter.ensures.context l
    c.new-converter.ensures.funcs c.in_ok-body.ensures c.reverse.ensures in
    let f = outside_is c.new-converter.result c.convert.new.self e _ c.in_ok-found.slots
    c.new-converter.ensures.context l c.in_ok-body.ensures c.in_ok-found.ensures.slots in
    record {
      functions = t;
      body = f;
      meaning = means_alike e _ _ t f;
      converted = in_range e _ _ t f (is_converted e c.requires.closed c.in_ok-found.ensures.literals
          (size_small e c.requires.limits) (depth_small e c.requires.limits));
      literals = c.in_ok-found.ensures.literals;
    }
