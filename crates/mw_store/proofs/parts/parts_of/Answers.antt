use Rattle.std.proofs.Common.{◌∙◌, ◌++◌, ◌<◌, ◌^◌, ap, refl, sym, subst}
use Rattle.mw_store.proofs.RecordParts.{AreCut, cut_too_short, cut_before, cut_front, before}
use Rattle.mw_store.proofs.parts.parts_of.Goals as goal

pub returns-in_err-digest-clause-none : goal.returns-in_err-digest-clause-none
returns-in_err-digest-clause-none c = λ _.
    cut_too_short c.args.bytes.now c.in_ok-text_length.text_length c.in_ok-module_length.module_length
    c.in_ok-text.text.now
    c.in_ok-module.module.now c.in_ok-module.rest.now
    (record {
      small_text = c.in_ok-text_length.ensures.some.0;
      small_wasm = c.in_ok-module_length.ensures.some.0;
      first = c.in_ok-text_length.rest.now;
      second = c.in_ok-module_length.rest.now;
      third = c.in_ok-text.rest.now;
      text_length = c.in_ok-text_length.ensures.some.1;
      wasm_length = c.in_ok-module_length.ensures.some.1;
      text_is = c.in_ok-text.ensures.some.1;
      text_long = c.in_ok-text.ensures.some.0;
      wasm_is = c.in_ok-module.ensures.some.1;
      wasm_long = c.in_ok-module.ensures.some.0;
    }) (c.in_err-digest.ensures.none refl)

pub returns-clause-some : goal.returns-clause-some
returns-clause-some c =
    let cut : AreCut c.args.bytes.now c.in_ok-text_length.text_length c.in_ok-module_length.module_length
    c.in_ok-text.text.now
    c.in_ok-module.module.now c.in_ok-module.rest.now = record {
      small_text = c.in_ok-text_length.ensures.some.0;
      small_wasm = c.in_ok-module_length.ensures.some.0;
      first = c.in_ok-text_length.rest.now;
      second = c.in_ok-module_length.rest.now;
      third = c.in_ok-text.rest.now;
      text_length = c.in_ok-text_length.ensures.some.1;
      wasm_length = c.in_ok-module_length.ensures.some.1;
      text_is = c.in_ok-text.ensures.some.1;
      text_long = c.in_ok-text.ensures.some.0;
      wasm_is = c.in_ok-module.ensures.some.1;
      wasm_long = c.in_ok-module.ensures.some.0;
    } in
    let bytes = c.args.bytes.now in let text = c.in_ok-text.text.now in let wasm = c.in_ok-module.module.now in
    let n = c.in_ok-text_length.text_length in let m = c.in_ok-module_length.module_length in
    let front = cut_front bytes n m text wasm c.in_ok-module.rest.now cut in
    record {
      short_text = subst (λ k. k < 2 ^ 32) (sym cut.text_long) cut.small_text;
      short_module = subst (λ k. k < 2 ^ 32) (sym cut.wasm_long) cut.small_wasm;
      body = front;
      digest = c.in_ok-digest.ensures.some.0;
      rest = c.in_ok-digest.field-0-1.now;
      whole = cut_before bytes n m text wasm c.in_ok-module.rest.now cut
          ∙ ap (λ xs. before text wasm ++ xs) c.in_ok-digest.ensures.some.1
          ∙ ap (λ xs. xs ++ (c.in_ok-digest.digest.now ++ c.in_ok-digest.field-0-1.now)) (sym front);
    }
