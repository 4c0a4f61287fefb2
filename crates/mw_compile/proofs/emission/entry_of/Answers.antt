use Rattle.mw_key.specs.declared.version.Version.TheVariants.{Two}
use Rattle.std.proofs.Common.{◌∙◌}
use Rattle.std.specs.Arc.{arc_value}
use Rattle.mw_term.specs.Terms.{expression_of, kernel_type_of}
use Rattle.mw_gen.proofs.EmissionProof.{generated_is_emitted}
use Rattle.mw_compile.proofs.EmittedEntries.{generated_kept, entry_of, entry_kept}
use Rattle.mw_compile.proofs.emission.entry_of.Goals as goal

pub encode-requires : goal.encode-requires
encode-requires c = record { spelled = (c.in_ok-wasm.ensures.spelled.bytes, c.in_ok-wasm.ensures.spelled.spell) }

pub sure-requires : goal.sure-requires
sure-requires c =
    generated_kept Two (expression_of c.args.code.now)
    (kernel_type_of c.args.kind.now) c.in_ok-wasm.wasm c.in_ok-wasm.ensures.valid
    (c.in_ok-wasm.ensures.generated
    ∙ generated_is_emitted Two (expression_of c.args.code.now)
    (kernel_type_of c.args.kind.now) c.in_ok-converted.converted
    c.in_ok-converted.ensures.functions c.in_ok-converted.ensures.body)

pub invariant_of-result : goal.invariant_of-result
invariant_of-result c =
    let code = expression_of c.args.code.now in
    let kind = kernel_type_of c.args.kind.now in
    let made = c.in_ok-wasm.ensures.generated
    ∙ generated_is_emitted Two code kind c.in_ok-converted.converted c.in_ok-converted.ensures.functions
    c.in_ok-converted.ensures.body in (
      entry_kept _ code kind (entry_of code kind c.in_ok-wasm.wasm
          (arc_value c.in_ok-new.field-0) c.args.text.items c.in_ok-bytes.bytes.items
          c.requires.text made c.in_ok-bytes.ensures.exact (c.in_ok-new.ensures.ok ∙ c.sure.ensures)),
      c.requires.digest,
    )

pub returns : goal.returns
returns c =
    let code = expression_of c.args.code.now in
    let kind = kernel_type_of c.args.kind.now in
    let made = c.in_ok-wasm.ensures.generated
    ∙ generated_is_emitted Two code kind c.in_ok-converted.converted c.in_ok-converted.ensures.functions
    c.in_ok-converted.ensures.body in
    entry_of code kind c.in_ok-wasm.wasm (arc_value c.in_ok-new.field-0) c.args.text.items c.in_ok-bytes.bytes.items
    c.requires.text made c.in_ok-bytes.ensures.exact (c.in_ok-new.ensures.ok ∙ c.sure.ensures)
