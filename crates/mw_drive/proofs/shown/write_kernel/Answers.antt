use Rattle.std.proofs.Common.{◌≡◌, ◌++◌, ap, ◌∙◌, refl, subst}
use Rattle.mw_term.specs.Terms.{kernel_type_of}
use Rattle.mw_console.specs.Texts.{kernel_text}
use Rattle.mw_drive.specs.Works.{kernel_lines}
use Rattle.mw_drive.specs.ProgramRuns.{kernel_of}
use Rattle.mw_drive.specs.Written.{Writes}
use Rattle.mw_drive.proofs.Faults.{text_written}
use Rattle.mw_drive.proofs.HonestRuns.{honest_text}
use Rattle.mw_drive.specs.PrintedKernels.{printed_lines, printed_of}
use Rattle.mw_drive.proofs.KernelLines.{its_lines, bytes_are}
use Rattle.mw_drive.proofs.shown.write_kernel.Goals as goal

pub returns-clause-writes : goal.returns-clause-writes
returns-clause-writes g c honest mode built =
    let kernel = c.args.kernel.now in
    let lines =
    its_lines mode c.args.cache.now kernel built _ c.bytes-bytes.result.now
    c.digest-key.ensures
    (c.bytes-bytes.ensures.emission (honest_text c.args.cache.now.load honest _)) in
    let told =
    kernel_text kernel.name.now (kernel_type_of kernel.kind.now) c.digest-key.result c.bytes-bytes.result.now in
    let text : c.as_slice.result.now ≡ kernel_lines mode (kernel_of kernel) =
    c.as_slice.ensures.value
    ∙ (c.in_ok-put_kernel.ensures ∙ (ap (λ t. t ++ told) c.new-lines.ensures.items ∙ lines)) in
    subst (Writes c.write_lines.result g.K.Sink.tells _ _) text
    (text_written c.write_lines.result g.K.Sink.tells _ _ c.as_slice.result.now c.write_lines.ensures.ok
    c.write_lines.ensures.front)

pub returns-clause-printed : goal.returns-clause-printed
returns-clause-printed g c =
    let kernel = c.args.kernel.now in
    let cache = c.args.cache.now in
    let bytes = bytes_are cache kernel.got.now c.bytes-bytes.result.now c.bytes-bytes.ensures.bytes in
    let told =
    kernel_text kernel.name.now (kernel_type_of kernel.kind.now) c.digest-key.result c.bytes-bytes.result.now in
    let lines : told ≡ printed_lines (printed_of cache kernel) = rw (c.digest-key.ensures, bytes) refl in
    let text : c.as_slice.result.now ≡ printed_lines (printed_of cache kernel) =
    c.as_slice.ensures.value
    ∙ (c.in_ok-put_kernel.ensures ∙ (ap (λ t. t ++ told) c.new-lines.ensures.items ∙ lines)) in
    subst (Writes c.write_lines.result g.K.Sink.tells _ _) text
    (text_written c.write_lines.result g.K.Sink.tells _ _ c.as_slice.result.now c.write_lines.ensures.ok
    c.write_lines.ensures.front)
