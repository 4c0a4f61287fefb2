use Rattle.std.proofs.Common.{true≢false, sym, ◌∙◌}
use Rattle.mw_term.specs.Terms.{kernel_type_of}
use Rattle.mw_key.specs.Reading.{words_left}
use Rattle.mw_key.proofs.SkippedCode.{typed_whole, typed_more, typed_none}
use Rattle.mw_key.proofs.passing.whole_type.Goals as goal

pub returns-in-Ok : goal.returns-in-Ok
returns-in-Ok c =
    typed_whole (words_left c.args.reader.now.rest) _ _ c.in_ok-_version._version (kernel_type_of c.in_ok-kind.kind) _ _
    (rw c.allow.ensures.rest at (rw c.allow.ensures.nodes at c.in_ok-_version.ensures)) c.in_ok-kind.ensures _ _
    (rw c.allow-2.ensures.rest at (rw c.allow-2.ensures.nodes at c.in-Ok.ensures))
    (c.is_at_end.ensures.0 c.if-is_at_end.true)

pub returns-in-Ok-2 : goal.returns-in-Ok-2
returns-in-Ok-2 c = λ bad.
    typed_more (words_left c.args.reader.now.rest) _ _ c.in_ok-_version._version (kernel_type_of c.in_ok-kind.kind) _ _
    (rw c.allow.ensures.rest at (rw c.allow.ensures.nodes at c.in_ok-_version.ensures)) c.in_ok-kind.ensures _ _
    (rw c.allow-2.ensures.rest at (rw c.allow-2.ensures.nodes at c.in-Ok-2.ensures))
    (λ end. true≢false (sym (c.is_at_end.ensures.1 end) ∙ c.if-is_at_end.false))

pub returns-in-Err : goal.returns-in-Err
returns-in-Err c = λ bad.
    typed_none (words_left c.args.reader.now.rest) _ _ c.in_ok-_version._version (kernel_type_of c.in_ok-kind.kind) _ _
    (rw c.allow.ensures.rest at (rw c.allow.ensures.nodes at c.in_ok-_version.ensures)) c.in_ok-kind.ensures
    (rw c.allow-2.ensures.rest at (rw c.allow-2.ensures.nodes at c.in-Err.ensures bad))
