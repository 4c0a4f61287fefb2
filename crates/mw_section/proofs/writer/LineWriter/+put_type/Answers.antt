use Rattle.std.proofs.Common.{◌≡◌, refl}
use Rattle.std.proofs.lemmas.Result.{IfOk-weaker}
use Rattle.mw_types.specs.Types.{pair_ty, function_ty, code_ty, closed_ty, type_of}
use Rattle.mw_lines.specs.TypeLines.{unknown_line, pair_line, arrow_line, code_line, closed_line}
use Rattle.mw_section.specs.Writing.{type_written, classifier_written}
use Rattle.mw_section.specs.Writers.{unknown_written}
use Rattle.mw_section.proofs.WriterContents.{puts_one, puts_two}
use Rattle.mw_section.proofs.writer.LineWriter.+put_type.Goals as goal

pub returns-in-Int : goal.returns-in-Int
returns-in-Int t c =
    IfOk-weaker c.put_line.result _ _ (λ k h types. rw c.in-Int.is (h types)) c.put_line.ensures

pub returns-in-Bool : goal.returns-in-Bool
returns-in-Bool t c =
    IfOk-weaker c.put_line-in-Bool.result _ _ (λ k h types. rw c.in-Bool.is (h types)) c.put_line-in-Bool.ensures

pub returns-in_ok-number-in-Unknown : goal.returns-in_ok-number-in-Unknown
returns-in_ok-number-in-Unknown t c =
    IfOk-weaker c.put_line-in-Unknown.result _ _ (λ k h types. rw c.in-Unknown.is (
    puts_one types unknown_line (unknown_written c.in-Unknown.unknown) c.args.self.now c.put_unknown.new.self
    c.put_line-in-Unknown.new.self c.in_ok-number-in-Unknown.number k (c.in_ok-number-in-Unknown.ensures types)
    (h types)
    )) c.put_line-in-Unknown.ensures

pub returns-in_ok-second-in-Pair : goal.returns-in_ok-second-in-Pair
returns-in_ok-second-in-Pair t c =
    let e : type_of c.args.ty.now ≡ pair_ty (type_of c.deref.result.now) (type_of c.deref-in-Pair.result.now) =
    rw (c.in-Pair.is, c.deref.ensures, c.deref-in-Pair.ensures) refl in
    IfOk-weaker c.put_line-in-Pair.result _ _ (λ k h types. rw e (
    puts_two types pair_line (type_written (type_of c.deref.result.now))
    (type_written (type_of c.deref-in-Pair.result.now)) c.args.self.now c.put_type.new.self
    c.put_type-in-Pair.new.self c.put_line-in-Pair.new.self c.in_ok-first-in-Pair.first
    c.in_ok-second-in-Pair.second k (c.in_ok-first-in-Pair.ensures types) (c.in_ok-second-in-Pair.ensures types)
    (h types)
    )) c.put_line-in-Pair.ensures

pub returns-in_ok-to-in-Arrow : goal.returns-in_ok-to-in-Arrow
returns-in_ok-to-in-Arrow t c =
    let e : type_of c.args.ty.now
    ≡ function_ty (type_of c.deref-in-Arrow.result.now) (type_of c.deref-in-Arrow-2.result.now) =
    rw (c.in-Arrow.is, c.deref-in-Arrow.ensures, c.deref-in-Arrow-2.ensures) refl in
    IfOk-weaker c.put_line-in-Arrow.result _ _ (λ k h types. rw e (
    puts_two types arrow_line (type_written (type_of c.deref-in-Arrow.result.now))
    (type_written (type_of c.deref-in-Arrow-2.result.now)) c.args.self.now c.put_type-in-Arrow.new.self
    c.put_type-in-Arrow-2.new.self c.put_line-in-Arrow.new.self c.in_ok-from-in-Arrow.from
    c.in_ok-to-in-Arrow.to k (c.in_ok-from-in-Arrow.ensures types) (c.in_ok-to-in-Arrow.ensures types)
    (h types)
    )) c.put_line-in-Arrow.ensures

pub returns-in_ok-place-in-Code : goal.returns-in_ok-place-in-Code
returns-in_ok-place-in-Code t c =
    let e : type_of c.args.ty.now ≡ code_ty c.in-Code.classifier (type_of c.deref-in-Code.result.now) =
    rw (c.in-Code.is, c.deref-in-Code.ensures) refl in
    IfOk-weaker c.put_line-in-Code.result _ _ (λ k h types. rw e (
    puts_two types code_line (classifier_written c.in-Code.classifier)
    (type_written (type_of c.deref-in-Code.result.now)) c.args.self.now c.put_classifier.new.self
    c.put_type-in-Code.new.self c.put_line-in-Code.new.self c.in_ok-number-in-Code.number
    c.in_ok-place-in-Code.place k (c.in_ok-number-in-Code.ensures types) (c.in_ok-place-in-Code.ensures types)
    (h types)
    )) c.put_line-in-Code.ensures

pub returns-in_ok-place-in-Closed : goal.returns-in_ok-place-in-Closed
returns-in_ok-place-in-Closed t c =
    let e : type_of c.args.ty.now ≡ closed_ty (type_of c.deref-in-Closed.result.now) =
    rw (c.in-Closed.is, c.deref-in-Closed.ensures) refl in
    IfOk-weaker c.put_line-in-Closed.result _ _ (λ k h types. rw e (
    puts_one types closed_line (type_written (type_of c.deref-in-Closed.result.now)) c.args.self.now
    c.put_type-in-Closed.new.self c.put_line-in-Closed.new.self c.in_ok-place-in-Closed.place k
    (c.in_ok-place-in-Closed.ensures types) (h types)
    )) c.put_line-in-Closed.ensures
