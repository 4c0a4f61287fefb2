use Rattle.std.proofs.Common.{ℕ, List, ◌-◌, subst, ap, drop}
use Rattle.std.proofs.lemmas.List.{take_rest}
use Rattle.mw_store.specs.Loads.{file_limit}
use Rattle.mw_store.specs.Whole.{kept_in, IsFoundIn}
use Rattle.mw_store.proofs.RecordSequences.{one_taken}
use Rattle.mw_store.proofs.load.Load.take_next.Goals as goal

pub returns-in_ok-keep-in-Some-clause-more : goal.returns-in_ok-keep-in-Some-clause-more
returns-in_ok-keep-in-Some-clause-more c =
    let bytes = c.args.bytes.now in
    let here = subst (λ (xs : List ℕ). IsFoundIn c.in_ok-whole_record.field-0 xs (file_limit - c.self.inside.good))
    (take_rest bytes c.self.inside.good) c.in_ok-whole_record.ensures in
    let found = subst (λ (n : ℕ). IsFoundIn c.in_ok-whole_record.field-0 (drop n bytes) (file_limit - n))
    (ap (λ s. s.good) c.self.view_is) here in
    let is = subst
    (λ o. IsFoundIn o (drop c.args.self.now.good bytes) (file_limit - c.args.self.now.good)) c.in-Some.is found in
    one_taken bytes c.args.self.now c.keep.new.self
    (kept_in c.in-Some.found) c.requires is.0 is.1 c.in_ok-keep-in-Some.ensures
