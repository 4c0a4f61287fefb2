use Rattle.std.proofs.Common.{◌≡◌, ◌∙◌, sym, ap, ℕ, List, length, arith, rules}
use Rattle.std.proofs.lemmas.List.{length-map}
use Rattle.std.specs.String.{string_bytes}
use Rattle.mw_words.specs.Words.{sample_command}
use Rattle.mw_words.proofs.Items.{one_item, first_same, on_err}
use Rattle.mw_words.proofs.Usage.{no_sample}
use Rattle.mw_words.proofs.read_sample.Goals as goal
use Rattle.mw_words.proofs.read_sample.Goals.{in_default-via-then-words-lt1}
use Rattle.mw_words.proofs.read_sample.Goals.{in_default-via-else-words-lt1+else-words-lt2}

pub returns-clause-some : goal.returns-clause-some
returns-clause-some c =
    let size = c.in-len1 in
    let item = c.word-item in
    let only = one_item string_bytes c.args.words.now item.result size.len_at_least size.len_below item.is in
    rw (only, ← c.as_str.ensures.value) (sample_command c.in_ok-number.ensures.ok)

pub returns-in_default-clause-usage : goal.returns-in_default-clause-usage
returns-in_default-clause-usage c = no_sample (λ word n e is.
    let size = length-map c.args.words.now string_bytes in
    let one : length c.args.words.now ≡ 1 = omega (arith, ap (λ (l : List (List ℕ)). length l) e, size) in
    elim c.in_default.branch [
      | in_default-via-then-words-lt1 w ↦ search rules
      | in_default-via-else-words-lt1+else-words-lt2 w ↦ search rules
    ])

pub returns-in_err-number-clause-usage : goal.returns-in_err-number-clause-usage
returns-in_err-number-clause-usage c = on_err c.from_residual.result _ (no_sample (λ word n e is.
    let size = c.in-len1 in
    let item = c.word-item in
    let only = one_item string_bytes c.args.words.now item.result size.len_at_least size.len_below item.is in
    let same : word ≡ c.as_str.result.now = first_same (sym e ∙ only) ∙ sym c.as_str.ensures.value in
    c.in_err-number.ensures.usage n (rw same at is)))
