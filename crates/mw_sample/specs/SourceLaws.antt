-- What holds of each source.
use Rattle.std.specs.Prelude.{◌≡◌, ℕ, ◌+◌, List, ◌++◌, nat_eq, codes}
use Rattle.std.specs.List.{count_by}
use Rattle.mw_sample.specs.Sample.{sample_text}

-- how many lines end in a text
abbrev pub lines_ended : List ℕ → ℕ
lines_ended text = count_by (λ byte. nat_eq byte 10) text

-- a source has two lines more than kernels
abbrev pub LinesOfSource : Type 0
LinesOfSource = (n : ℕ) → lines_ended (sample_text n) ≡ n + 2

-- its last line ends too
abbrev pub LastLineEnds : Type 0
LastLineEnds = (n : ℕ) → (front : List ℕ) × (sample_text n ≡ front ++ codes "\n")
